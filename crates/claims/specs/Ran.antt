-- Runs of the entry points by their own contracts: any arguments, result and exit that a contract allows.
-- Assumes nothing.
use Rattle.std.specs.Prelude.{ℕ, ◌≡◌, List, []}
use contract.Lifetimes.{Lfts}
use borrow.Fn.Kinds.{Dens, res_t, ended_of}
use denote.Triple.Clauses.{AtExit}
use Rattle.call_model.specs.Outcome.{Outcome, outcome}
use Rattle.index_model.specs.Kept.{RowKept, row_kept}
use Rattle.refusal.specs.Refusals.{code_of}
use Rattle.write_file.specs.Told.{blocks_of}
use Rattle.fold.specs.Records.{records_folded}
use Rattle.take_row.specs.Answer.{taken_of, stopped_of}
use Rattle.keep_act.proofs.act.Kinds as Act
use Rattle.keep_act.proofs.act.Reads.{Learnt as ActLearnt}
use Rattle.keep_take.proofs.take.Kinds as Take
use Rattle.keep_take.proofs.take.Reads.{Learnt as TakeLearnt}
use Rattle.keep_take_row.proofs.take_row.Kinds as TakeRow
use Rattle.keep_take_row.proofs.take_row.Reads.{Learnt as TakeRowLearnt}
use Rattle.fold.proofs.fold.Kinds as Fold
use Rattle.fold.proofs.fold.Reads.{Learnt as FoldLearnt}
use Rattle.show_tree.proofs.show_tree.Kinds as Show
use Rattle.show_tree.proofs.show_tree.Reads.{Learnt as ShowLearnt}
use Rattle.hand_out.proofs.hand_out.Kinds as Hand
use Rattle.hand_out.proofs.hand_out.Reads.{Learnt as HandLearnt}
use Rattle.write_file.proofs.write_file.Kinds as Write
use Rattle.write_file.proofs.write_file.Reads.{Learnt as WriteLearnt}
use Rattle.keep_start.proofs.start.Kinds as Start
use Rattle.keep_start.proofs.start.Reads.{Learnt as StartLearnt}

-- `start` at unit u, on a log, a base and an index, which becomes j
pub record RanStart (u : ℕ) (log base i : List ℕ) (o : Outcome) (j : List ℕ) : Type 0 where
  pub κs : Lfts 3
  pub args : Dens κs Start.ps
  pub result : (res_t Start.r κs).Denot
  pub exit : AtExit (ended_of 3 Start.ps Start.r) κs
  pub learnt : StartLearnt κs args result exit
  pub given : (args.0.now ≡ log) × (args.1.0.now ≡ base) × (args.1.1.0.now ≡ i) × (args.1.1.1.1.0 ≡ u)
  pub gave : o ≡ outcome (code_of result) 0 exit.0.now exit.1.0.now 0
  pub kept : j ≡ exit.1.1.0.now

-- `hand_out` at unit u, on a log and a base, to a vector asked for, into a lent block
pub record RanHandOut (archive u : ℕ) (log base v lent : List ℕ) (o : Outcome) : Type 0 where
  pub κs : Lfts 3
  pub args : Dens κs Hand.ps
  pub result : (res_t Hand.r κs).Denot
  pub exit : AtExit (ended_of 3 Hand.ps Hand.r) κs
  pub learnt : HandLearnt κs args result exit
  pub given : (args.0.now ≡ log) × (args.1.0.now ≡ base) × (args.1.1.0 ≡ archive) × (args.1.1.1.0 ≡ u) × (args.1.1.1.1.0.counts ≡ v) × (args.1.1.1.1.1.0.now ≡ lent)
  pub gave : o ≡ outcome (code_of result) 0 args.0.now exit.1.1.1.1.1.0.now 0

-- `write_file` at unit u, on a log and a base, into a lent file
pub record RanWriteFile (archive u : ℕ) (log base lent : List ℕ) (o : Outcome) : Type 0 where
  pub κs : Lfts 3
  pub args : Dens κs Write.ps
  pub result : (res_t Write.r κs).Denot
  pub exit : AtExit (ended_of 3 Write.ps Write.r) κs
  pub learnt : WriteLearnt κs args result exit
  pub given : (args.0.now ≡ log) × (args.1.0.now ≡ base) × (args.1.1.0 ≡ archive) × (args.1.1.1.0 ≡ u) × (args.1.1.1.1.0.now ≡ lent)
  pub gave : o ≡ outcome (code_of result) 0 args.0.now exit.1.1.1.1.0.now (blocks_of result)

-- `act` at unit u, on a log, a base and an index, which becomes j, with a wish, in work memory, which becomes x
pub record RanAct (u : ℕ) (log base i w work : List ℕ) (o : Outcome) (j x : List ℕ) : Type 0 where
  pub κs : Lfts 5
  pub args : Dens κs Act.ps
  pub result : (res_t Act.r κs).Denot
  pub exit : AtExit (ended_of 5 Act.ps Act.r) κs
  pub learnt : ActLearnt κs args result exit
  pub given : (args.0.now ≡ log) × (args.1.0.now ≡ base) × (args.1.1.0.now ≡ i) × (args.1.1.1.1.0 ≡ u) × (args.1.1.1.1.1.0.now ≡ w) × (args.1.1.1.1.1.1.0.now ≡ work)
  pub gave : o ≡ outcome (code_of result) 0 exit.0.now [] 0
  pub kept : j ≡ exit.1.1.0.now
  pub worked : x ≡ exit.1.1.1.1.1.1.0.now

-- `take` at unit u, on a log, a base and an index, which becomes j, of a block, in work memory, which becomes x
pub record RanTake (archive u : ℕ) (log base i b work : List ℕ) (o : Outcome) (j x : List ℕ) : Type 0 where
  pub κs : Lfts 5
  pub args : Dens κs Take.ps
  pub result : (res_t Take.r κs).Denot
  pub exit : AtExit (ended_of 5 Take.ps Take.r) κs
  pub learnt : TakeLearnt κs args result exit
  pub given : (args.0.now ≡ log) × (args.1.0.now ≡ base) × (args.1.1.0.now ≡ i) × (args.1.1.1.0.now ≡ work) × (args.1.1.1.1.0 ≡ archive) × (args.1.1.1.1.1.0 ≡ u) × (args.1.1.1.1.1.1.0.now ≡ b)
  pub gave : o ≡ outcome (code_of result) 0 exit.0.now [] 0
  pub kept : j ≡ exit.1.1.0.now
  pub worked : x ≡ exit.1.1.1.0.now

-- `take_row` at unit u, on a log, a base and an index, of a row of blocks, in work memory, which becomes x
pub record RanTakeRow (archive u : ℕ) (log base i row work : List ℕ) (o : RowKept) (x : List ℕ) : Type 0 where
  pub κs : Lfts 5
  pub args : Dens κs TakeRow.ps
  pub result : (res_t TakeRow.r κs).Denot
  pub exit : AtExit (ended_of 5 TakeRow.ps TakeRow.r) κs
  pub learnt : TakeRowLearnt κs args result exit
  pub given : (args.0.now ≡ log) × (args.1.0.now ≡ base) × (args.1.1.0.now ≡ i) × (args.1.1.1.0.now ≡ work) × (args.1.1.1.1.0 ≡ archive) × (args.1.1.1.1.1.0 ≡ u) × (args.1.1.1.1.1.1.0.now ≡ row)
  pub gave : o ≡ row_kept (code_of result) 0 (taken_of result) (stopped_of result) exit.0.now exit.1.1.0.now
  pub worked : x ≡ exit.1.1.1.0.now

-- `fold` at unit u, on a log and a base, by a list, in work memory, which becomes x
pub record RanFold (u : ℕ) (log base : List ℕ) (m : ℕ) (work : List ℕ) (o : Outcome) (x : List ℕ) : Type 0 where
  pub κs : Lfts 3
  pub args : Dens κs Fold.ps
  pub result : (res_t Fold.r κs).Denot
  pub exit : AtExit (ended_of 3 Fold.ps Fold.r) κs
  pub learnt : FoldLearnt κs args result exit
  pub given : (args.0.now ≡ log) × (args.1.0.now ≡ base) × (args.1.1.1.0 ≡ u) × (args.1.1.1.1.0 ≡ m) × (args.1.1.1.1.1.0.now ≡ work)
  pub gave : o ≡ outcome (code_of result) 0 exit.0.now exit.1.0.now (records_folded result)
  pub worked : x ≡ exit.1.1.1.1.1.0.now

-- `show_tree` of a log and a base, into a lent tree table
pub record RanShow (log base lent : List ℕ) (o : Outcome) : Type 0 where
  pub κs : Lfts 3
  pub args : Dens κs Show.ps
  pub result : (res_t Show.r κs).Denot
  pub exit : AtExit (ended_of 3 Show.ps Show.r) κs
  pub learnt : ShowLearnt κs args result exit
  pub given : (args.0.now ≡ log) × (args.1.0.now ≡ base) × (args.1.1.0.now ≡ lent)
  pub gave : o ≡ outcome (code_of result) 0 args.0.now exit.1.1.0.now 0
