-- Demand 3 of the code: whatever the contracts of the entry points allow, over any list of calls, is what the plain machine does,
-- and the claim about the list holds of it. Every list has such runs.
-- Assumes nothing.
use Rattle.std.specs.Prelude.{ℕ, ◌<◌, ◌≡◌, true, List, [], ◌∷◌, ◌++◌, length}
use Rattle.model.specs.Vector.{handed_count}
use Rattle.model.specs.Replay.{replay}
use Rattle.model.specs.Table.{table_bytes}
use Rattle.model.specs.Block.{count_in}
use Rattle.base_model.specs.Base.{held_on}
use Rattle.call_model.specs.Outcome.{Outcome, show_of}
use Rattle.call_model.specs.Fold.{fold_work}
use Rattle.call_laws.specs.Keeps.{Good}
use Rattle.machine.specs.Machine.{Call, starts, acts, hands_out, writes, takes, folds, Bench, bare, held, held_vector, block_given, play, outcomes}
use Rattle.machine.specs.Runs.{Runs}
use Rattle.machine.specs.Callable.{all_callable}
use Rattle.machine.specs.Claim.{distinct, Based, Claim}
use Rattle.index_model.specs.Index.{index_size}
use Rattle.index_model.specs.Kept.{index_fits, both_fit, act_kept_work, take_kept_work, take_row_kept_work, RowKept}
use Rattle.index_claims.specs.Lists.{UnitCall, starts as startsOne, acts as actsOne, takes as takesOne, takes_row, folds as foldsOne, Carried, leaves_all, AllGiven, Right}
use Rattle.claims.specs.Typed.{Typed}
use Rattle.claims.specs.Ran.{RanStart, RanAct, RanHandOut, RanWriteFile, RanTake, RanTakeRow, RanFold, RanShow}
use Rattle.keep_start.proofs.start.Statement.{statement as StartMeets}
use Rattle.keep_act.proofs.act.Statement.{statement as ActMeets}
use Rattle.hand_out.proofs.hand_out.Statement.{statement as HandOutMeets}
use Rattle.write_file.proofs.write_file.Statement.{statement as WriteFileMeets}
use Rattle.keep_take.proofs.take.Statement.{statement as TakeMeets}
use Rattle.keep_take_row.proofs.take_row.Statement.{statement as TakeRowMeets}
use Rattle.fold.proofs.fold.Statement.{statement as FoldMeets}
use Rattle.show_tree.proofs.show_tree.Statement.{statement as ShowMeets}

-- a run of a call on a bench: the entry point gets the common archive, its unit's number, its unit's log and base, a take a copy of the
-- block given; a start and an act any index of one of the two lengths, a take any index and work memory of theirs, or neither
abbrev pub Ran : ℕ → Bench → Call → Outcome → Type 0
Ran archive s (starts u) o = (i : List ℕ) × (j : List ℕ) × (index_fits i ≡ true) × RanStart u (s.logs u) (s.bases u) i o j
Ran archive s (acts u w work) o =
    (i : List ℕ) × (j : List ℕ) × (x : List ℕ) × (index_fits i ≡ true) × RanAct u (s.logs u) (s.bases u) i w work o j x
Ran archive s (hands_out u v lent) o = RanHandOut archive u (s.logs u) (s.bases u) v lent o
Ran archive s (writes u lent) o = RanWriteFile archive u (s.logs u) (s.bases u) lent o
Ran archive s (takes u n) o =
    (i : List ℕ) × (work : List ℕ) × (j : List ℕ) × (x : List ℕ) × (both_fit i work ≡ true)
    × RanTake archive u (s.logs u) (s.bases u) i (block_given s n).bytes work o j x
Ran archive s (folds u m work) o = (x : List ℕ) × RanFold u (s.logs u) (s.bases u) m work o x

-- a run of a unit's call on its log, base and index, and what it leaves of them
abbrev pub RanKept : ℕ → ℕ → Carried → UnitCall → Carried → Type 0
RanKept archive u s startsOne t =
    (o : Outcome) × RanStart u s.log s.base s.index o t.index × (t.log ≡ o.log) × (t.base ≡ o.lent)
RanKept archive u s (actsOne w work) t =
    (o : Outcome) × (x : List ℕ) × RanAct u s.log s.base s.index w work o t.index x × (t.log ≡ o.log) × (t.base ≡ s.base)
RanKept archive u s (takesOne b work) t =
    (o : Outcome) × (x : List ℕ) × RanTake archive u s.log s.base s.index b work o t.index x × (t.log ≡ o.log) × (t.base ≡ s.base)
RanKept archive u s (takes_row row work) t =
    (o : RowKept) × (x : List ℕ) × RanTakeRow archive u s.log s.base s.index row work o x × (t.log ≡ o.log) × (t.base ≡ s.base)
    × (t.index ≡ o.index)
RanKept archive u s (foldsOne m work) t =
    (o : Outcome) × (x : List ℕ) × RanFold u s.log s.base m work o x × (t.log ≡ o.log) × (t.base ≡ o.lent) × (t.index ≡ s.index)

-- runs of a list of calls, each on what the one before left
abbrev pub RunsKept : ℕ → ℕ → Carried → List UnitCall → Carried → Type 0
RunsKept archive u s [] t = t ≡ s
RunsKept archive u s (c ∷ cs) t = (x : Carried) × RanKept archive u s c x × RunsKept archive u x cs t

-- the routine of each entry point meets its contract
pub record Meets (M : Type 1) : Type 2 where
  pub start : StartMeets M
  pub act : ActMeets M
  pub hand_out : HandOutMeets M
  pub write_file : WriteFileMeets M
  pub take : TakeMeets M
  pub take_row : TakeRowMeets M
  pub fold : FoldMeets M
  pub show_tree : ShowMeets M

-- what a run of `show_tree` on the log and the base of a unit, into a lent tree table, gives: the outcome stated, and so in a table of
-- its length the replay of the held records, folded ones with them
pub record Shown (t : Bench) (u : ℕ) (lent : List ℕ) (o : Outcome) : Type 0 where
  pub stated : o ≡ show_of (t.logs u) (t.bases u) lent
  pub answered : length lent ≡ 86020 → o.number ≡ 0
  pub replayed : length lent ≡ 86020 → o.lent ≡ table_bytes (replay (held t u))

-- what runs of the code over a list of calls, from empty logs and bases, come to
pub record CodeClaim (archive : ℕ) (before cs : List Call) (os : List Outcome) (t : Bench) : Type 0 where
  -- D1: answers, logs, bases and given bytes are the machine's
  pub answers : os ≡ outcomes archive bare (before ++ cs)
  pub bench : t ≡ play archive bare (before ++ cs)
  -- every state is sound, and every base stands for the records held
  pub good : (u : ℕ) → Good (t.logs u) (t.bases u)
  pub based : (u : ℕ) → Based t u
  -- D2, D3: the claim, where no number was used a second time by its unit
  pub claim : distinct t.used ≡ true → Claim archive before cs
  -- what each unit shows
  pub shown : (u : ℕ) (lent : List ℕ) (o : Outcome) → RanShow (t.logs u) (t.bases u) lent o → Shown t u lent o
  -- so units with equal vectors are shown alike, whatever each has folded
  pub alike : distinct t.used ≡ true → (u v : ℕ) (lent : List ℕ) (o p : Outcome) → held_vector t u ≡ held_vector t v
      → RanShow (t.logs u) (t.bases u) lent o → RanShow (t.logs v) (t.bases v) lent p → (o.number ≡ p.number) × (o.lent ≡ p.lent)

-- whatever is run: what is left in the work memory is what is stated [F152]
pub record Worked : Type 0 where
  pub acted : (u : ℕ) (log base i w work : List ℕ) (o : Outcome) (j x : List ℕ) → RanAct u log base i w work o j x → x ≡ act_kept_work u log base i w work
  pub took : (archive u : ℕ) (log base i b work : List ℕ) (o : Outcome) (j x : List ℕ) → RanTake archive u log base i b work o j x
      → x ≡ take_kept_work archive u log base i b work
  pub took_row : (archive u : ℕ) (log base i row work : List ℕ) (o : RowKept) (x : List ℕ) → RanTakeRow archive u log base i row work o x
      → x ≡ take_row_kept_work archive u log base i row work
  pub folded : (u : ℕ) (log base : List ℕ) (m : ℕ) (work : List ℕ) (o : Outcome) (x : List ℕ) → RanFold u log base m work o x → x ≡ fold_work u log base m work

-- the code meets its contracts, and whatever they allow keeps the claim
pub record Demand3 (M : Type 1) : Type 2 where
  pub code : Meets M
  pub runs : (archive : ℕ) (before cs : List Call) (os : List Outcome) (t : Bench) → Runs (Ran archive) bare (before ++ cs) os t → CodeClaim archive before cs os t
  -- D4: the claim is not empty. Every list of calls has runs, and so has showing. Where the types of the entry points can hold
  -- what is asked, they hold all that is handed over and back
  pub exist : (archive : ℕ) (cs : List Call) → Runs (Ran archive) bare cs (outcomes archive bare cs) (play archive bare cs)
  pub typed : (archive : ℕ) (cs : List Call) → archive < 4294967296 → all_callable cs ≡ true
      → Runs (λ (s : Bench) (c : Call) (o : Outcome). Ran archive s c o × Typed archive s c o) bare cs (outcomes archive bare cs) (play archive bare cs)
  -- whatever `hand_out` is run on: a block that it gives counts the lesser of 6 and what the asked vector lacks against the held one [F93]
  pub handed : (archive u : ℕ) (log base v lent : List ℕ) (o : Outcome) → RanHandOut archive u log base v lent o → o.number ≡ 0
      → count_in o.lent ≡ handed_count v (held_on log base)
  pub worked : Worked
  -- a unit's log, base and index: whatever runs of its calls leave is what they state, and an index that is that of their tree stays so
  pub indexed : (archive u : ℕ) (cs : List UnitCall) (s t : Carried) → RunsKept archive u s cs t → t ≡ leaves_all archive u cs s
  pub index_right : (archive u : ℕ) (cs : List UnitCall) (s t : Carried) → RunsKept archive u s cs t → AllGiven cs → Right s → Right t
  pub index_started : (archive u : ℕ) (s t : Carried) → length s.index ≡ index_size → (o : Outcome) → RanStart u s.log s.base s.index o t.index
      → t.log ≡ o.log → t.base ≡ o.lent → o.number ≡ 0 → Right t
  pub index_exists : (archive u : ℕ) (cs : List UnitCall) (s : Carried) → RunsKept archive u s cs (leaves_all archive u cs s)
  pub show_exists : (log base lent : List ℕ) → RanShow log base lent (show_of log base lent)
