-- A run that a contract allows has the outcome that is stated, and leaves what is stated in the index and the work memory.
-- Assumes nothing.
use Prim.Native.Nat.{ℕ}
use mathlib.Core.Path.{◌≡◌, sym, ap, ◌∙◌}
use mathlib.Core.Bool.{Bool, true}
use mathlib.Core.List.{List, []}
use lib.ListN.{replicate}
use Rattle.model.specs.Log.{records_of}
use Rattle.base_model.specs.Base.{base_vector, tree_of}
use Rattle.call_model.specs.Outcome.{Outcome, outcome, start_of, stamped, act_of, hand_of, write_of, take_of, show_of}
use Rattle.call_model.specs.Fold.{fold_of, fold_work}
use Rattle.index_model.specs.Index.{index_size}
use Rattle.index_model.specs.Acting.{change_in}
use Rattle.index_model.specs.Kept.{index_of_log, index_fits, both_fit, Kept, kept, kept_of, start_kept, act_kept, act_kept_work, take_kept, take_kept_work, RowKept, row_kept, take_row_kept, take_row_kept_work}
use Rattle.refusal.specs.Refusals.{code_of}
use Rattle.write_file.specs.Told.{blocks_of}
use Rattle.fold.specs.Records.{records_folded}
use Rattle.take_row.specs.Answer.{taken_of, stopped_of}
use Rattle.claims.specs.Ran.{RanStart, RanAct, RanHandOut, RanWriteFile, RanTake, RanTakeRow, RanFold, RanShow}
use Rattle.claims.proofs.Outcomes.{uncounted, changing_uncounted, start_made, act_made, take_made}

-- ---- calls that carry an index

kept-outcome : (fit : Bool) (log lent i : List ℕ) (o : Outcome) (j : List ℕ) {n p : ℕ} {x y z : List ℕ} → fit ≡ true → uncounted o ≡ o
    → kept n p x y z ≡ kept_of fit log lent i o j → outcome n p x z 0 ≡ o
unfolding kept_of
kept-outcome fit log lent i o j f c e = ap (λ (k : Kept). outcome k.number k.place k.log k.lent 0) (rw f at e) ∙ c

pub ran_start_kept : (u : ℕ) (log base i : List ℕ) (o : Outcome) (j : List ℕ) → RanStart u log base i o j → kept o.number o.place o.log j o.lent ≡ start_kept u log base i
ran_start_kept u log base i o j r =
    let a = r.args in
    let e : kept (code_of r.result) 0 r.exit.0.now r.exit.1.1.0.now r.exit.1.0.now
    ≡ start_kept a.1.1.1.1.0 a.0.now a.1.0.now a.1.1.0.now = r.learnt in
    cc

pub ran_start : (u : ℕ) (log base i : List ℕ) (o : Outcome) (j : List ℕ) → index_fits i ≡ true → RanStart u log base i o j → o ≡ start_of u log base
unfolding start_kept
ran_start u log base i o j f r =
    r.gave ∙ ap uncounted (sym r.gave)
    ∙ kept-outcome (index_fits i) log base i (start_of u log base) (replicate index_size 0) f (start_made u log base) (ran_start_kept u log base i o j r)

pub ran_act_kept : (u : ℕ) (log base i w work : List ℕ) (o : Outcome) (j x : List ℕ) → RanAct u log base i w work o j x
    → kept o.number o.place o.log j o.lent ≡ act_kept u log base i w work
ran_act_kept u log base i w work o j x r =
    let a = r.args in
    let e : kept (code_of r.result) 0 r.exit.0.now r.exit.1.1.0.now []
    ≡ act_kept a.1.1.1.1.0 a.0.now a.1.0.now a.1.1.0.now a.1.1.1.1.1.0.now a.1.1.1.1.1.1.0.now = r.learnt.0 in
    cc

pub ran_act_worked : (u : ℕ) (log base i w work : List ℕ) (o : Outcome) (j x : List ℕ) → RanAct u log base i w work o j x → x ≡ act_kept_work u log base i w work
ran_act_worked u log base i w work o j x r =
    let a = r.args in
    let e : r.exit.1.1.1.1.1.1.0.now
    ≡ act_kept_work a.1.1.1.1.0 a.0.now a.1.0.now a.1.1.0.now a.1.1.1.1.1.0.now a.1.1.1.1.1.1.0.now = r.learnt.1 in
    cc

pub ran_act : (u : ℕ) (log base i w work : List ℕ) (o : Outcome) (j x : List ℕ) → index_fits i ≡ true → RanAct u log base i w work o j x → o ≡ act_of u log base w work
unfolding act_kept
ran_act u log base i w work o j x f r =
    r.gave ∙ ap uncounted (sym r.gave)
    ∙ kept-outcome (index_fits i) log [] i (act_of u log base w work) (change_in (stamped u (base_vector base) (records_of log) w) (tree_of log base) i) f
    (changing_uncounted (act_of u log base w work) (act_made u log base w work)) (ran_act_kept u log base i w work o j x r)

pub ran_take_kept : (archive u : ℕ) (log base i b work : List ℕ) (o : Outcome) (j x : List ℕ) → RanTake archive u log base i b work o j x
    → kept o.number o.place o.log j o.lent ≡ take_kept archive u log base i b work
ran_take_kept archive u log base i b work o j x r =
    let a = r.args in
    let e : kept (code_of r.result) 0 r.exit.0.now r.exit.1.1.0.now []
    ≡ take_kept a.1.1.1.1.0 a.1.1.1.1.1.0 a.0.now a.1.0.now a.1.1.0.now a.1.1.1.1.1.1.0.now a.1.1.1.0.now = r.learnt.0 in
    cc

pub ran_take_worked : (archive u : ℕ) (log base i b work : List ℕ) (o : Outcome) (j x : List ℕ) → RanTake archive u log base i b work o j x
    → x ≡ take_kept_work archive u log base i b work
ran_take_worked archive u log base i b work o j x r =
    let a = r.args in
    let e : r.exit.1.1.1.0.now
    ≡ take_kept_work a.1.1.1.1.0 a.1.1.1.1.1.0 a.0.now a.1.0.now a.1.1.0.now a.1.1.1.1.1.1.0.now a.1.1.1.0.now = r.learnt.1 in
    cc

pub ran_take : (archive u : ℕ) (log base i b work : List ℕ) (o : Outcome) (j x : List ℕ) → both_fit i work ≡ true → RanTake archive u log base i b work o j x
    → o ≡ take_of archive u log base b
unfolding take_kept
ran_take archive u log base i b work o j x f r =
    r.gave ∙ ap uncounted (sym r.gave)
    ∙ kept-outcome (both_fit i work) log [] i (take_of archive u log base b) (index_of_log (take_of archive u log base b).log base) f
    (changing_uncounted (take_of archive u log base b) (take_made archive u log base b)) (ran_take_kept archive u log base i b work o j x r)

pub ran_take_row : (archive u : ℕ) (log base i row work : List ℕ) (o : RowKept) (x : List ℕ) → RanTakeRow archive u log base i row work o x
    → o ≡ take_row_kept archive u log base i row work
ran_take_row archive u log base i row work o x r =
    let a = r.args in
    let e : row_kept (code_of r.result) 0 (taken_of r.result) (stopped_of r.result) r.exit.0.now r.exit.1.1.0.now
    ≡ take_row_kept a.1.1.1.1.0 a.1.1.1.1.1.0 a.0.now a.1.0.now a.1.1.0.now a.1.1.1.1.1.1.0.now a.1.1.1.0.now = r.learnt.0 in
    cc

pub ran_take_row_worked : (archive u : ℕ) (log base i row work : List ℕ) (o : RowKept) (x : List ℕ) → RanTakeRow archive u log base i row work o x
    → x ≡ take_row_kept_work archive u log base i row work
ran_take_row_worked archive u log base i row work o x r =
    let a = r.args in
    let e : r.exit.1.1.1.0.now
    ≡ take_row_kept_work a.1.1.1.1.0 a.1.1.1.1.1.0 a.0.now a.1.0.now a.1.1.0.now a.1.1.1.1.1.1.0.now a.1.1.1.0.now = r.learnt.1 in
    cc

-- ---- calls that carry none

pub ran_hand_out : (archive u : ℕ) (log base v lent : List ℕ) (o : Outcome) → RanHandOut archive u log base v lent o → o ≡ hand_of archive u log base v lent
ran_hand_out archive u log base v lent o r =
    let a = r.args in
    let e : outcome (code_of r.result) 0 a.0.now r.exit.1.1.1.1.1.0.now 0
    ≡ hand_of a.1.1.0 a.1.1.1.0 a.0.now a.1.0.now a.1.1.1.1.0.counts a.1.1.1.1.1.0.now = r.learnt in
    cc

pub ran_write_file : (archive u : ℕ) (log base lent : List ℕ) (o : Outcome) → RanWriteFile archive u log base lent o → o ≡ write_of archive u log base lent
ran_write_file archive u log base lent o r =
    let a = r.args in
    let e : outcome (code_of r.result) 0 a.0.now r.exit.1.1.1.1.0.now (blocks_of r.result)
    ≡ write_of a.1.1.0 a.1.1.1.0 a.0.now a.1.0.now a.1.1.1.1.0.now = r.learnt in
    cc

pub ran_fold : (u : ℕ) (log base : List ℕ) (m : ℕ) (work : List ℕ) (o : Outcome) (x : List ℕ) → RanFold u log base m work o x → o ≡ fold_of u log base m work
ran_fold u log base m work o x r =
    let a = r.args in
    let e : outcome (code_of r.result) 0 r.exit.0.now r.exit.1.0.now (records_folded r.result)
    ≡ fold_of a.1.1.1.0 a.0.now a.1.0.now a.1.1.1.1.0 a.1.1.1.1.1.0.now = r.learnt.0 in
    cc

pub ran_fold_worked : (u : ℕ) (log base : List ℕ) (m : ℕ) (work : List ℕ) (o : Outcome) (x : List ℕ) → RanFold u log base m work o x → x ≡ fold_work u log base m work
ran_fold_worked u log base m work o x r =
    let a = r.args in
    let e : r.exit.1.1.1.1.1.0.now
    ≡ fold_work a.1.1.1.0 a.0.now a.1.0.now a.1.1.1.1.0 a.1.1.1.1.1.0.now = r.learnt.1 in
    cc

pub ran_show : (log base lent : List ℕ) (o : Outcome) → RanShow log base lent o → o ≡ show_of log base lent
ran_show log base lent o r =
    let a = r.args in
    let e : outcome (code_of r.result) 0 a.0.now r.exit.1.1.0.now 0 ≡ show_of a.0.now a.1.0.now a.1.1.0.now = r.learnt in
    cc
