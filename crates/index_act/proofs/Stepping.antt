-- What judging a record and changing the index is asked, over plain values.
-- Assumes nothing.
use Prim.Native.Nat.{ℕ, ◌+◌, ◌*◌, ◌<◌}
use native.Mathlib.Omega.{arith}
use mathlib.Core.Path.{◌≡◌, refl, sym, ap, ◌∙◌}
use mathlib.Core.List.{List, []}
use lib.ListN.{get_or}
use borrow.Author.Tests.{ne_eqb}
use Rattle.model.specs.Record.{Rec}
use Rattle.model.specs.Replay.{Entry, Tree, Verdict, fits, aside, judge, reason_of}
use Rattle.model.specs.Table.{entry_in}
use Rattle.log_laws.proofs.Members.{All, all_at}
use Rattle.tree_table.specs.Rows.{entries_from, tree_in}
use Rattle.tree_lookup.specs.Roles.{Works}
use Rattle.tree_lookup.proofs.Working.{works_tree, proper_at}
use Rattle.tree_laws.proofs.Verdicts.{Under, Reason, reason_least, reason_range}
use Rattle.tree_judge.specs.Judged.{verdict_of}
use Rattle.tree_judge.proofs.Verdicts.{verdict_numbers}
use Rattle.index_model.specs.Acting.{change_in, step_in}
use Rattle.index_model.specs.Kept.{if_lent}
use Rattle.index_laws.proofs.Exact.{Rowed}
use Rattle.index_laws.proofs.Made.{entries_at}
use Rattle.keep_lent.proofs.Lent.{lent_same}
use Rattle.index_act.specs.Inside.{Inside}

nobody : Entry
nobody = record { made = 0; kind = 0; inside = 0; label = []; contents = 0; date = []; mark = []; placing = 0 }

-- a tree whose entries have rows in an index stands in a table
pub laid_inside : (b register : List ℕ) (n m : ℕ) (t : Tree) → Works b register n m t → All Rowed t.entries → Inside b n
unfolding tree_in
laid_inside b register n m t w a =
    let q : entries_from b 0 n ≡ t.entries = ap (λ (x : Tree). x.entries) (works_tree b register n m t w) in
    let row : (i : ℕ) → i < n → entry_in b (4 + 72 * i) ≡ get_or t.entries i nobody =
    λ i h. let z : 0 + i ≡ i = omega arith in sym (rw z at (entries_at b 0 n i nobody h)) ∙ rw q in
    let c = w.rows in
    record {
      folder = λ i h. rw (row i h) (all_at Rowed t.entries i nobody (omega arith) a).1;
      entry = λ i h. rw (row i h) (let u = (proper_at t.entries i nobody (omega arith) w.proper).range.high in omega arith);
    }

-- ---- the record judged

reason_zero : (v : Verdict) → Under Reason v → reason_of v ≡ 0 → v ≡ fits
unfolding reason_of
reason_zero fits h e = refl
reason_zero (aside n k) h e = absurd (omega (arith, reason_least n h))

module _ (r : Rec) (t : Tree) (x k : ℕ) (e : verdict_of x k ≡ judge r t) where
  pub reason_is : x ≡ reason_of (judge r t)
  reason_is = (verdict_numbers x k (judge r t) e).0

  module _ (index : List ℕ) where
    pub changed_it : x ≡ 0 → (y : List ℕ) → y ≡ if_lent index (change_in r t index) → y ≡ if_lent index (step_in (judge r t) r t index)
    unfolding step_in
    changed_it h y q = rw (reason_zero (judge r t) (reason_range r t) (sym reason_is ∙ h)) q

    pub left_it : (x ≡ 0 → ⊥) → index ≡ if_lent index (step_in (judge r t) r t index)
    unfolding verdict_of step_in
    left_it h =
        let v : judge r t ≡ aside x k = sym e ∙ rw (ne_eqb x 0 h) in
        rw v (lent_same index)
