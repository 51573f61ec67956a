-- A reason marks an entry of the table, or none.
-- Assumes nothing.
use Prim.Native.Nat.{ℕ}
use mathlib.Core.Path.{◌≡◌, sym, subst}
use mathlib.Core.Logic.{◌⊎◌}
use mathlib.Core.List.{List, [], ◌∷◌}
use borrow.Author.Tests.{ne_eqb}
use Rattle.model.specs.Record.{Rec}
use Rattle.model.specs.Replay.{Entry, Tree, Verdict, aside, judge}
use Rattle.log_laws.proofs.Members.{All}
use Rattle.tree_laws.proofs.Marks.{Marks, judge_marks}
use Rattle.tree_table.specs.Rows.{InRange, AllProper}
use Rattle.tree_judge.specs.Judged.{verdict_of}

in_range : (l : List Entry) → AllProper l → All (λ (e : Entry). InRange e.made) l
in_range [] p = tt
in_range (e ∷ l) p = (p.0.range, in_range l p.1)

pub marked_fits : (r : Rec) (t : Tree) (n k : ℕ) → AllProper t.entries → verdict_of n k ≡ judge r t → (n ≡ 0 → ⊥) → (k ≡ 0) ⊎ InRange k
unfolding verdict_of
marked_fits r t n k p e h =
    let q : aside n k ≡ judge r t = rw (ne_eqb n 0 h) at e in
    subst (λ (v : Verdict). Marks InRange v) (sym q) (judge_marks InRange r t (in_range t.entries p))
