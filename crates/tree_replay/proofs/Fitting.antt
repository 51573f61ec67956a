-- A judgement of reason 0 fits, and a record that fits names the root or an entry as its folder.
-- Assumes nothing.
use Prim.Native.Nat.{ℕ, zero, suc, ◌≤◌}
use native.Mathlib.Omega.{arith}
use mathlib.Core.Path.{◌≡◌, refl, ◌∙◌}
use mathlib.Core.Logic.{inl, inr, ⊎_elim}
use mathlib.Core.Bool.{true, false}
use mathlib.Core.Option.{Option, none, some}
use mathlib.Core.List.{List}
use lib.Dec.{leb, eqb}
use borrow.Author.Tests.{ne_eqb, leb-true, eqb-true}
use Rattle.model.specs.Record.{Rec, op, object_of, folder_of, label_of, uses_folder}
use Rattle.model.specs.Replay.{Entry, Tree, Verdict, fits, aside, entry_of, holder_of, unseen, free_label, and_then, is_folder, folder_stands, judge_place, judge_make, judge_move, judge, reason_of}
use Rattle.byte_slice.proofs.Numbers.{eq_or_ne, bool_cases, or_true}
use Rattle.tree_laws.proofs.Verdicts.{Under, Reason, reason_least, reason_range, judge_make_lem, judge_move_lem}
use Rattle.tree_lookup.specs.Roles.{row_from, Home}
use Rattle.tree_lookup.proofs.Places.{no_entry}
use Rattle.tree_judge.specs.Judged.{verdict_of}
use Rattle.tree_judge.proofs.Verdicts.{verdict_numbers}
use Rattle.tree_amend.specs.Effects.{Placed}

-- no verdict under a reason has the number 0
zero_fits : (v : Verdict) → Under Reason v → 0 ≡ reason_of v → fits ≡ v
unfolding reason_of
zero_fits fits u e = refl
zero_fits (aside n k) u e = absurd (omega (arith, reason_least n u))

pub judged_fits : (r : Rec) (t : Tree) (n k : ℕ) → verdict_of n k ≡ judge r t → n ≡ 0 → fits ≡ judge r t
judged_fits r t n k e h = zero_fits (judge r t) (reason_range r t) (rw h at (verdict_numbers n k (judge r t) e).0)

-- ---- the folder of a record that fits

fits_not : (n k : ℕ) → fits ≡ aside n k → ⊥
fits_not n k e = let z : ◌≡◌ {A = ℕ} 0 1 = cc in omega arith

not_none : fits ≡ is_folder none → ⊥
unfolding is_folder
not_none e = fits_not 13 0 e

then_fits : (v u : Verdict) → fits ≡ and_then v u → fits ≡ v
unfolding and_then
then_fits fits u e = refl
then_fits (aside n k) u e = e

stands_home : (f : ℕ) (es : List Entry) → fits ≡ folder_stands f es → Home f es
unfolding folder_stands
stands_home f es e =
    ⊎_elim (λ (z : f ≡ 0). inl z) (λ (z : f ≡ 0 → ⊥). inr (go (row_from f 0 es) refl (rw (ne_eqb f 0 z) at e))) (eq_or_ne f 0)
  where
    go : (r : ℕ) → row_from f 0 es ≡ r → fits ≡ is_folder (entry_of f es) → 1 ≤ row_from f 0 es
    go zero z y = absurd (let x : fits ≡ is_folder none = rw (no_entry f es z) at y in not_none x)
    go (suc j) z y = rw z (omega arith)

made_home : (r : Rec) (es : List Entry) → fits ≡ judge_make r es → fits ≡ folder_stands (folder_of r) es
unfolding judge_make
made_home r es e = then_fits (folder_stands (folder_of r) es) (free_label (holder_of 0 (folder_of r) (label_of r) es)) e

moved_home : (r : Rec) (es : List Entry) (o : Option Entry) → fits ≡ judge_move r es o → fits ≡ folder_stands (folder_of r) es
unfolding judge_move
moved_home r es none e = absurd (fits_not 12 0 e)
moved_home r es (some x) e =
    ⊎_elim (λ (c : unseen r x.placing ≡ true). absurd (fits_not 17 x.made (rw c at e)))
    (λ (c : unseen r x.placing ≡ false). then_fits (folder_stands (folder_of r) es) (judge_place r es x) (rw c at e))
    (bool_cases (unseen r x.placing))

-- the folder that it names is the root or an entry
pub fits_placed : (r : Rec) (t : Tree) → fits ≡ judge r t → Placed r t.entries
unfolding uses_folder
fits_placed r t e =
    record {
      home = λ h.
          ⊎_elim
          (λ (z : leb (op r) 2 ≡ true).
          stands_home (folder_of r) t.entries (made_home r t.entries (e ∙ judge_make_lem r t (leb-true (op r) 2 z))))
          (λ (z : eqb (op r) 7 ≡ true).
          let seven = eqb-true (op r) 7 z in
          stands_home (folder_of r) t.entries (moved_home r t.entries (entry_of (object_of r) t.entries) (e ∙ judge_move_lem r t (omega arith))))
          (or_true (leb (op r) 2) (eqb (op r) 7) h);
    }
