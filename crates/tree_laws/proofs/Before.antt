-- Where no record is a move, the replay is what it was before there were moves.
-- Assumes nothing.
use Prim.Native.Nat.{ℕ, ◌≤◌, ◌<◌}
use native.Mathlib.Omega.{arith}
use mathlib.Core.Path.{◌≡◌, refl, sym, ap, ◌∙◌}
use mathlib.Core.Bool.{Bool, true, false, cond}
use mathlib.Core.Logic.{◌⊎◌, inl, inr, ⊎_elim}
use mathlib.Core.Option.{Option, none, some}
use mathlib.Core.List.{List, [], ◌∷◌, ◌++◌}
use lib.Dec.{leb, eqb}
use borrow.Author.Tests.{leb-false, eqb-true, eqb-false, eq-eqb}
use Rattle.byte_slice.proofs.Numbers.{bool_cases}
use Rattle.model.specs.Record.{Rec, root, op, object_of, folder_of, label_of}
use Rattle.model.specs.Replay.{Entry, Tree, Verdict, fits, aside, entry_of, holder_of, free_label, and_then, is_folder, folder_stands, judge_make, judge, effect, apply, step, replay_from}
use Rattle.tree_laws.specs.Replayed.{Has}
use Rattle.tree_laws.specs.Before.{make_in, make_before, judge_before, effect_before, apply_before, replay_before}

make_before_lem : (r : Rec) (es : List Entry) → judge_make r es ≡ make_before r es
unfolding judge_make make_before folder_stands is_folder make_in and_then
make_before_lem r es =
    ⊎_elim
    (λ (c : eqb (folder_of r) root ≡ true). rw (c, eqb-true (folder_of r) root c))
    (λ (c : eqb (folder_of r) root ≡ false). rw c (inside (entry_of (folder_of r) es)))
    (bool_cases (eqb (folder_of r) root))
  where
    inside : (o : Option Entry) → and_then (is_folder o) (free_label (holder_of root (folder_of r) (label_of r) es)) ≡ make_in r es o
    inside none = refl
    inside (some f) =
        ⊎_elim
        (λ (c : eqb f.kind 1 ≡ true). rw c)
        (λ (c : eqb f.kind 1 ≡ false). rw c)
        (bool_cases (eqb f.kind 1))

-- a record of another operation than these is a settle
is_settle_lem : (o : ℕ) → o ≤ 6 → leb o 2 ≡ false → eqb o 3 ≡ false → eqb o 4 ≡ false → eqb o 5 ≡ false → eqb o 6 ≡ true
is_settle_lem o h a b c d = eq-eqb o 6 (omega (arith, leb-false o 2 a, eqb-false o 3 b, eqb-false o 4 c, eqb-false o 5 d))

module _ (r : Rec) (t : Tree) (h : op r ≤ 6) where
  -- a make, store, remove, rename or neither of them
  by_operation : {A : Type 0} → (leb (op r) 2 ≡ true → A) → (leb (op r) 2 ≡ false → eqb (op r) 3 ≡ true → A)
      → (leb (op r) 2 ≡ false → eqb (op r) 3 ≡ false → eqb (op r) 4 ≡ true → A)
      → (leb (op r) 2 ≡ false → eqb (op r) 3 ≡ false → eqb (op r) 4 ≡ false → eqb (op r) 5 ≡ true → A)
      → (leb (op r) 2 ≡ false → eqb (op r) 3 ≡ false → eqb (op r) 4 ≡ false → eqb (op r) 5 ≡ false → A) → A
  by_operation f g h k m =
      ⊎_elim f
      (λ a. ⊎_elim (g a) (λ b. ⊎_elim (h a b) (λ c. ⊎_elim (k a b c) (m a b c) (bool_cases (eqb (op r) 5))) (bool_cases (eqb (op r) 4))) (bool_cases (eqb (op r) 3)))
      (bool_cases (leb (op r) 2))

  judge-before : judge r t ≡ judge_before r t
  unfolding judge judge_before
  judge-before =
      by_operation
      (λ a. rw a (make_before_lem r t.entries))
      (λ a b. rw (a, b))
      (λ a b c. rw (a, b, c))
      (λ a b c d. rw (a, b, c, d))
      (λ a b c d. rw (a, b, c, d, is_settle_lem (op r) h a b c d))

  effect-before : effect r t ≡ effect_before r t
  unfolding effect effect_before
  effect-before =
      by_operation
      (λ a. rw a)
      (λ a b. rw (a, b))
      (λ a b c. rw (a, b, c))
      (λ a b c d. rw (a, b, c, d))
      (λ a b c d. rw (a, b, c, d, is_settle_lem (op r) h a b c d))

  apply-before : (v : Verdict) → apply v r t ≡ apply_before v r t
  unfolding apply apply_before
  apply-before fits = effect-before
  apply-before (aside n k) = refl

  step-before : step t r ≡ apply_before (judge_before r t) r t
  unfolding step
  step-before = apply-before (judge r t) ∙ ap (λ (v : Verdict). apply_before v r t) judge-before

pub replay-before : (t : Tree) (l : List Rec) → ((r : Rec) → Has r l → op r ≤ 6) → replay_from t l ≡ replay_before t l
unfolding replay_from replay_before
replay-before t [] h = refl
replay-before t (r ∷ l) h =
    ap (λ (x : Tree). replay_from x l) (step-before r t (h r (inl refl)))
    ∙ replay-before (apply_before (judge_before r t) r t) l (λ s i. h s (inr i))
