-- Sound logs whose records go together one by one, each with one of its rank, have them at the same places.
-- Assumes nothing.
use Prim.Native.Nat.{ℕ, zero, suc, ◌<◌}
use native.Mathlib.Omega.{arith}
use mathlib.Core.Path.{◌≡◌, refl, sym, ap, ◌∙◌}
use mathlib.Core.Logic.{◌⊎◌, inl, inr, ⊎_elim}
use mathlib.Core.List.{List, [], ◌∷◌}
use lib.ListN.{get_or, length, take}
use Rattle.byte_slice.proofs.Numbers.{lt_or_ge, eq_or_ne}
use Rattle.model.specs.Record.{Rec, op}
use Rattle.model.specs.Log.{rank, no_counts}
use Rattle.log_laws.specs.Members.{Has}
use Rattle.log_laws.specs.Sound.{SoundAfter, Sound}
use Rattle.log_laws.proofs.Counts.{above_all}
use Rattle.tree_laws.specs.Replayed.{Pairs}
use Rattle.mark_laws.specs.Marks.{mark_at, SameButMark, OneMarkApart}
use Rattle.mark_laws.proofs.Pairs.{pairs_length, pairs_get}
use Rattle.mark_laws.proofs.Sound.{rank_but_mark}

module _ (R : Rec → Rec → Type 0) (level : (x y : Rec) → R x y → rank x ≡ rank y) where
  pairs_by_rank : (pre ere l m : List Rec) → SoundAfter no_counts pre l → SoundAfter no_counts ere m → ((x : Rec) → Has x l → (y : Rec) × Has y m × R x y)
      → ((y : Rec) → Has y m → (x : Rec) × Has x l × R x y) → Pairs R l m
  pairs_by_rank pre ere [] [] h k to back = tt
  pairs_by_rank pre ere [] (y ∷ m) h k to back = let (x, i, a) = back y (inl refl) in absurd i
  pairs_by_rank pre ere (x ∷ l) [] h k to back = let (y, i, a) = to x (inl refl) in absurd i
  pairs_by_rank pre ere (x ∷ l) (y ∷ m) h k to back = (
    first,
    pairs_by_rank (x ∷ pre) (y ∷ ere) l m h.1 k.1
        (λ z i. let (p, j, a) = to z (inr i) in
        ⊎_elim (λ (e : p ≡ y). absurd (omega (arith, level z p a, ap rank e, level x y first, behind z i))) (λ b. (p, b, a)) j)
        (λ z i. let (p, j, a) = back z (inr i) in
        ⊎_elim (λ (e : p ≡ x). absurd (omega (arith, level p z a, ap rank e, level x y first, behind_too z i))) (λ b. (p, b, a)) j),
  )
    where
      behind : (z : Rec) → Has z l → rank x < rank z
      behind z i = above_all (x ∷ pre) l x z h.1 (inl refl) i

      behind_too : (z : Rec) → Has z m → rank y < rank z
      behind_too z i = above_all (y ∷ ere) m y z k.1 (inl refl) i

      first : R x y
      first =
          let (p, i, a) = to x (inl refl) in
          let (q, j, b) = back y (inl refl) in
          ⊎_elim
          (λ (e : p ≡ y). rw e at a)
          (λ c.
          ⊎_elim
          (λ (e : q ≡ x). rw e at b)
          (λ d. absurd (omega (arith, level x p a, level q y b, behind q d, behind_too p c)))
          j)
          i

place : (l : List Rec) (r : Rec) → Has r l → (i : ℕ) × (i < length l) × (get_or l i [] ≡ r)
place [] r h = absurd h
place (x ∷ l) r (inl e) = (0, omega arith, sym e)
place (x ∷ l) r (inr h) = let (i, b, e) = place l r h in (suc i, omega arith, e)

has_at : (l : List Rec) (j : ℕ) → j < length l → Has (get_or l j []) l
has_at [] j h = absurd (omega arith)
has_at (x ∷ l) zero h = inl refl
has_at (x ∷ l) (suc j) h = inr (has_at l j (omega arith))

rising : (pre l : List Rec) → SoundAfter no_counts pre l → (i j : ℕ) → i < j → j < length l → rank (get_or l i []) < rank (get_or l j [])
rising pre [] h i j a b = absurd (omega arith)
rising pre (x ∷ l) h i zero a b = absurd (omega arith)
rising pre (x ∷ l) h zero (suc j) a b = above_all (x ∷ pre) l x (get_or l j []) h.1 (inl refl) (has_at l j (omega arith))
rising pre (x ∷ l) h (suc i) (suc j) a b = rising (x ∷ pre) l h.1 i j (omega arith) (omega arith)

pub apart_by_records : (l m : List Rec) (r s : Rec) → Sound l → Sound m → Has r l → Has s m → SameButMark r s → (op r ≡ 2) ⊎ (op r ≡ 3)
    → ((x : Rec) → Has x l → (x ≡ r) ⊎ Has x m) → ((x : Rec) → Has x m → (x ≡ s) ⊎ Has x l) → (i : ℕ) × (get_or l i [] ≡ r) × OneMarkApart i l m
apart_by_records l m r s h k i j e o to back =
    let (n, b, q) = place l r i in (
      n,
      q,
      record {
        as_long = pairs_length R l m pairs;
        there = b;
        gives_mark = rw q o;
        but_mark = ⊎_elim (λ (z : get_or l n [] ≡ get_or m n []). ap (λ (x : Rec). take mark_at x) z) (λ z. rw (z.0, z.1) e) (pairs_get R l m pairs n b);
        elsewhere = λ x c d. ⊎_elim (λ (z : get_or l x [] ≡ get_or m x []). z) (λ z. absurd (d (one x n c b (z.0 ∙ sym q)))) (pairs_get R l m pairs x c);
      },
    )
  where
    R : Rec → Rec → Type 0
    R x y = (x ≡ y) ⊎ ((x ≡ r) × (y ≡ s))

    level : (x y : Rec) → R x y → rank x ≡ rank y
    level x y (inl z) = ap rank z
    level x y (inr (p, q)) = ap rank p ∙ rank_but_mark r s e ∙ ap rank (sym q)

    pairs : Pairs R l m
    pairs =
        pairs_by_rank R level [] [] l m h k
        (λ x i. ⊎_elim (λ (z : x ≡ r). (s, j, inr (z, refl))) (λ z. (x, z, inl refl)) (to x i))
        (λ y n. ⊎_elim (λ (z : y ≡ s). (r, i, inr (refl, z))) (λ z. (y, z, inl refl)) (back y n))

    one : (x y : ℕ) → x < length l → y < length l → get_or l x [] ≡ get_or l y [] → x ≡ y
    one x y a b z =
        ⊎_elim
        (λ c. absurd (omega (arith, rising [] l h x y c b, ap rank z)))
        (λ c. ⊎_elim (λ (d : x ≡ y). d) (λ d. absurd (omega (arith, rising [] l h y x (omega arith) a, ap rank z))) (eq_or_ne x y))
        (lt_or_ge x y)
