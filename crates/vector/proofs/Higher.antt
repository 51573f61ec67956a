-- A vector with one count higher, all eight counts written out.
-- Assumes nothing.
use Prim.Native.Nat.{ℕ, ◌+◌, ◌<◌}
use native.Mathlib.Omega.{arith}
use mathlib.Core.Path.{◌≡◌, sym, ◌∙◌}
use mathlib.Core.Logic.{⊎_elim}
use mathlib.Core.Bool.{true, cond}
use mathlib.Core.List.{List, [], ◌∷◌}
use lib.Dec.{eqb}
use lib.ListN.{get_or, length, set, drop, length-set, drop_of_length-le}
use lib.Seq.{drop-cons, get_or-set_same, get_or-set_other}
use borrow.Author.Tests.{eq-eqb, ne_eqb, eqb-true}
use Rattle.byte_slice.proofs.Numbers.{eq_or_ne}

-- a count that is raised has room
pub has_room : (l : List ℕ) (u i : ℕ) → get_or l u 0 < 65535 → eqb u i ≡ true → get_or l i 0 < 65535
has_room l u i h e = let p : u ≡ i = eqb-true u i e in rw p at h

higher_at : (l : List ℕ) (u i : ℕ) → u < length l → cond (eqb u i) (get_or l i 0 + 1) (get_or l i 0) ≡ get_or (set l u (get_or l u 0 + 1)) i 0
higher_at l u i h =
    ⊎_elim
    (λ (e : u ≡ i). rw (eq-eqb u i e, ← e, get_or-set_same l u (get_or l u 0 + 1) 0 h))
    (λ (e : u ≡ i → ⊥). rw (ne_eqb u i e, get_or-set_other l u i (get_or l u 0 + 1) 0 (λ (q : i ≡ u). e (sym q))))
    (eq_or_ne u i)

-- a list of eight, written out
pub eight : (l : List ℕ) → length l ≡ 8 → get_or l 0 0 ∷ get_or l 1 0 ∷ get_or l 2 0 ∷ get_or l 3 0 ∷ get_or l 4 0 ∷ get_or l 5 0 ∷ get_or l 6 0 ∷ get_or l 7 0 ∷ [] ≡ l
eight l n =
    let z : drop 8 l ≡ [] = drop_of_length-le l {i = 8} (omega arith) in
    let h7 : drop 7 l ≡ get_or l 7 0 ∷ [] = drop-cons l 7 0 (omega arith) ∙ rw z in
    let h6 : drop 6 l ≡ get_or l 6 0 ∷ get_or l 7 0 ∷ [] = drop-cons l 6 0 (omega arith) ∙ rw h7 in
    let h5 : drop 5 l ≡ get_or l 5 0 ∷ get_or l 6 0 ∷ get_or l 7 0 ∷ [] = drop-cons l 5 0 (omega arith) ∙ rw h6 in
    let h4 : drop 4 l ≡ get_or l 4 0 ∷ get_or l 5 0 ∷ get_or l 6 0 ∷ get_or l 7 0 ∷ [] = drop-cons l 4 0 (omega arith) ∙ rw h5 in
    let h3 : drop 3 l ≡ get_or l 3 0 ∷ get_or l 4 0 ∷ get_or l 5 0 ∷ get_or l 6 0 ∷ get_or l 7 0 ∷ [] = drop-cons l 3 0 (omega arith) ∙ rw h4 in
    let h2 : drop 2 l ≡ get_or l 2 0 ∷ get_or l 3 0 ∷ get_or l 4 0 ∷ get_or l 5 0 ∷ get_or l 6 0 ∷ get_or l 7 0 ∷ [] = drop-cons l 2 0 (omega arith) ∙ rw h3 in
    let h1 : drop 1 l ≡ get_or l 1 0 ∷ get_or l 2 0 ∷ get_or l 3 0 ∷ get_or l 4 0 ∷ get_or l 5 0 ∷ get_or l 6 0 ∷ get_or l 7 0 ∷ [] = drop-cons l 1 0 (omega arith) ∙ rw h2 in
    sym (drop-cons l 0 0 (omega arith) ∙ rw h1)

pub one_higher : (l : List ℕ) (u : ℕ) {a b c d e f g h : ℕ} → length l ≡ 8 → u < 8
    → a ≡ cond (eqb u 0) (get_or l 0 0 + 1) (get_or l 0 0) → b ≡ cond (eqb u 1) (get_or l 1 0 + 1) (get_or l 1 0)
    → c ≡ cond (eqb u 2) (get_or l 2 0 + 1) (get_or l 2 0) → d ≡ cond (eqb u 3) (get_or l 3 0 + 1) (get_or l 3 0)
    → e ≡ cond (eqb u 4) (get_or l 4 0 + 1) (get_or l 4 0) → f ≡ cond (eqb u 5) (get_or l 5 0 + 1) (get_or l 5 0)
    → g ≡ cond (eqb u 6) (get_or l 6 0 + 1) (get_or l 6 0) → h ≡ cond (eqb u 7) (get_or l 7 0 + 1) (get_or l 7 0)
    → a ∷ b ∷ c ∷ d ∷ e ∷ f ∷ g ∷ h ∷ [] ≡ set l u (get_or l u 0 + 1)
one_higher l u n k a b c d e f g h =
    let m : u < length l = omega arith in
    rw (a, b, c, d, e, f, g, h, higher_at l u 0 m, higher_at l u 1 m, higher_at l u 2 m, higher_at l u 3 m, higher_at l u 4 m, higher_at l u 5 m, higher_at l u 6 m, higher_at l u 7 m)
    (eight (set l u (get_or l u 0 + 1)) (length-set l u (get_or l u 0 + 1) ∙ n))
