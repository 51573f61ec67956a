-- What `is_closed`, with its nested loops, and the quick test before it are asked, over plain values.
-- Assumes nothing.
use Prim.Native.Nat.{ℕ, zero, suc, ◌+◌, ◌-◌, ◌*◌, ◌≤◌, ◌<◌}
use native.Mathlib.Numerals.{add-one}
use native.Mathlib.Omega.{arith}
use mathlib.Core.Path.{◌≡◌, sym, ◌∙◌}
use mathlib.Core.Logic.{⊎_elim}
use mathlib.Core.Bool.{Bool, true, false, not}
use mathlib.Core.List.{List, [], ◌∷◌}
use lib.ListN.{get_or, length}
use borrow.Author.Tests.{le-leb, lt-leb, not-true, not-false}
use Rattle.model.specs.Vector.{covers, covers_to}
use Rattle.model.specs.Log.{all_to}
use Rattle.byte_slice.proofs.Numbers.{lt_or_ge, and_wrong}
use Rattle.byte_slice.proofs.Parts.{part_length, get_d_part}
use Rattle.vector.proofs.Dominance.{less_fails, covers-next, covers_ends}
use Rattle.vector.proofs.Higher.{eight}
use Rattle.log_closure.specs.Tables.{position_of, row_at, unit_closed, closed_by, Placed}

all_false : (n : ℕ) (p : ℕ → Bool) (u : ℕ) → u < n → p u ≡ false → all_to n p ≡ false
unfolding all_to
all_false zero p u h e = absurd (omega arith)
all_false (suc n) p u h e =
    ⊎_elim
    (λ (k : u < n). rw (all_false n p u k e))
    (λ k. let w : u ≡ n = omega arith in rw (← w, e) (and_wrong (all_to u p)))
    (lt_or_ge u n)

all_next : (n : ℕ) (p : ℕ → Bool) → all_to n p ≡ true → p n ≡ true → all_to (n + 1) p ≡ true
unfolding all_to
all_next n p a b = rw (add-one n, a, b)

module _ (base places seens s : List ℕ) where
  row-at : (p v : ℕ) → v < 8 → get_or (row_at seens p) v 0 ≡ get_or seens (8 * p + v) 0
  unfolding row_at
  row-at p v h = get_d_part seens (8 * p) 8 v h

  row-length : (p : ℕ) → length seens ≡ 4144 → p < 518 → length (row_at seens p) ≡ 8
  unfolding row_at
  row-length p n h = part_length seens (8 * p) 8 (omega arith)

  pub row_next : (p v : ℕ) → v < 8 → covers_to s (row_at seens p) v ≡ true → get_or seens (8 * p + v) 0 ≤ get_or s v 0 → covers_to s (row_at seens p) (v + 1) ≡ true
  row_next p v h e k =
      let c : get_or (row_at seens p) v 0 ≤ get_or s v 0 = rw (row-at p v h) k in
      sym (covers-next s (row_at seens p) v true (sym e)) ∙ le-leb (get_or (row_at seens p) v 0) (get_or s v 0) c

  -- the counts seen, and the positions of their records, lie in the tables
  pub few_seen : (u : ℕ) → Placed base s places → u < 8 → get_or s u 0 - get_or base u 0 ≤ 512
  few_seen u p h = omega (arith, p.few u h)

  pub place_inside : (u p : ℕ) → Placed base s places → u < 8 → get_or base u 0 < get_or s u 0 → p ≡ position_of places u (get_or s u 0 - get_or base u 0) → p < 518
  place_inside u p k h e q = rw q (k.inside u (get_or s u 0 - get_or base u 0) h (omega arith) (omega arith))

  zero_closed : (u : ℕ) → get_or s u 0 ≤ get_or base u 0 → unit_closed base places seens s u ≡ true
  unfolding unit_closed
  zero_closed u e = rw (le-leb (get_or s u 0) (get_or base u 0) e)

  unit_is : (u : ℕ) → get_or base u 0 < get_or s u 0 → (p : ℕ) → p ≡ position_of places u (get_or s u 0 - get_or base u 0) → unit_closed base places seens s u ≡ covers s (row_at seens p)
  unfolding unit_closed
  unit_is u e p q = rw (lt-leb (get_or s u 0) (get_or base u 0) e, q)

  -- a unit of which no record behind the base vector is seen
  pub none_counted : (u : ℕ) → all_to u (unit_closed base places seens s) ≡ true → get_or s u 0 ≤ get_or base u 0 → all_to (u + 1) (unit_closed base places seens s) ≡ true
  none_counted u a e = all_next u (unit_closed base places seens s) a (zero_closed u e)

  -- the eight counts of a row, written out
  pub row_flat : (p : ℕ) → length seens ≡ 4144 → p < 518
      → get_or seens (8 * p) 0 ∷ get_or seens (8 * p + 1) 0 ∷ get_or seens (8 * p + 2) 0 ∷ get_or seens (8 * p + 3) 0 ∷ get_or seens (8 * p + 4) 0 ∷ get_or seens (8 * p + 5) 0 ∷ get_or seens (8 * p + 6) 0 ∷ get_or seens (8 * p + 7) 0 ∷ [] ≡ row_at seens p
  row_flat p n h =
      let z : 8 * p + 0 ≡ 8 * p = omega arith in
      let first : get_or (row_at seens p) 0 0 ≡ get_or seens (8 * p) 0 = rw z at (row-at p 0 (omega arith)) in
      rw (← first, ← row-at p 1 (omega arith), ← row-at p 2 (omega arith), ← row-at p 3 (omega arith), ← row-at p 4 (omega arith), ← row-at p 5 (omega arith), ← row-at p 6 (omega arith), ← row-at p 7 (omega arith))
      (eight (row_at seens p) (row-length p n h))

  -- one unit by itself
  pub unit-none : (u : ℕ) → get_or s u 0 ≤ get_or base u 0 → true ≡ unit_closed base places seens s u
  unit-none u e = sym (zero_closed u e)

  pub unit_row : (u p : ℕ) (row : List ℕ) (t : Bool) → get_or base u 0 < get_or s u 0 → p ≡ position_of places u (get_or s u 0 - get_or base u 0) → row ≡ row_at seens p → t ≡ covers s row → t ≡ unit_closed base places seens s u
  unit_row u p row t e q r c = (rw r at c) ∙ sym (unit_is u e p q)

  -- the units one by one
  pub units_next : (u : ℕ) (t : Bool) → all_to u (unit_closed base places seens s) ≡ true → t ≡ unit_closed base places seens s u → not t ≡ false → all_to (u + 1) (unit_closed base places seens s) ≡ true
  units_next u t a e h = all_next u (unit_closed base places seens s) a (sym e ∙ not-false t h)

  pub unit_open : (u : ℕ) (t : Bool) → u < 8 → t ≡ unit_closed base places seens s u → not t ≡ true → false ≡ closed_by base places seens s
  unfolding closed_by
  unit_open u t h e k = sym (all_false 8 (unit_closed base places seens s) u h (sym e ∙ not-true t k))

  pub units_all : (u : ℕ) → u ≤ 8 → 8 ≤ u → all_to u (unit_closed base places seens s) ≡ true → true ≡ closed_by base places seens s
  unfolding closed_by
  units_all u h k e = let n : u ≡ 8 = omega arith in sym (rw n at e)

  -- a unit whose last record seen is nowhere above
  pub none_above : (u p d v : ℕ) → all_to u (unit_closed base places seens s) ≡ true → get_or base u 0 < get_or s u 0 → p ≡ position_of places u d → d ≡ get_or s u 0 - get_or base u 0
      → v ≤ 8 → 8 ≤ v → covers_to s (row_at seens p) v ≡ true → all_to (u + 1) (unit_closed base places seens s) ≡ true
  none_above u p d v a e q z h k w = all_next u (unit_closed base places seens s) a (unit_is u e p (rw z at q) ∙ sym (covers_ends s (row_at seens p) v true h k (sym w)))

  -- a count that breaks closure
  pub one_above : (u p v : ℕ) → u < 8 → get_or base u 0 < get_or s u 0 → p ≡ position_of places u (get_or s u 0 - get_or base u 0) → v < 8 → get_or s v 0 < get_or seens (8 * p + v) 0 → false ≡ closed_by base places seens s
  unfolding closed_by
  one_above u p v l e q h k =
      sym (all_false 8 (unit_closed base places seens s) u l (unit_is u e p q ∙ less_fails s (row_at seens p) v h (rw (row-at p v h) k)))

  pub all_closed : (u : ℕ) (t : Bool) → u ≤ 8 → 8 ≤ u → t ≡ true → all_to u (unit_closed base places seens s) ≡ true → t ≡ closed_by base places seens s
  all_closed u t h k e a = e ∙ units_all u h k a
