-- Where rows stand in a base: one behind the other, none over another.
-- Assumes nothing.
use Prim.Native.Nat.{ℕ, suc, ◌+◌, ◌-◌, ◌*◌, ◌≤◌, ◌<◌, min}
use native.Mathlib.Omega.{arith}
use mathlib.Core.Path.{◌≡◌, ap, ◌∙◌}
use mathlib.Core.Logic.{◌⊎◌, inl, inr, ⊎_elim}
use borrow.Author.Tests.{eq-eqb, ne_eqb, le-leb, lt-leb}
use Rattle.byte_slice.proofs.Numbers.{lt_or_ge, eq_or_ne}
use Rattle.model.specs.Vector.{blocks_for}
use Rattle.sab2_model.specs.Rows.{row_count, row_start, row_long}

-- row i is the head, an entry, or of asides
pub record Head (e a i : ℕ) : Type 0 where
  pub is : i ≡ 0
  pub start : row_start e i ≡ 0
  pub long : row_long e a i ≡ 24

pub record Entry (e a i : ℕ) : Type 0 where
  pub is : (1 ≤ i) × (i ≤ e)
  pub start : row_start e i ≡ 24 + 72 * (i - 1)
  pub long : row_long e a i ≡ 72

pub record Aside (e a i : ℕ) : Type 0 where
  pub is : e < i
  pub start : row_start e i ≡ 36888 + 72 * (i - suc e)
  pub long : row_long e a i ≡ min 72 (12 * a - 72 * (i - suc e))

pub row_cases : (e a i : ℕ) → Head e a i ⊎ (Entry e a i ⊎ Aside e a i)
unfolding row_start row_long
row_cases e a i =
    ⊎_elim
    (λ (h : i ≡ 0). inl (record { is = h; start = rw (eq-eqb i 0 h); long = rw (eq-eqb i 0 h) }))
    (λ (h : i ≡ 0 → ⊥).
    let k : 1 ≤ i = ⊎_elim (λ (c : i < 1). absurd (h (omega arith))) (λ (c : 1 ≤ i). c) (lt_or_ge i 1) in
    inr (⊎_elim
    (λ (c : e < i). inr (record { is = c; start = rw (ne_eqb i 0 h, lt-leb i e c); long = rw (ne_eqb i 0 h, lt-leb i e c) }))
    (λ (c : i ≤ e). inl (record { is = (k, c); start = rw (ne_eqb i 0 h, le-leb i e c); long = rw (ne_eqb i 0 h, le-leb i e c) }))
    (lt_or_ge e i)))
    (eq_or_ne i 0)

-- a row has at most 72 bytes, and stands within the base
pub row_short : (e a i : ℕ) → row_long e a i ≤ 72
row_short e a i =
    ⊎_elim (λ (x : Head e a i). omega arith) (λ (y : Entry e a i ⊎ Aside e a i). ⊎_elim (λ (x : Entry e a i). omega arith) (λ (x : Aside e a i). omega arith) y) (row_cases e a i)

pub row_inside : (e a i : ℕ) → e ≤ 512 → a ≤ 512 → i < row_count e a → row_start e i + row_long e a i ≤ 43032
unfolding row_count blocks_for
row_inside e a i p q h =
    ⊎_elim (λ (x : Head e a i). omega arith) (λ (y : Entry e a i ⊎ Aside e a i). ⊎_elim (λ (x : Entry e a i). omega arith) (λ (x : Aside e a i). omega arith) y) (row_cases e a i)

-- one row ends before a later one starts
pub rows_apart : (e a i j : ℕ) → e ≤ 512 → i < j → row_start e i + row_long e a i ≤ row_start e j
rows_apart e a i j p h = both (row_cases e a i) (row_cases e a j)
  where
    both : Head e a i ⊎ (Entry e a i ⊎ Aside e a i) → Head e a j ⊎ (Entry e a j ⊎ Aside e a j) → row_start e i + row_long e a i ≤ row_start e j
    both x (inl y) = absurd (omega arith)
    both (inl x) (inr (inl y)) = omega arith
    both (inl x) (inr (inr y)) = omega arith
    both (inr (inl x)) (inr (inl y)) = omega arith
    both (inr (inl x)) (inr (inr y)) = omega arith
    both (inr (inr x)) (inr (inl y)) = absurd (omega arith)
    both (inr (inr x)) (inr (inr y)) = omega arith

-- ---- what lies between a row and the next: nothing, the rest of the entries' places, or the rest of the asides'

next-aside : (e i : ℕ) → e < i → suc i - suc e ≡ suc (i - suc e)
next-aside e i h = omega arith

aside_short : (s l d a : ℕ) → s ≡ 36888 + 72 * d → l ≡ min 72 (12 * a - 72 * d) → 12 * a < 72 * suc d → 36888 + 12 * a ≤ s + l
aside_short s l d a p q h = omega arith

aside_full : (s t l d a : ℕ) → s ≡ 36888 + 72 * d → t ≡ 36888 + 72 * suc d → l ≡ min 72 (12 * a - 72 * d) → 72 * suc d ≤ 12 * a → t ≡ s + l
aside_full s t l d a p r q h = omega arith

head_entry : (s t l i : ℕ) → i ≡ 0 → s ≡ 0 → l ≡ 24 → t ≡ 24 + 72 * (suc i - 1) → t ≡ s + l
head_entry s t l i a b c d = omega arith

head_aside : (e s t l i : ℕ) → i ≡ 0 → e < suc i → s ≡ 0 → l ≡ 24 → t ≡ 36888 + 72 * (suc i - suc e) → (s + l ≡ 24 + 72 * e) × (t ≡ 36888)
head_aside e s t l i z h a b c = (omega arith, omega arith)

entry-entry : (s t l i : ℕ) → 1 ≤ i → s ≡ 24 + 72 * (i - 1) → l ≡ 72 → t ≡ 24 + 72 * (suc i - 1) → t ≡ s + l
entry-entry s t l i h a b c = omega arith

entry-aside : (e s t l i : ℕ) → 1 ≤ i → i ≤ e → e < suc i → s ≡ 24 + 72 * (i - 1) → l ≡ 72 → t ≡ 36888 + 72 * (suc i - suc e) → (s + l ≡ 24 + 72 * e) × (t ≡ 36888)
entry-aside e s t l i p q h a b c = (omega arith, omega arith)

pub gap_cases : (e a i : ℕ) → (row_start e (suc i) ≡ row_start e i + row_long e a i) ⊎ (((row_start e i + row_long e a i ≡ 24 + 72 * e) × (row_start e (suc i) ≡ 36888)) ⊎ (36888 + 12 * a ≤ row_start e i + row_long e a i))
gap_cases e a i = go (row_cases e a i) (row_cases e a (suc i))
  where
    s : ℕ
    s = row_start e i

    t : ℕ
    t = row_start e (suc i)

    l : ℕ
    l = row_long e a i

    go : Head e a i ⊎ (Entry e a i ⊎ Aside e a i) → Head e a (suc i) ⊎ (Entry e a (suc i) ⊎ Aside e a (suc i))
        → (row_start e (suc i) ≡ row_start e i + row_long e a i) ⊎ (((row_start e i + row_long e a i ≡ 24 + 72 * e) × (row_start e (suc i) ≡ 36888)) ⊎ (36888 + 12 * a ≤ row_start e i + row_long e a i))
    go x (inl y) = absurd (omega (arith, y.is))
    go (inl x) (inr (inl y)) = inl (head_entry s t l i x.is x.start x.long y.start)
    go (inl x) (inr (inr y)) = inr (inl (head_aside e s t l i x.is y.is x.start x.long y.start))
    go (inr (inl x)) (inr (inl y)) = inl (entry-entry s t l i x.is.0 x.start x.long y.start)
    go (inr (inl x)) (inr (inr y)) = inr (inl (entry-aside e s t l i x.is.0 x.is.1 y.is x.start x.long y.start))
    go (inr (inr x)) (inr (inl y)) = absurd (omega (arith, x.is, y.is))
    go (inr (inr x)) (inr (inr y)) =
        ⊎_elim
        (λ (h : 12 * a < 72 * suc (i - suc e)). inr (inr (aside_short s l (i - suc e) a x.start x.long h)))
        (λ (h : 72 * suc (i - suc e) ≤ 12 * a).
        inl (aside_full s t l (i - suc e) a x.start (y.start ∙ ap (λ (n : ℕ). 36888 + 72 * n) (next-aside e i x.is)) x.long h))
        (lt_or_ge (12 * a) (72 * suc (i - suc e)))
