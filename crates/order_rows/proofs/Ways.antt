-- What the functions over rows are asked, over plain values.
-- Assumes nothing.
use Prim.Native.Nat.{ℕ, ◌+◌, ◌-◌, ◌*◌, ◌≤◌, ◌<◌}
use native.Mathlib.Numerals.{add-one}
use native.Mathlib.Omega.{arith}
use mathlib.Core.Path.{◌≡◌, refl, sym, ◌∙◌}
use mathlib.Core.Bool.{Bool, true, false, not, true≢false}
use mathlib.Core.List.{List}
use lib.ListN.{take, drop}
use borrow.Author.Tests.{not-true, not-false}
use Rattle.model.specs.Bytes.{word, same_bytes, part}
use Rattle.model.specs.Record.{identity_at}
use Rattle.model.specs.Log.{all_to}
use Rattle.model.specs.Table.{entry_in, aside_in}
use Rattle.byte_slice.proofs.Numbers.{test_false}
use Rattle.byte_slice.proofs.Parts.{part_is}
use Rattle.log_laws.proofs.Tests.{all_to-at}
use Rattle.order_rows.specs.declared.Rows.{Rows}
use Rattle.order_rows.specs.declared.Rows.TheVariants.{Entries, Asides}
use Rattle.order_rows.specs.Compared.{key_in, row_count, row_alike, row_shown, rows_within}

-- ---- by cases of the rows

pub count_entries : (p : Rows) (b : List ℕ) (x n : ℕ) → p ≡ Entries → x ≡ word b 0 → n ≡ x → n ≡ row_count p b
unfolding row_count
count_entries p b x n e q r = r ∙ q ∙ rw e

pub count_asides : (p : Rows) (b : List ℕ) (x n : ℕ) → p ≡ Asides → x ≡ word b 2 → n ≡ x → n ≡ row_count p b
unfolding row_count
count_asides p b x n e q r = r ∙ q ∙ rw e

pub key_entry : (p : Rows) (b : List ℕ) (i k : ℕ) → p ≡ Entries → k ≡ (entry_in b (4 + 72 * i)).made → k ≡ key_in p b i
unfolding key_in
key_entry p b i k e q = q ∙ rw e

pub key_aside : (p : Rows) (b : List ℕ) (i k : ℕ) → p ≡ Asides → k ≡ identity_at b (73732 + 12 * i) → k ≡ key_in p b i
unfolding key_in aside_in
key_aside p b i k e q = q ∙ rw e

-- ---- two rows

module _ (a b : List ℕ) (i j : ℕ) where
  pub heads_differ : (t : Bool) → t ≡ same_bytes (take (4 + 72 * i + 12 - (4 + 72 * i)) (drop (4 + 72 * i) a)) (take (4 + 72 * j + 12 - (4 + 72 * j)) (drop (4 + 72 * j) b)) → not t ≡ true
      → false ≡ row_alike Entries a i b j
  unfolding row_alike
  heads_differ t e z =
      let f : same_bytes (part a (4 + 72 * i) 12) (part b (4 + 72 * j) 12) ≡ false = sym (rw (part_is a (4 + 72 * i) 12, part_is b (4 + 72 * j) 12) at e) ∙ not-true t z in
      rw f

  pub rows_same : (t r : Bool) → t ≡ same_bytes (take (4 + 72 * i + 12 - (4 + 72 * i)) (drop (4 + 72 * i) a)) (take (4 + 72 * j + 12 - (4 + 72 * j)) (drop (4 + 72 * j) b)) → not t ≡ false
      → r ≡ same_bytes (take (24 + 72 * i + 52 - (24 + 72 * i)) (drop (24 + 72 * i) a)) (take (24 + 72 * j + 52 - (24 + 72 * j)) (drop (24 + 72 * j) b))
      → r ≡ row_alike Entries a i b j
  unfolding row_alike
  rows_same t r e z q =
      let f : same_bytes (part a (4 + 72 * i) 12) (part b (4 + 72 * j) 12) ≡ true = sym (rw (part_is a (4 + 72 * i) 12, part_is b (4 + 72 * j) 12) at e) ∙ not-false t z in
      rw f (rw (part_is a (24 + 72 * i) 52, part_is b (24 + 72 * j) 52) at q)

  pub asides_same : (r : Bool) → r ≡ same_bytes (take (73732 + 12 * i + 12 - (73732 + 12 * i)) (drop (73732 + 12 * i) a)) (take (73732 + 12 * j + 12 - (73732 + 12 * j)) (drop (73732 + 12 * j) b))
      → r ≡ row_alike Asides a i b j
  unfolding row_alike
  asides_same r q = rw (part_is a (73732 + 12 * i) 12, part_is b (73732 + 12 * j) 12) at q

-- ---- all rows

pub all_none : (p : Rows) (a b : List ℕ) → all_to 0 (row_shown p a b) ≡ true
unfolding all_to
all_none p a b = refl

module _ (p : Rows) (a b : List ℕ) (i n : ℕ) (t : Bool) (c : n ≡ row_count p a) (h : i < n) (e : t ≡ row_shown p a b i) where
  pub all_stop : not t ≡ true → false ≡ rows_within p a b
  unfolding rows_within
  all_stop z =
      sym (test_false (all_to (row_count p a) (row_shown p a b))
      (λ y. true≢false (sym (all_to-at (row_count p a) (row_shown p a b) y i (omega arith)) ∙ (sym e ∙ not-true t z))))

  pub all_more : not t ≡ false → all_to i (row_shown p a b) ≡ true → all_to (i + 1) (row_shown p a b) ≡ true
  unfolding all_to
  all_more z y = rw (add-one i, y, ← e) (not-false t z)

pub all_done : (p : Rows) (a b : List ℕ) (i n : ℕ) → n ≡ row_count p a → i ≤ n → n ≤ i → all_to i (row_shown p a b) ≡ true → true ≡ rows_within p a b
unfolding rows_within
all_done p a b i n c h g y = let e : i ≡ row_count p a = omega arith in sym (rw e at y)
