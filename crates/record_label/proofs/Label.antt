-- What the code of labels is asked at each way out, over plain values.
-- Assumes nothing.
use Prim.Native.Nat.{ℕ, suc, ◌+◌, ◌≤◌, ◌<◌}
use native.Mathlib.Omega.{arith}
use mathlib.Core.Path.{◌≡◌}
use mathlib.Core.Bool.{cond}
use mathlib.Core.List.{List}
use lib.Dec.{eqb}
use lib.ListN.{get_or, length, drop, drop_of_length-le}
use borrow.Author.Tests.{eq-eqb, ne_eqb}
use Rattle.model.specs.Record.{text_length}
use Rattle.byte_slice.proofs.Parts.{drop_more}

-- ---- the length of a text

module _ (t : List ℕ) (i : ℕ) (inv : i + text_length (drop i t) ≡ text_length t) where
  step : i < length t → i + cond (eqb (get_or t i 0) 0) 0 (suc (text_length (drop (i + 1) t))) ≡ text_length t
  unfolding text_length
  step h = rw (drop_more t i h) at inv

  pub text_next : i < length t → (get_or t i 0 ≡ 0 → ⊥) → i + 1 + text_length (drop (i + 1) t) ≡ text_length t
  text_next h g = omega (arith, rw (ne_eqb (get_or t i 0) 0 g) at (step h))

  pub text_stops : i < length t → get_or t i 0 ≡ 0 → i ≡ text_length t
  text_stops h g = omega (arith, rw (eq-eqb (get_or t i 0) 0 g) at (step h))

  pub text_ends : i ≤ length t → length t ≤ i → length t ≡ text_length t
  unfolding text_length
  text_ends g h = omega (arith, rw (drop_of_length-le t {i = i} h) at inv)
