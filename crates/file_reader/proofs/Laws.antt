-- Record i of a file, or zeros: each way out of `record_at`.
-- Assumes nothing.
use Prim.Native.Nat.{ℕ, ◌+◌, ◌-◌, ◌*◌, ◌/◌, ◌%◌, ◌≤◌, ◌<◌}
use native.Mathlib.Numerals.{add-one}
use native.Mathlib.Omega.{arith}
use mathlib.Core.Path.{◌≡◌, refl, ◌∙◌}
use mathlib.Core.List.{List}
use lib.ListN.{length, replicate, take, drop}
use borrow.Author.Tests.{lt-leb, le-leb, lt-ltb, le-ltb}
use Rattle.model.specs.Bytes.{put_at}
use Rattle.model.specs.File.{file_record}
use Rattle.byte_slice.proofs.Parts.{part_is}
use Rattle.file_reader.specs.Walk.{record_or_zeros, walked_to}

module _ (f : List ℕ) (i : ℕ) where
  pub too_high : 516 ≤ i → replicate 80 0 ≡ record_or_zeros f i
  unfolding record_or_zeros
  too_high h = rw (le-leb 516 i h)

  pub too_short : i < 516 → length f < 512 * (i / 6) + (28 + 80 * (i % 6)) + 80 → replicate 80 0 ≡ record_or_zeros f i
  unfolding record_or_zeros
  too_short h g = rw (lt-leb 516 i h, lt-ltb (length f) (512 * (i / 6) + (28 + 80 * (i % 6)) + 80) g)

  pub copied : (b : List ℕ) → i < 516 → 512 * (i / 6) + (28 + 80 * (i % 6)) + 80 ≤ length f
      → b ≡ take (512 * (i / 6) + (28 + 80 * (i % 6)) + 80 - (512 * (i / 6) + (28 + 80 * (i % 6)))) (drop (512 * (i / 6) + (28 + 80 * (i % 6))) f)
      → b ≡ record_or_zeros f i
  unfolding record_or_zeros file_record
  copied b h g e =
      let at : ℕ = 512 * (i / 6) + (28 + 80 * (i % 6)) in
      rw (lt-leb 516 i h, le-ltb (length f) (at + 80) g) (e ∙ part_is f at 80)

-- a record fits its place
pub record_fits : (i : ℕ) (d s : List ℕ) → 80 * i + 80 ≤ length d → length s ≡ 80 → 80 * i + length s ≤ length d
record_fits i d s h e = omega arith

-- ---- a walk

pub walked_none : (d f : List ℕ) → d ≡ walked_to d f 0
unfolding walked_to
walked_none d f = refl

pub walked_more : (d f : List ℕ) (i : ℕ) → put_at (walked_to d f i) (80 * i) (record_or_zeros f i) ≡ walked_to d f (i + 1)
unfolding walked_to
walked_more d f i = rw (add-one i)
