-- Zeros with the list written first are an empty base.
-- Assumes nothing.
use Prim.Native.Nat.{ℕ}
use mathlib.Core.Path.{◌≡◌, refl}
use mathlib.Core.List.{List}
use lib.ListN.{length, replicate, set}
use Rattle.base_model.specs.Base.{empty_base}

listed-zeros : set (replicate 43032 0) 0 255 ≡ empty_base
unfolding empty_base
listed-zeros = refl

pub emptied : (base zeros : List ℕ) → length base ≡ 43032 → zeros ≡ replicate (length base) 0 → set zeros 0 255 ≡ empty_base
emptied base zeros e z = rw (z, e) listed-zeros
