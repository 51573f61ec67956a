-- Where records stand, by cases of the layout.
-- Assumes nothing.
use Prim.Native.Nat.{ℕ, ◌+◌, ◌*◌, ◌/◌, ◌%◌}
use mathlib.Core.Path.{◌≡◌}
use Rattle.log_check.specs.declared.Layout.{Layout}
use Rattle.log_check.specs.declared.Layout.TheVariants.{Log, File}
use Rattle.log_check.specs.Places.{offset_of}

pub offset_log : (k : Layout) (i : ℕ) → k ≡ Log → 80 * i ≡ offset_of k i
unfolding offset_of
offset_log k i e = rw e

pub offset_file : (k : Layout) (i : ℕ) → k ≡ File → 512 * (i / 6) + (28 + 80 * (i % 6)) ≡ offset_of k i
unfolding offset_of
offset_file k i e = rw e
