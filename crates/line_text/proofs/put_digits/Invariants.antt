-- The last k digits of a number are written, the last first.
use Prim.Native.Nat.{◌+◌, ◌<◌, ◌≤◌}
use mathlib.Core.Path.{◌≡◌}
use lib.ListN.{length, take, drop}
use Rattle.model.specs.Bytes.{put_at}
use Rattle.model.specs.Listing.{decimal}
use Rattle.line_text.proofs.put_digits.Given as goal

abbrev pub invariant-loop-i : goal.invariant-loop-i
invariant-loop-i l = (l.left < 4294967296)
    × (l.i ≤ length (decimal l.n))
    × (length l.out ≡ length l.initial.out)
    × (0 < l.i → decimal l.left ≡ take l.i (decimal l.n))
    × (l.out ≡ put_at l.initial.out (l.at + l.i) (drop l.i (decimal l.n)))
