use Rattle.std.proofs.Common.{◌≡◌, ◌≤◌, length, take}
use Rattle.model.specs.Bytes.{part}
use Rattle.byte_copy.proofs.read_16.Given as goal

abbrev pub invariant-loop-i : goal.invariant-loop-i
invariant-loop-i l = (l.i ≤ 16) × (length l.bytes ≡ 16) × (take l.i l.bytes ≡ part l.s l.at l.i)
