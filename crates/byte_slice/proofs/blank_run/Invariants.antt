use Rattle.std.proofs.Common.{◌≡◌, ◌≤◌}
use Rattle.model.specs.Bytes.{blank, part}
use Rattle.byte_slice.proofs.blank_run.Given as goal

abbrev pub invariant-loop-i : goal.invariant-loop-i
invariant-loop-i l = (l.i ≤ l.n) × (l.zeros ≡ blank (part l.s l.at l.i))
