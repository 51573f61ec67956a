-- No more cases pass than were run, and no more are run than there are.
use Rattle.std.proofs.Common.{◌-◌, ◌≤◌}
use Rattle.readout_cases.proofs.main.Given as goal

abbrev pub invariant-loop-i : goal.invariant-loop-i
invariant-loop-i l = l.passed ≤ l.i
