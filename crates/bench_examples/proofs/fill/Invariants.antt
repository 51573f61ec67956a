-- n wishes are acted on: how many of the acts answer 0.
use Rattle.std.proofs.Common.{◌≤◌}
use Rattle.bench_examples.proofs.fill.Given as goal

abbrev pub invariant-loop-k : goal.invariant-loop-k
invariant-loop-k l = l.done ≤ l.k
