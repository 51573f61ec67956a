-- Blocks are passed to another log until nothing is lacking, at most 100.
use Rattle.std.proofs.Common.{◌≤◌}
use Rattle.bench_examples.proofs.pass.Given as goal

abbrev pub invariant-loop-n : goal.invariant-loop-n
invariant-loop-n l = l.taken ≤ l.n
