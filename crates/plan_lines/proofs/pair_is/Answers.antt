-- How the vectors of two units compare.
use Rattle.std.proofs.Common.{◌∙◌}
use Rattle.plan_lines.proofs.Lines.{pair_answers}
use Rattle.plan_lines.proofs.pair_is.Goals as goal

pub returns : goal.returns
returns c = c.from.ensures ∙ pair_answers c.args.logs.now _ _ c.true_vector-v.ensures c.true_vector-w.ensures c.compare-c.ensures
