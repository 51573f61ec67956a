-- The pairs whose lower unit is one of the first n.
use Rattle.line_text.proofs.Written.{wrote_none}
use Rattle.plan_model.specs.Plan.{pair_lines}
use Rattle.plan_lines.proofs.Turns.{pairs_of_fit, wrote_next_pairs, wrote_all_pair_lines}
use borrow.Author.Rules.{rules}
use Rattle.plan_lines.proofs.pair_lines.Goals as goal

pub loop-a-init : goal.loop-a-init
unfolding pair_lines
loop-a-init c = wrote_none _ _

pub pairs_of-m-requires : goal.pairs_of-m-requires
pairs_of-m-requires c = (search rules, search rules, search (pairs_of_fit))

pub loop-a-preserved : goal.loop-a-preserved
loop-a-preserved c = search (wrote_next_pairs)

pub returns : goal.returns
returns c = search (wrote_all_pair_lines)
