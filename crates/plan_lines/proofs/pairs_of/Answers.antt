-- Unit a with the first n units above it.
use Rattle.line_text.proofs.Written.{wrote_none}
use Rattle.plan_model.specs.Plan.{pairs_of}
use Rattle.plan_lines.proofs.Turns.{pair_line_fits, wrote_next_pair, wrote_all_pairs}
use Rattle.plan_lines.proofs.pairs_of.Goals as goal

pub loop-i-init : goal.loop-i-init
unfolding pairs_of
loop-i-init c = wrote_none _ _

pub pair_line-m-requires : goal.pair_line-m-requires
pair_line-m-requires c = search (pair_line_fits)

pub loop-i-preserved : goal.loop-i-preserved
loop-i-preserved c = search (wrote_next_pair)

pub returns : goal.returns
returns c = search (wrote_all_pairs)
