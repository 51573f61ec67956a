-- The lines of the first n units.
use Rattle.line_text.proofs.Written.{wrote_none}
use Rattle.plan_model.specs.Plan.{unit_lines}
use Rattle.plan_lines.proofs.Turns.{unit_line_fits, wrote_next_unit, wrote_all_units}
use Rattle.plan_lines.proofs.unit_lines.Goals as goal

pub loop-u-init : goal.loop-u-init
unfolding unit_lines
loop-u-init c = wrote_none _ _

pub unit_line-m-requires : goal.unit_line-m-requires
unit_line-m-requires c = search (unit_line_fits)

pub loop-u-preserved : goal.loop-u-preserved
loop-u-preserved c = search (wrote_next_unit)

pub returns : goal.returns
returns c = search (wrote_all_units)
