-- An act: its record is made, or it is skipped and every log is left.
use Rattle.std.proofs.Common.{rules}
use Rattle.refusal.proofs.Refusals.{not_zero}
use Rattle.plan_units.proofs.Logs.{good_part}
use Rattle.plan_act.proofs.Acting.{full_skips, refused_skips, accepted_makes}
use Rattle.plan_act.proofs.act.Goals as goal

pub returns-then-t-ge512 : goal.returns-then-t-ge512
returns-then-t-ge512 c = search (full_skips)

pub act_unit-requires : goal.act_unit-requires
act_unit-requires c = (search (good_part), search rules, search rules, search rules, search rules)

pub returns-in-Ok : goal.returns-in-Ok
returns-in-Ok c = search (accepted_makes, c.in-Ok.ensures)

pub returns-in-Err : goal.returns-in-Err
returns-in-Err c = search (refused_skips, not_zero, c.in-Err.ensures)
