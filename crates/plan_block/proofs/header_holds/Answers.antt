-- At most five events; unit, place and vector zero, and zeros behind the events.
use Rattle.std.proofs.Common.{◌∙◌}
use Rattle.plan_block.proofs.Blocks.{many_events, has_unit, head_set, rest_decides}
use Rattle.plan_block.proofs.header_holds.Goals as goal

pub returns-then-n-gt5 : goal.returns-then-n-gt5
returns-then-n-gt5 c = search (many_events, c.from-n.ensures ∙ c.count_in.ensures)

pub returns-then-sender_in-ne0 : goal.returns-then-sender_in-ne0
returns-then-sender_in-ne0 c = search (has_unit, c.from-n.ensures ∙ c.count_in.ensures)

pub returns-then-not-is_blank : goal.returns-then-not-is_blank
returns-then-not-is_blank c = search (head_set, c.from-n.ensures ∙ c.count_in.ensures)

pub returns : goal.returns
returns c = search (rest_decides, c.from-n.ensures ∙ c.count_in.ensures)
