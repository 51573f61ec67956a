-- The line of a unit from its vector on.
use Rattle.line_text.proofs.Chains.{first_of_two, last_of_two, wrote_two}
use Rattle.plan_lines.proofs.Lines.{unit_seen_is}
use Rattle.plan_lines.proofs.unit_seen.Goals as goal

pub put_byte-a-requires : goal.put_byte-a-requires
put_byte-a-requires c = first_of_two (unit_seen_is _) _ _ c.requires

pub seen_line-requires : goal.seen_line-requires
seen_line-requires c = last_of_two (unit_seen_is _) c.requires c.put_byte-a.ensures

pub returns : goal.returns
returns c = wrote_two (unit_seen_is _) c.requires c.put_byte-a.ensures c.seen_line.ensures
