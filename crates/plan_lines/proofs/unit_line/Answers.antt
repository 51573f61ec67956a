-- A unit and its vector.
use Rattle.line_text.proofs.Chains.{first_of_three, second_of_three, last_of_three, wrote_three}
use Rattle.plan_lines.proofs.Lines.{unit_is}
use Rattle.plan_lines.proofs.unit_line.Goals as goal

pub put_word-a-requires : goal.put_word-a-requires
put_word-a-requires c = first_of_three (unit_is _ _) _ _ c.requires

pub put_small-b-requires : goal.put_small-b-requires
put_small-b-requires c = second_of_three (unit_is _ _) c.requires c.put_word-a.ensures

pub unit_seen-requires : goal.unit_seen-requires
unit_seen-requires c = last_of_three (unit_is _ _) c.requires c.put_word-a.ensures c.put_small-b.ensures

pub returns : goal.returns
returns c = wrote_three (unit_is _ _) c.requires c.put_word-a.ensures c.put_small-b.ensures c.unit_seen.ensures
