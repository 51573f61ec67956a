-- Archive, unit and record count.
use Rattle.line_text.proofs.Chains.{first_of_three, second_of_three, last_of_three, wrote_three}
use Rattle.line_head.proofs.Heads.{head_is}
use Rattle.line_head.proofs.head_line.Goals as goal

pub put_word-a-requires : goal.put_word-a-requires
put_word-a-requires c = first_of_three (head_is _ _ _) _ _ c.requires

pub put_decimal-b-requires : goal.put_decimal-b-requires
put_decimal-b-requires c = second_of_three (head_is _ _ _) c.requires c.put_word-a.ensures

pub head_unit-requires : goal.head_unit-requires
head_unit-requires c = last_of_three (head_is _ _ _) c.requires c.put_word-a.ensures c.put_decimal-b.ensures

pub returns : goal.returns
returns c = wrote_three (head_is _ _ _) c.requires c.put_word-a.ensures c.put_decimal-b.ensures c.head_unit.ensures
