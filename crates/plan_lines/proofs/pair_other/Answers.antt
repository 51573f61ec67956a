-- The line of a pair from its second unit on.
use Rattle.line_text.proofs.Chains.{first_of_three, second_of_three, last_of_three, wrote_three}
use Rattle.plan_lines.proofs.Lines.{other_is}
use Rattle.plan_lines.proofs.pair_other.Goals as goal

pub put_byte-c-requires : goal.put_byte-c-requires
put_byte-c-requires c = first_of_three (other_is _ _) _ _ c.requires

pub put_small-d-requires : goal.put_small-d-requires
put_small-d-requires c = second_of_three (other_is _ _) c.requires c.put_byte-c.ensures

pub pair_answer-requires : goal.pair_answer-requires
pair_answer-requires c = last_of_three (other_is _ _) c.requires c.put_byte-c.ensures c.put_small-d.ensures

pub returns : goal.returns
returns c = wrote_three (other_is _ _) c.requires c.put_byte-c.ensures c.put_small-d.ensures c.pair_answer.ensures
