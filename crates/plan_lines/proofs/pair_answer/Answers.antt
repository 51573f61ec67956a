-- The line of a pair from its answer on.
use Rattle.line_text.proofs.Chains.{first_of_three, second_of_three, last_of_three, wrote_three}
use Rattle.plan_lines.proofs.Lines.{answer_is}
use Rattle.plan_lines.proofs.pair_answer.Goals as goal

pub put_word-a-requires : goal.put_word-a-requires
put_word-a-requires c = first_of_three (answer_is _) _ _ c.requires

pub put_small-b-requires : goal.put_small-b-requires
put_small-b-requires c = second_of_three (answer_is _) c.requires c.put_word-a.ensures

pub put_byte-requires : goal.put_byte-requires
put_byte-requires c = last_of_three (answer_is _) c.requires c.put_word-a.ensures c.put_small-b.ensures

pub returns : goal.returns
returns c = wrote_three (answer_is _) c.requires c.put_word-a.ensures c.put_small-b.ensures c.put_byte.ensures
