-- A pair and its answer.
use Rattle.line_text.proofs.Chains.{first_of_three, second_of_three, last_of_three, wrote_three}
use Rattle.plan_lines.proofs.Lines.{pair_parts}
use Rattle.plan_lines.proofs.pair_line.Goals as goal

pub put_word-c-requires : goal.put_word-c-requires
put_word-c-requires c = first_of_three (pair_parts _ _ _) _ _ c.requires

pub put_small-d-requires : goal.put_small-d-requires
put_small-d-requires c = second_of_three (pair_parts _ _ _) c.requires c.put_word-c.ensures

pub pair_other-requires : goal.pair_other-requires
pair_other-requires c = last_of_three (pair_parts _ _ _) c.requires c.put_word-c.ensures c.put_small-d.ensures

pub returns : goal.returns
returns c = wrote_three (pair_parts _ _ _) c.requires c.put_word-c.ensures c.put_small-d.ensures c.pair_other.ensures
