-- The number and the place of a refusal.
use Rattle.line_text.proofs.Chains.{first_of_three, second_of_three, last_of_three, wrote_three}
use Rattle.line_refusal.proofs.Refusals.{refusal_is}
use Rattle.line_refusal.proofs.refused_line.Goals as goal

pub put_word-a-requires : goal.put_word-a-requires
put_word-a-requires c = first_of_three (refusal_is _ _) _ _ c.requires

pub put_small-b-requires : goal.put_small-b-requires
put_small-b-requires c = second_of_three (refusal_is _ _) c.requires c.put_word-a.ensures

pub refused_place-requires : goal.refused_place-requires
refused_place-requires c = last_of_three (refusal_is _ _) c.requires c.put_word-a.ensures c.put_small-b.ensures

pub returns : goal.returns
returns c = wrote_three (refusal_is _ _) c.requires c.put_word-a.ensures c.put_small-b.ensures c.refused_place.ensures
