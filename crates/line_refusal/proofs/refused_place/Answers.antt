-- A refusal from its place on.
use Rattle.line_text.proofs.Chains.{first_of_three, second_of_three, last_of_three, wrote_three}
use Rattle.line_refusal.proofs.Refusals.{place_is}
use Rattle.line_refusal.proofs.refused_place.Goals as goal

pub put_word-a-requires : goal.put_word-a-requires
put_word-a-requires c = first_of_three (place_is _) _ _ c.requires

pub put_number-b-requires : goal.put_number-b-requires
put_number-b-requires c = second_of_three (place_is _) c.requires c.put_word-a.ensures

pub put_byte-requires : goal.put_byte-requires
put_byte-requires c = last_of_three (place_is _) c.requires c.put_word-a.ensures c.put_number-b.ensures

pub returns : goal.returns
returns c = wrote_three (place_is _) c.requires c.put_word-a.ensures c.put_number-b.ensures c.put_byte.ensures
