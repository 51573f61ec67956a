-- One count of a vector.
use Rattle.line_text.proofs.Chains.{first_of_two, last_of_two, wrote_two}
use Rattle.line_head.proofs.Counts.{count_is}
use Rattle.line_head.proofs.put_count.Goals as goal

pub put_byte-a-requires : goal.put_byte-a-requires
put_byte-a-requires c = first_of_two (count_is _) _ _ c.requires

pub put_number-requires : goal.put_number-requires
put_number-requires c = last_of_two (count_is _) c.requires c.put_byte-a.ensures

pub returns : goal.returns
returns c = wrote_two (count_is _) c.requires c.put_byte-a.ensures c.put_number.ensures
