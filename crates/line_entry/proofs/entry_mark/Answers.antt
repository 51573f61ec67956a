-- An entry line from its mark on.
use Rattle.model.specs.Bytes.{part}
use Rattle.line_text.proofs.Chains.{first_of_three, second_of_three, last_of_three, wrote_three}
use Rattle.line_entry.proofs.Entries.{mark_is}
use Rattle.line_entry.proofs.entry_mark.Goals as goal

pub put_mark-a-requires : goal.put_mark-a-requires
unfolding part
put_mark-a-requires c = first_of_three (mark_is _) _ _ c.requires.1

pub put_disputed-b-requires : goal.put_disputed-b-requires
unfolding part
put_disputed-b-requires c = second_of_three (mark_is _) c.requires.1 c.put_mark-a.ensures

pub put_byte-requires : goal.put_byte-requires
unfolding part
put_byte-requires c = last_of_three (mark_is _) c.requires.1 c.put_mark-a.ensures c.put_disputed-b.ensures

pub returns : goal.returns
unfolding part
returns c = wrote_three (mark_is _) c.requires.1 c.put_mark-a.ensures c.put_disputed-b.ensures c.put_byte.ensures
