-- An entry line from its date on.
use Rattle.model.specs.Bytes.{part}
use Rattle.std.proofs.Common.{rules}
use Rattle.line_text.proofs.Chains.{first_of_three, second_of_three, last_of_three, wrote_three}
use Rattle.line_entry.proofs.Entries.{date_is}
use Rattle.line_entry.proofs.entry_date.Goals as goal

pub put_byte-a-requires : goal.put_byte-a-requires
unfolding part
put_byte-a-requires c = first_of_three (date_is _) _ _ c.requires.1

pub put_date-b-requires : goal.put_date-b-requires
unfolding part
put_date-b-requires c = (search rules, second_of_three (date_is _) c.requires.1 c.put_byte-a.ensures)

pub entry_mark-requires : goal.entry_mark-requires
unfolding part
entry_mark-requires c = (search rules, last_of_three (date_is _) c.requires.1 c.put_byte-a.ensures c.put_date-b.ensures)

pub returns : goal.returns
unfolding part
returns c = wrote_three (date_is _) c.requires.1 c.put_byte-a.ensures c.put_date-b.ensures c.entry_mark.ensures
