-- An entry line from its label on.
use Rattle.model.specs.Bytes.{part}
use Rattle.std.proofs.Common.{rules}
use Rattle.line_text.proofs.Chains.{first_of_three, second_of_three, last_of_three, wrote_three}
use Rattle.line_entry.proofs.Entries.{label_is}
use Rattle.line_entry.proofs.entry_label.Goals as goal

pub put_byte-a-requires : goal.put_byte-a-requires
unfolding part
put_byte-a-requires c = first_of_three (label_is _) _ _ c.requires.1

pub put_label-b-requires : goal.put_label-b-requires
unfolding part
put_label-b-requires c = second_of_three (label_is _) c.requires.1 c.put_byte-a.ensures

pub entry_date-requires : goal.entry_date-requires
unfolding part
entry_date-requires c = (search rules, last_of_three (label_is _) c.requires.1 c.put_byte-a.ensures c.put_label-b.ensures)

pub returns : goal.returns
unfolding part
returns c = wrote_three (label_is _) c.requires.1 c.put_byte-a.ensures c.put_label-b.ensures c.entry_date.ensures
