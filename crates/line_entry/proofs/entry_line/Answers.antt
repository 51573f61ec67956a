-- The line of an entry row.
use Rattle.model.specs.Bytes.{part}
use Rattle.std.proofs.Common.{rules}
use Rattle.line_text.proofs.Chains.{first_of_three, second_of_three, last_of_three, wrote_three}
use Rattle.line_entry.proofs.Entries.{entry_is}
use Rattle.line_entry.proofs.entry_line.Goals as goal

pub put_kind-a-requires : goal.put_kind-a-requires
unfolding part
put_kind-a-requires c = first_of_three (entry_is _) _ _ c.requires.1

pub put_identity-b-requires : goal.put_identity-b-requires
unfolding part
put_identity-b-requires c = (search rules, second_of_three (entry_is _) c.requires.1 c.put_kind-a.ensures)

pub entry_folder-requires : goal.entry_folder-requires
unfolding part
entry_folder-requires c = (search rules, last_of_three (entry_is _) c.requires.1 c.put_kind-a.ensures c.put_identity-b.ensures)

pub returns : goal.returns
unfolding part
returns c = wrote_three (entry_is _) c.requires.1 c.put_kind-a.ensures c.put_identity-b.ensures c.entry_folder.ensures
