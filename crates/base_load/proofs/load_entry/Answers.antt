-- The row of an entry, from the 72 bytes that a base has for it.
use Rattle.base_load.proofs.Rows.{own_low, folder_low, contents_low, placing_low}
use Rattle.base_load.specs.Loading.{loaded_row}
use Rattle.model.specs.Bytes.{part}
use borrow.Author.Rules.{rules}
use Rattle.base_load.proofs.load_entry.Goals as goal

pub put_identity-requires : goal.put_identity-requires
put_identity-requires c = search (rules, own_low)

pub put_identity-requires-2 : goal.put_identity-requires-2
put_identity-requires-2 c = search (rules, folder_low)

pub put_identity-requires-3 : goal.put_identity-requires-3
put_identity-requires-3 c = search (rules, contents_low)

pub put_identity-requires-4 : goal.put_identity-requires-4
put_identity-requires-4 c = search (rules, placing_low)

pub returns : goal.returns
unfolding loaded_row part
returns c = cc
