-- One entry more: its row and its role.
use Rattle.base_load.proofs.Roles.{entry-loaded, row_ranged, row_end, row_role, name_chains, name_room}
use borrow.Author.Rules.{rules}
use Rattle.base_load.proofs.add_entry.Goals as goal

pub slice_bounds-load_entry-end : goal.slice_bounds-load_entry-end
slice_bounds-load_entry-end c = search (row_end)

pub load_entry-requires : goal.load_entry-requires
load_entry-requires c = (search rules, search rules, search (row_ranged))

pub name-requires : goal.name-requires
name-requires c = (search (name_chains), search (name_room), search (row_role))

pub returns : goal.returns
returns c = search (entry-loaded)
