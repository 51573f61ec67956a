-- One aside more: its row and its role.
use Rattle.base_load.proofs.Roles.{aside-loaded, note_noted, note_end, note_role, note_chains, note_room}
use borrow.Author.Rules.{rules}
use Rattle.base_load.proofs.add_aside.Goals as goal

pub slice_bounds-load_aside-end : goal.slice_bounds-load_aside-end
slice_bounds-load_aside-end c = search (note_end)

pub load_aside-requires : goal.load_aside-requires
load_aside-requires c = (search rules, search rules, search (note_noted))

pub name-requires : goal.name-requires
name-requires c = (search (note_chains), search (note_room), search (note_role))

pub returns : goal.returns
returns c = search (aside-loaded)
