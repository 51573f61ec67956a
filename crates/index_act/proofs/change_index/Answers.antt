-- A record that fits does to the index of the tree in a table what it does to the tree.
use Rattle.tree_lookup.proofs.Working.{works_long}
use Rattle.tree_judge.proofs.Reasons.{is_make}
use Rattle.index_act.proofs.Changes.{asked_folder, moved_folder, folder_low, entry_low, own_low, change_make, change_remove, change_rename, change_move, remove-absent, rename-absent, move-absent, change_none}
use borrow.Author.Rules.{rules}
use Rattle.index_act.proofs.change_index.Goals as goal

pub put_in-requires : goal.put_in-requires
put_in-requires c =
    let make = is_make _ _ c.operation_of.ensures c.in-MakeFolder.is in
    (search rules, search (asked_folder, make), search rules, search (own_low))

pub returns-in-MakeFolder : goal.returns-in-MakeFolder
returns-in-MakeFolder c =
    let make = is_make _ _ c.operation_of.ensures c.in-MakeFolder.is in
    search (change_make, make)

pub remove_from-requires : goal.remove_from-requires
remove_from-requires c = (search (works_long), search rules, search rules)

pub returns-in-Some : goal.returns-in-Some
returns-in-Some c = search (change_remove, c.in-Some.ensures.shows, c.in-Some.ensures.within)

pub returns-in_default : goal.returns-in_default
returns-in_default c = search (remove-absent, c.in_default.ensures.shows)

pub inside_at-requires : goal.inside_at-requires
inside_at-requires c = (search (works_long), search rules)

pub move_to-requires : goal.move_to-requires
move_to-requires c =
    let h = c.in-Some-entry_of.ensures.within in
    (search rules, search (works_long), search rules, search (entry_low, h), search (folder_low, h), search)

pub returns-in-Some-entry_of : goal.returns-in-Some-entry_of
returns-in-Some-entry_of c = search (change_rename, c.in-Some-entry_of.ensures.shows, c.in-Some-entry_of.ensures.within)

pub returns-in_default-entry_of : goal.returns-in_default-entry_of
returns-in_default-entry_of c = search (rename-absent, c.in_default-entry_of.ensures.shows)

pub move_to-requires-in-Some-entry_of-2 : goal.move_to-requires-in-Some-entry_of-2
move_to-requires-in-Some-entry_of-2 c =
    (search rules, search (works_long), search rules, search (entry_low, c.in-Some-entry_of-2.ensures.within), search (moved_folder), search)

pub returns-in-Some-entry_of-2 : goal.returns-in-Some-entry_of-2
returns-in-Some-entry_of-2 c = search (change_move, c.in-Some-entry_of-2.ensures.shows, c.in-Some-entry_of-2.ensures.within)

pub returns-in_default-entry_of-2 : goal.returns-in_default-entry_of-2
returns-in_default-entry_of-2 c = search (move-absent, c.in_default-entry_of-2.ensures.shows)

pub returns-in-Settle : goal.returns-in-Settle
returns-in-Settle c = search (change_none)
