-- A record that fits does what its operation says.
use native.Mathlib.Omega.{arith}
use mathlib.Core.Path.{sym}
use Rattle.tree_judge.proofs.Reasons.{is_make}
use Rattle.tree_effect.proofs.Effects.{make_home, move_home, effect_make, effect_store, effect_remove, effect_rename, effect_settle, effect_move}
use Rattle.tree_effect.proofs.Registers.{make_turns, store_turns, remove_turns, rename_turns, settle_turns, move_turns}
use Rattle.tree_effect.proofs.effect.Goals as goal

pub add_entry-requires : goal.add_entry-requires
add_entry-requires c =
    let make = is_make _ _ c.operation_of.ensures c.in-MakeFolder.is in
    (search, search, search (make_home, make), search, search, search, make, search, search)

pub returns-in-MakeFolder : goal.returns-in-MakeFolder
returns-in-MakeFolder c =
    let make = is_make _ _ c.operation_of.ensures c.in-MakeFolder.is in
    (search (effect_make, make), omega arith, search (make_turns, make))

pub move_entry-requires : goal.move_entry-requires
move_entry-requires c = (search, search, search (move_home, c.in-Move.ensures), search, sym c.in-Move.ensures)

pub returns-in-Store : goal.returns-in-Store
returns-in-Store c = (search (effect_store, c.in-Store.ensures), omega arith, search (store_turns, c.in-Store.ensures))

pub returns-in-Remove : goal.returns-in-Remove
returns-in-Remove c = (search (effect_remove, c.in-Remove.ensures), omega arith, search (remove_turns, c.in-Remove.ensures))

pub returns-in-Rename : goal.returns-in-Rename
returns-in-Rename c = (search (effect_rename, c.in-Rename.ensures), omega arith, search (rename_turns, c.in-Rename.ensures))

pub returns-in-Settle : goal.returns-in-Settle
returns-in-Settle c = (search (effect_settle, c.in-Settle.ensures), omega arith, search (settle_turns, c.in-Settle.ensures))

pub returns-in-Move : goal.returns-in-Move
returns-in-Move c = (search (effect_move, c.in-Move.ensures), omega arith, search (move_turns, c.in-Move.ensures))
