-- A record of any operation.
use Rattle.tree_judge.proofs.Reasons.{is_make, judged_make, judged_store, judged_remove, judged_rename, judged_settle, judged_move}
use Rattle.tree_lookup.proofs.Working.{works_long}
use native.Mathlib.Omega.{arith}
use mathlib.Core.Path.{sym}
use Rattle.tree_judge.proofs.judge.Goals as goal

pub judge_make-requires : goal.judge_make-requires
judge_make-requires c = (search, is_make _ _ c.operation_of.ensures c.in-MakeFolder.is, search)

pub returns-in-MakeFolder : goal.returns-in-MakeFolder
returns-in-MakeFolder c = search (judged_make, is_make _ _ c.operation_of.ensures c.in-MakeFolder.is)

pub judge_store-requires : goal.judge_store-requires
judge_store-requires c = (search, search (works_long), omega arith)

pub returns-in-Store : goal.returns-in-Store
returns-in-Store c = search (judged_store, c.in-Store.ensures)

pub returns-in-Remove : goal.returns-in-Remove
returns-in-Remove c = search (judged_remove, c.in-Remove.ensures)

pub returns-in-Rename : goal.returns-in-Rename
returns-in-Rename c = search (judged_rename, c.in-Rename.ensures)

pub returns-in-Settle : goal.returns-in-Settle
returns-in-Settle c = search (judged_settle, c.in-Settle.ensures)

pub judge_move-requires : goal.judge_move-requires
judge_move-requires c = (search, sym c.in-Move.ensures, search)

pub returns-in-Move : goal.returns-in-Move
returns-in-Move c = search (judged_move, c.in-Move.ensures)
