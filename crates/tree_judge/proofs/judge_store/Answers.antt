-- A store on the entry in a row: 12 for no entry, 14 for a folder, 17 for unseen contents.
use Rattle.std.proofs.Common.{rules}
use Rattle.tree_judge.proofs.Reasons.{store_absent, store_folder, store_unseen, store_fits}
use Rattle.tree_judge.proofs.judge_store.Goals as goal

pub returns-in_default : goal.returns-in_default
returns-in_default c = search (store_absent, c.in_default.ensures.absent, rules)

pub returns-then-is_folder : goal.returns-then-is_folder
returns-then-is_folder c = rw c.in-Some.ensures.kept (search (store_folder, c.in-Some.ensures.within))

pub returns-then-is_unseen : goal.returns-then-is_unseen
returns-then-is_unseen c = rw c.in-Some.ensures.kept (search (store_unseen, c.in-Some.ensures.within))

pub returns : goal.returns
returns c = rw c.in-Some.ensures.kept (search (store_fits, c.in-Some.ensures.within))
