-- The same, if an index is lent.
use borrow.Author.Tests.{true-eqb, false-eqb}
use Rattle.keep_lent.proofs.Lent.{both_index, both_work, is_lent, none_lent}
use Rattle.index_log.proofs.Indexing.{work_laid, work_kept}
use Rattle.index_log.proofs.renew_lent.Goals as goal

pub renew-requires : goal.renew-requires
renew-requires c =
    let some = false-eqb _ _ c.if-not-is_empty.ensures in
    (search, search, search, both_index _ _ c.requires.3 some, both_work _ _ c.requires.3 some)

pub returns-then-not-is_empty-clause-index : goal.returns-then-not-is_empty-clause-index
returns-then-not-is_empty-clause-index c = search (is_lent, false-eqb, c.if-not-is_empty.ensures, c.renew.ensures.index)

pub returns-then-not-is_empty-clause-work : goal.returns-then-not-is_empty-clause-work
returns-then-not-is_empty-clause-work c = work_laid _ _ _ _ c.requires.3 (false-eqb _ _ c.if-not-is_empty.ensures) c.renew.ensures.work

pub returns-else-not-is_empty-clause-index : goal.returns-else-not-is_empty-clause-index
returns-else-not-is_empty-clause-index c = search (none_lent, true-eqb, c.if-not-is_empty.ensures)

pub returns-else-not-is_empty-clause-work : goal.returns-else-not-is_empty-clause-work
returns-else-not-is_empty-clause-work c = work_kept _ _ _ _ (true-eqb _ _ c.if-not-is_empty.ensures)
