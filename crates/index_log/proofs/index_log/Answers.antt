-- The lent index becomes that of the lent state, and the memory to work in the table of its tree.
use Rattle.std.proofs.lemmas.Result.{err_from_is_err_and}
use Rattle.refusal.proofs.Refusals.{not_zero}
use Rattle.call_guard.proofs.Opening.{open_stands}
use Rattle.index_log.proofs.Indexing.{not_indexed, work_left_lem, index_there, work_there, indexed, work_filled}
use Rattle.index_log.proofs.index_log.Goals as goal

pub returns-in_err-state-clause-answer : goal.returns-in_err-state-clause-answer
returns-in_err-state-clause-answer c =
    let p = err_from_is_err_and c.from_residual.result c.from_residual.ensures.1 in
    rw (p.1, p.2) (search (not_indexed, not_zero, c.in_err-state.ensures))

pub returns-in_err-state-clause-work : goal.returns-in_err-state-clause-work
returns-in_err-state-clause-work c = search (work_left_lem, not_zero, c.in_err-state.ensures)

pub lay_index-requires : goal.lay_index-requires
lay_index-requires c =
    let o = c.in_ok-state.ensures in
    (search (open_stands, o), search (index_there, o), search (work_there, o))

pub returns-clause-answer : goal.returns-clause-answer
returns-clause-answer c = search (indexed, c.in_ok-state.ensures)

pub returns-clause-work : goal.returns-clause-work
returns-clause-work c = search (work_filled, c.in_ok-state.ensures)
