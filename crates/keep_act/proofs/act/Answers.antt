-- One act of the own unit: its record is put behind those of the log, and its change into the index, if one is lent; or it is
-- refused and both are left.
use Rattle.std.proofs.lemmas.Result.{err_from_is_err_and}
use Rattle.refusal.proofs.Refusals.{not_zero}
use Rattle.call_guard.proofs.Opening.{open_stands, open_list}
use Rattle.act.proofs.Acting.{low_unit, wish_long, work_long}
use Rattle.keep_act.proofs.Acted.{index_wrong, work_wrong, index_fit, guard_stops, work_left_lem, guard_passed, work_kept}
use Rattle.keep_act.proofs.act.Goals as goal

pub returns-then-not-index_fits-clause-acted : goal.returns-then-not-index_fits-clause-acted
returns-then-not-index_fits-clause-acted c = search (index_wrong)

pub returns-then-not-index_fits-clause-worked : goal.returns-then-not-index_fits-clause-worked
returns-then-not-index_fits-clause-worked c = search (work_wrong)

pub returns-in_err-state-clause-acted : goal.returns-in_err-state-clause-acted
returns-in_err-state-clause-acted c =
    let p = err_from_is_err_and c.from_residual.result c.from_residual.ensures.1 in
    rw (p.1, p.2) (search (guard_stops, not_zero, c.in_err-state.ensures))

pub returns-in_err-state-clause-worked : goal.returns-in_err-state-clause-worked
returns-in_err-state-clause-worked c = search (work_left_lem, not_zero, c.in_err-state.ensures)

pub act_on-requires : goal.act_on-requires
act_on-requires c =
    let o = c.in_ok-state.ensures in
    (search (open_stands, o), search (open_list, o), search (index_fit), search (low_unit, o), search (wish_long, o), search (work_long, o))

pub returns-clause-acted : goal.returns-clause-acted
returns-clause-acted c = search (guard_passed, c.in_ok-state.ensures)

pub returns-clause-worked : goal.returns-clause-worked
returns-clause-worked c = search (work_kept, c.in_ok-state.ensures)
