-- One act of the own unit: its record is put behind those of the log, or it is refused and the log is left.
use Rattle.std.proofs.lemmas.Result.{err_from_is_err_and}
use Rattle.refusal.proofs.Refusals.{not_zero}
use Rattle.call_guard.proofs.Opening.{open_stands, open_list}
use Rattle.act.proofs.Acting.{guard_refused, guard_kept, low_unit, wish_long, work_long, act-done, work_done}
use Rattle.act.proofs.act.Goals as goal

pub returns-in_err-state-clause-acted : goal.returns-in_err-state-clause-acted
returns-in_err-state-clause-acted c =
    let p = err_from_is_err_and c.from_residual.result c.from_residual.ensures.1 in
    rw (p.1, p.2) (search (guard_refused, not_zero, c.in_err-state.ensures))

pub returns-in_err-state-clause-worked : goal.returns-in_err-state-clause-worked
returns-in_err-state-clause-worked c = search (guard_kept, not_zero, c.in_err-state.ensures)

pub act_on-requires : goal.act_on-requires
act_on-requires c =
    let o = c.in_ok-state.ensures in
    (search (open_stands, o), search (open_list, o), search (low_unit, o), search (wish_long, o), search (work_long, o))

pub returns-clause-acted : goal.returns-clause-acted
returns-clause-acted c = search (act-done, c.in_ok-state.ensures)

pub returns-clause-worked : goal.returns-clause-worked
returns-clause-worked c = search (work_done, c.in_ok-state.ensures)
