-- A wish in a sound state: its record is put behind the others, its change into the index; or it is refused and log and index are left.
use Rattle.std.proofs.Common.{rules}
use Rattle.std.proofs.lemmas.Result.{err_from_is_err_and}
use Rattle.refusal.proofs.Refusals.{not_zero}
use Rattle.act.proofs.Acting.{early_kept, stamped_formed, place_free, work_laid}
use Rattle.keep_act.proofs.Acted.{own_range, kept_early, kept-aside, kept_added}
use Rattle.keep_act.proofs.act_on.Goals as goal

pub returns-in_err-check_early-clause-acted : goal.returns-in_err-check_early-clause-acted
returns-in_err-check_early-clause-acted c =
    let p = err_from_is_err_and c.from_residual.result c.from_residual.ensures.1 in
    rw (p.1, p.2) (search (kept_early, not_zero, c.in_err-check_early.ensures))

pub returns-in_err-check_early-clause-worked : goal.returns-in_err-check_early-clause-worked
returns-in_err-check_early-clause-worked c = search (early_kept, not_zero, c.in_err-check_early.ensures)

pub change-requires : goal.change-requires
change-requires c =
    let e = c.in_ok-check_early.ensures in
    (search, search (stamped_formed, e), search (own_range, e), search, search)

pub returns-in_err-change-clause-acted : goal.returns-in_err-change-clause-acted
returns-in_err-change-clause-acted c =
    let p = err_from_is_err_and c.from_residual-in_err-change.result c.from_residual-in_err-change.ensures.1 in
    rw (p.1, p.2) (search (kept-aside, not_zero, c.in_ok-check_early.ensures, c.in_err-change.ensures.tells, c.in_err-change.ensures.changes))

pub returns-in_err-change-clause-worked : goal.returns-in_err-change-clause-worked
returns-in_err-change-clause-worked c = search (work_laid, c.in_ok-check_early.ensures, c.in_err-change.ensures.lays)

pub put_behind-requires : goal.put_behind-requires
put_behind-requires c = (search, search (place_free, c.in_ok-check_early.ensures), search rules)

pub returns-clause-acted : goal.returns-clause-acted
returns-clause-acted c = search (kept_added, c.in_ok-check_early.ensures, c.in_ok-change.ensures.tells, c.in_ok-change.ensures.changes)

pub returns-clause-worked : goal.returns-clause-worked
returns-clause-worked c = search (work_laid, c.in_ok-check_early.ensures, c.in_ok-change.ensures.lays)
