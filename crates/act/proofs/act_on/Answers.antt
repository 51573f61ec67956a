-- A wish in a sound state: its record is put behind the others and 0 is answered, or it is refused and the log is left.
use Rattle.std.proofs.Common.{rules}
use Rattle.std.proofs.lemmas.Result.{err_from_is_err_and}
use Rattle.refusal.proofs.Refusals.{not_zero}
use Rattle.act.proofs.Acting.{early_refused, early_kept, stamped_formed, place_free, stands_aside_lem, work_laid, added}
use Rattle.act.proofs.act_on.Goals as goal

pub returns-in_err-check_early-clause-acted : goal.returns-in_err-check_early-clause-acted
returns-in_err-check_early-clause-acted c = search (early_refused, not_zero, rules)

pub returns-in_err-check_early-clause-worked : goal.returns-in_err-check_early-clause-worked
returns-in_err-check_early-clause-worked c = search (early_kept, not_zero, c.in_err-check_early.ensures)

pub reason-requires : goal.reason-requires
reason-requires c = (search, search (stamped_formed, c.in_ok-check_early.ensures), search)

pub returns-in_err-reason-clause-acted : goal.returns-in_err-reason-clause-acted
returns-in_err-reason-clause-acted c =
    let p = err_from_is_err_and c.from_residual-in_err-reason.result c.from_residual-in_err-reason.ensures.1 in
    rw (p.1, p.2) (search (stands_aside_lem, not_zero, c.in_ok-check_early.ensures, c.in_err-reason.ensures.tells))

pub returns-in_err-reason-clause-worked : goal.returns-in_err-reason-clause-worked
returns-in_err-reason-clause-worked c = search (work_laid, c.in_ok-check_early.ensures, c.in_err-reason.ensures.lays)

pub put_behind-requires : goal.put_behind-requires
put_behind-requires c = (search, search (place_free, c.in_ok-check_early.ensures), search rules)

pub returns-clause-acted : goal.returns-clause-acted
returns-clause-acted c = search (added, c.in_ok-check_early.ensures, c.in_ok-reason.ensures.tells)

pub returns-clause-worked : goal.returns-clause-worked
returns-clause-worked c = search (work_laid, c.in_ok-check_early.ensures, c.in_ok-reason.ensures.lays)
