-- A block is taken into the log, and a lent index becomes that of log and base, by way of the memory to work in that is lent
-- with it.
use Rattle.std.proofs.lemmas.Result.{err_from_is_err_and}
use Rattle.refusal.proofs.Refusals.{not_zero}
use Rattle.keep_take.proofs.Taken.{index_wrong, work_wrong, fits, renewed, not_renewed, work_renewed, work_not_renewed, taken_long, base_long, taken_sound}
use Rattle.keep_take.proofs.take.Goals as goal

pub returns-then-not-both_fit-clause-answer : goal.returns-then-not-both_fit-clause-answer
returns-then-not-both_fit-clause-answer c = search (index_wrong)

pub returns-then-not-both_fit-clause-work : goal.returns-then-not-both_fit-clause-work
returns-then-not-both_fit-clause-work c = search (work_wrong)

pub returns-in_err-take-clause-answer : goal.returns-in_err-take-clause-answer
returns-in_err-take-clause-answer c =
    let p = err_from_is_err_and c.from_residual.result c.from_residual.ensures.1 in
    rw (p.1, p.2) (search (not_renewed, not_zero, c.in_err-take.ensures))

pub returns-in_err-take-clause-work : goal.returns-in_err-take-clause-work
returns-in_err-take-clause-work c = search (work_not_renewed, not_zero, c.in_err-take.ensures)

pub renew_lent-requires : goal.renew_lent-requires
renew_lent-requires c =
    let o = c.in_ok-take.ensures in
    (search (taken_long, o), search (base_long, o), search (taken_sound, o), search (fits))

pub returns-clause-answer : goal.returns-clause-answer
returns-clause-answer c = search (renewed, c.in_ok-take.ensures, c.renew_lent.ensures.index)

pub returns-clause-work : goal.returns-clause-work
returns-clause-work c = search (work_renewed, c.in_ok-take.ensures, c.renew_lent.ensures.work)
