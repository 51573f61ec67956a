-- The blocks of a row are taken in turn, up to the first refusal.
use Rattle.std.proofs.lemmas.Result.{err_from_is_err_and}
use Rattle.keep_take_row.proofs.Taken.{index_wrong, work_wrong, fits, renewed, not_renewed, work_renewed, work_not_renewed, taken_long, base_long, taken_sound}
use Rattle.keep_take_row.proofs.take_row.Goals as goal

pub returns-then-not-both_fit-clause-answer : goal.returns-then-not-both_fit-clause-answer
returns-then-not-both_fit-clause-answer c = search (index_wrong)

pub returns-then-not-both_fit-clause-work : goal.returns-then-not-both_fit-clause-work
returns-then-not-both_fit-clause-work c = search (work_wrong)

pub returns-in_err-t-clause-answer : goal.returns-in_err-t-clause-answer
returns-in_err-t-clause-answer c =
    let p = err_from_is_err_and c.from_residual.result c.from_residual.ensures.1 in
    rw (p.1, p.2) (search (not_renewed, c.in_err-t.ensures))

pub returns-in_err-t-clause-work : goal.returns-in_err-t-clause-work
returns-in_err-t-clause-work c = search (work_not_renewed, c.in_err-t.ensures)

pub renew_lent-requires : goal.renew_lent-requires
renew_lent-requires c =
    let o = c.in_ok-t.ensures in
    (search (taken_long, o), search (base_long, o), search (taken_sound, o), search (fits))

pub returns-then-t-ne0-clause-answer : goal.returns-then-t-ne0-clause-answer
returns-then-t-ne0-clause-answer c = search (renewed, c.in_ok-t.ensures, c.renew_lent.ensures.index)

pub returns-then-t-ne0-clause-work : goal.returns-then-t-ne0-clause-work
returns-then-t-ne0-clause-work c = search (work_renewed, c.in_ok-t.ensures, c.renew_lent.ensures.work)

pub returns-else-t-ne0-clause-answer : goal.returns-else-t-ne0-clause-answer
returns-else-t-ne0-clause-answer c = search (not_renewed, c.in_ok-t.ensures)

pub returns-else-t-ne0-clause-work : goal.returns-else-t-ne0-clause-work
returns-else-t-ne0-clause-work c = search (work_not_renewed, c.in_ok-t.ensures)
