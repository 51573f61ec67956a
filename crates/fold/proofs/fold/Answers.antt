-- Records are folded by a given list, which is stored also where none is.
use Rattle.std.proofs.lemmas.Result.{err_from_is_err_and}
use Rattle.refusal.proofs.Refusals.{not_zero}
use Rattle.fold.proofs.Folding.{refused_work, not_listed, not_listed_work, done, done_work, guard_unit, guard_few, fits_own}
use Rattle.call_model.specs.Fold.{fold_of}
use Rattle.call_guard.proofs.Opening.{call_refused, open_stands, open_folded, open_buffer}
use Rattle.fold.proofs.fold.Goals as goal

pub returns-in_err-state-clause-folded : goal.returns-in_err-state-clause-folded
unfolding fold_of
returns-in_err-state-clause-folded c =
    let p = err_from_is_err_and c.from_residual.result c.from_residual.ensures.1 in
    rw (p.1, p.2) (search (call_refused, not_zero, c.in_err-state.ensures))

pub returns-in_err-state-clause-worked : goal.returns-in_err-state-clause-worked
returns-in_err-state-clause-worked c = search (refused_work, not_zero, c.in_err-state.ensures)

pub list_fits-requires : goal.list_fits-requires
list_fits-requires c = search (guard_unit, c.in_ok-state.ensures)

pub returns-then-not-list_fits-clause-folded : goal.returns-then-not-list_fits-clause-folded
returns-then-not-list_fits-clause-folded c = search (not_listed, c.in_ok-state.ensures)

pub returns-then-not-list_fits-clause-worked : goal.returns-then-not-list_fits-clause-worked
returns-then-not-list_fits-clause-worked c = search (not_listed_work, c.in_ok-state.ensures)

pub fold_state-n-requires : goal.fold_state-n-requires
fold_state-n-requires c =
    let e = c.in_ok-state.ensures in
    (search (open_stands, e), search (open_folded, e), search (guard_unit, e), search (fits_own), search (open_buffer, e))

pub overflow_cast-result : goal.overflow_cast-result
overflow_cast-result c = record { fits = search (guard_few, c.in_ok-state.ensures) }

pub returns-clause-folded : goal.returns-clause-folded
returns-clause-folded c = search (done, c.in_ok-state.ensures)

pub returns-clause-worked : goal.returns-clause-worked
returns-clause-worked c = search (done_work, c.in_ok-state.ensures)
