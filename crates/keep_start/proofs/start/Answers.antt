-- The lent log and base are emptied, and the index with them, if one is lent.
use Rattle.std.proofs.lemmas.Result.{err_from_is_err_and}
use Rattle.refusal.proofs.Refusals.{not_zero}
use Rattle.keep_start.proofs.Started.{index_wrong, cleared, not_cleared}
use Rattle.keep_start.proofs.start.Goals as goal

pub returns-then-not-index_fits : goal.returns-then-not-index_fits
returns-then-not-index_fits c = search (index_wrong)

pub returns-in_err-start : goal.returns-in_err-start
returns-in_err-start c =
    let p = err_from_is_err_and c.from_residual.result c.from_residual.ensures.1 in
    rw (p.1, p.2) (search (not_cleared, not_zero, c.in_err-start.ensures))

pub returns : goal.returns
returns c = search (cleared, c.in_ok-start.ensures, c.fill.ensures.after (λ y e. e))
