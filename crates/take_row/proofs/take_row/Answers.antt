-- The blocks of a row are taken in turn, up to the first refusal.
use mathlib.Core.Path.{refl}
use Rattle.std.proofs.Common.{rules}
use Rattle.std.proofs.lemmas.Result.{err_from_is_err_and}
use Rattle.refusal.proofs.Refusals.{not_zero}
use Rattle.call_guard.proofs.Opening.{open_long, open_based, open_unit, open_state, open_list, open_folded, open_used}
use Rattle.take_row.proofs.Begun.{row_refused, row-passes, row-long}
use Rattle.take_row.proofs.take_row.Goals as goal

pub returns-in_err-state : goal.returns-in_err-state
returns-in_err-state c =
    let p = err_from_is_err_and c.from_residual.result c.from_residual.ensures.1 in
    rw (p.1, p.2) (search (row_refused, not_zero, c.in_err-state.ensures.outright))

pub take_blocks-judged-requires : goal.take_blocks-judged-requires
take_blocks-judged-requires c =
    let opened = c.in_ok-state.ensures.outright in (
      search (row-long, opened),
      search (open_unit, opened),
      search (open_long, opened),
      search (open_based, opened),
      open_state _ _ _ _ _ opened refl,
      search (open_list, opened),
      search (open_folded, opened),
      search (open_used, opened),
      search rules,
      c.in_ok-state.ensures.holds,
    )

pub returns : goal.returns
returns c =
    let opened = c.in_ok-state.ensures.outright in
    let fits = c.row_fits.ensures in
    search (row-passes, opened, fits)
