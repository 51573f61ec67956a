-- What taking a row would do: the copy as the log would be, its tree in the table, and the report.
use mathlib.Core.Path.{refl, ◌∙◌}
use Rattle.std.proofs.lemmas.Result.{err_from_is_err_and}
use Rattle.refusal.proofs.Refusals.{not_zero}
use Rattle.call_guard.proofs.Opening.{open_long, open_based, open_unit, open_state, open_used, open_list, open_folded, open_stands}
use Rattle.try_row.proofs.Tried.{try_refused, try_passes, try_short, try_copy, try_tree, try_report, tried-long, tried_sound}
use Rattle.try_row.proofs.try_row.Goals as goal

pub returns-in_err-state : goal.returns-in_err-state
returns-in_err-state c =
    let p = err_from_is_err_and c.from_residual.result c.from_residual.ensures.1 in
    rw (p.1, p.2) (search (try_refused, not_zero, c.in_err-state.ensures.outright))

pub take_copy-t-requires : goal.take_copy-t-requires
take_copy-t-requires c =
    let e = c.in_ok-state.ensures.outright in (
      try_short _ _ _ _ _ _ _ e refl,
      open_unit _ _ _ _ _ e refl,
      open_long _ _ _ _ _ e refl,
      open_based _ _ _ _ _ e refl,
      open_state _ _ _ _ _ e refl,
      open_list _ _ _ _ _ e refl,
      open_folded _ _ _ _ _ e refl,
      open_used _ _ _ _ _ e refl,
      try_copy _ _ _ _ _ _ _ e refl,
      try_tree _ _ _ _ _ _ _ e refl,
      c.in_ok-state.ensures.holds,
    )

pub returns : goal.returns
returns c = try_passes _ _ _ _ _ _ _ _ c.in_ok-state.ensures.outright refl _ c.take_copy-t.ensures.took _ c.report_trial.ensures

pub report_trial-requires : goal.report_trial-requires
report_trial-requires c =
    let e = c.in_ok-state.ensures.outright in
    let q = c.take_copy-t.ensures.took in
    let long = open_long _ _ _ _ _ e refl in
    let based = open_based _ _ _ _ _ e refl in
    let sound = open_state _ _ _ _ _ e refl in
    let unit = open_unit _ _ _ _ _ e refl in (
      open_stands _ _ _ _ _ _ e,
      tried-long _ _ _ _ _ _ _ _ unit long based sound q,
      tried_sound _ _ _ _ _ _ _ _ unit long based sound q,
      c.take_copy-t.ensures.counted.0,
      c.take_copy-t.ensures.counted.1,
      c.take_copy-t.auto.tree ∙ try_tree _ _ _ _ _ _ _ e refl,
      try_report _ _ _ _ _ _ _ e refl,
    )
