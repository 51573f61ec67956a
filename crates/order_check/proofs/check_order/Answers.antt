-- Another maker's order is checked against a log.
use mathlib.Core.Path.{refl}
use Rattle.std.proofs.lemmas.Result.{err_from_is_err_and}
use Rattle.refusal.proofs.Refusals.{not_zero}
use Rattle.call_guard.proofs.Opening.{open_long, open_used}
use Rattle.order_check.proofs.Ways.{order_refused, order_lent_lem, order_folded, order_sound, order_held, order_places, order_passes}
use Rattle.order_check.proofs.check_order.Goals as goal

pub returns-in_err-state : goal.returns-in_err-state
returns-in_err-state c =
    let p = err_from_is_err_and c.from_residual.result c.from_residual.ensures.1 in
    rw (p.1, p.2) (order_refused _ _ _ _ c.in_err-state.ensures.outright _ (not_zero _))

pub returns-then-not-is_zero : goal.returns-then-not-is_zero
returns-then-not-is_zero c = order_folded _ _ _ _ c.in_ok-state.ensures.outright refl _ c.is_zero.ensures _ c.if-not-is_zero.true

pub judge_order-requires : goal.judge_order-requires
judge_order-requires c =
    let e = c.in_ok-state.ensures.outright in
    let q = c.is_zero.ensures in
    let h = c.if-not-is_zero.false in
    let lent = order_lent_lem c.args.log.now c.args.base.now c.args.ours.now c.args.theirs.now e refl in (
      open_long _ _ _ _ _ e refl,
      order_sound _ _ _ e refl _ q h,
      open_used _ _ _ _ _ e refl,
      order_held _ _ _ e refl _ q h,
      order_places _ _ _ e refl _ q h _ _ c.in_ok-state.ensures.holds,
      lent.0,
      lent.1,
    )

pub returns : goal.returns
returns c = order_passes _ _ _ _ c.in_ok-state.ensures.outright refl _ c.is_zero.ensures c.if-not-is_zero.false _ _ c.judge_order.ensures
