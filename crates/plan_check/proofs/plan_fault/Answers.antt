-- The first fault of a plan.
use Rattle.std.proofs.Common.{◌<◌, ◌+◌, ◌/◌, length, refl, arith}
use Rattle.refusal.proofs.Refusals.{not_zero}
use Rattle.plan_check.proofs.Walk.{low_on, stops, goes_on_lem, ends}
use Rattle.plan_check.proofs.plan_fault.Goals as goal

pub returns-in-Err : goal.returns-in-Err
returns-in-Err c =
    let lt : c.loop-k.k < (length c.args.plan.now + 511) / 512 = omega arith in
    stops _ _ _ _ c.archive_of-archive.ensures c.loop-k.invariant.1 refl lt c.in-Err.ensures _ _ (not_zero _) c.placed.ensures

pub loop-k-preserved : goal.loop-k-preserved
loop-k-preserved c =
    let lt : c.loop-k.k < (length c.args.plan.now + 511) / 512 = omega arith in
    (low_on _ _ _ c.in_default.ensures refl, goes_on_lem _ _ _ _ c.archive_of-archive.ensures c.loop-k.invariant.1 refl lt c.in_default.ensures refl)

pub returns : goal.returns
returns c = ends _ _ _ _ c.archive_of-archive.ensures c.loop-k.invariant.1 refl (omega arith) (omega arith)
