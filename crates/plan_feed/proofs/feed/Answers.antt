-- One block, or a part of one at the end.
use Rattle.std.proofs.Common.{refl, rules}
use Rattle.refusal.proofs.Refusals.{not_zero}
use Rattle.plan_feed.proofs.Feeding.{units_are, few_skipped, block_long, block_passes, refused_before, stops, goes_on_lem}
use Rattle.plan_feed.proofs.feed.Goals as goal

pub returns-then-f-ne0 : goal.returns-then-f-ne0
returns-then-f-ne0 c = search (refused_before)

pub returns-in-Err : goal.returns-in-Err
returns-in-Err c =
    stops _ _ _ _ _ _ c.if-f-ne0.false c.archive_for-archive.ensures c.in-Err.ensures _ _ (not_zero _) (rw c.from.ensures c.placed-fault.ensures)

pub block-tally-requires : goal.block-tally-requires
block-tally-requires c =
    let passed = c.in_default.ensures in
    (search (units_are), search rules, block_long _ _ _ passed refl, block_passes _ _ _ passed refl, search rules, search (few_skipped))

pub returns : goal.returns
returns c =
    goes_on_lem _ _ _ _ _ _ c.if-f-ne0.false c.archive_for-archive.ensures c.in_default.ensures _ refl c.block-tally.ensures
