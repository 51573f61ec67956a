-- The counts of a vector.
use Rattle.model.specs.Listing.{counts_text}
use Rattle.line_head.proofs.Counts.{counts-append}
use Rattle.line_text.proofs.Written.{wrote_none, next_fits, wrote_next}
use Rattle.std.proofs.Common.{[], ◌<◌, length, arith}
use Rattle.line_head.proofs.put_counts.Goals as goal

pub loop-count-init : goal.loop-count-init
unfolding counts_text
loop-count-init c = wrote_none _ _

pub put_count-m-requires : goal.put_count-m-requires
put_count-m-requires c =
    let below : c.loop-count.count-index < length c.args.v.counts = omega arith in
    next_fits counts_text counts-append _ _ [] _ _ _ 0 _ c.requires below c.loop-count.invariant

pub loop-count-preserved : goal.loop-count-preserved
loop-count-preserved c =
    let below : c.loop-count.count-index < length c.args.v.counts = omega arith in
    wrote_next counts_text counts-append _ _ _ _ _ _ _ _ c.requires below c.loop-count.invariant c.put_count-m.ensures
