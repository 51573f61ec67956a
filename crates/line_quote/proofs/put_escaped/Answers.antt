-- The bytes of a label are written, escaped.
use Rattle.std.proofs.Common.{[]}
use Rattle.model.specs.Listing.{escaped}
use Rattle.line_quote.proofs.Labels.{escaped-append}
use Rattle.line_text.proofs.Written.{wrote_none, next_fits, wrote_next}
use Rattle.line_quote.proofs.put_escaped.Goals as goal

pub loop-x-init : goal.loop-x-init
unfolding escaped
loop-x-init c = wrote_none _ _

pub put_escaped_byte-m-requires : goal.put_escaped_byte-m-requires
put_escaped_byte-m-requires c = next_fits escaped escaped-append _ _ [] _ _ _ 0 _ c.requires c.loop-x-test.true c.loop-x.invariant

pub loop-x-preserved : goal.loop-x-preserved
loop-x-preserved c = wrote_next escaped escaped-append _ _ _ _ _ _ _ _ c.requires c.loop-x-test.true c.loop-x.invariant c.put_escaped_byte-m.ensures
