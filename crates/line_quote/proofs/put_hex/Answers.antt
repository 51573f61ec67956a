-- Bytes are written in hexadecimal.
use Rattle.std.proofs.Common.{[]}
use Rattle.model.specs.Listing.{hex_text}
use Rattle.line_quote.proofs.Hex.{hex_append}
use Rattle.line_text.proofs.Written.{wrote_none, next_fits, wrote_next}
use Rattle.line_quote.proofs.put_hex.Goals as goal

pub loop-x-init : goal.loop-x-init
unfolding hex_text
loop-x-init c = wrote_none _ _

pub put_hex_byte-m-requires : goal.put_hex_byte-m-requires
unfolding hex_text
put_hex_byte-m-requires c = next_fits hex_text hex_append _ _ [] _ _ _ 0 _ c.requires c.loop-x-test.true c.loop-x.invariant

pub loop-x-preserved : goal.loop-x-preserved
loop-x-preserved c = wrote_next hex_text hex_append _ _ _ _ _ _ _ _ c.requires c.loop-x-test.true c.loop-x.invariant c.put_hex_byte-m.ensures
