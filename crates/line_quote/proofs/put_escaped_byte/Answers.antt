-- One byte of a label is written; quote and backslash get a backslash before them.
use Rattle.line_quote.proofs.Labels.{two_fit, one_fits, wrote_escaped, wrote_plain}
use Rattle.line_quote.proofs.put_escaped_byte.Goals as goal

pub put_word-requires : goal.put_word-requires
put_word-requires c = search (two_fit)

pub returns-then-needs_escape : goal.returns-then-needs_escape
returns-then-needs_escape c = search (wrote_escaped)

pub put_byte-requires : goal.put_byte-requires
put_byte-requires c = search (one_fits)

pub returns : goal.returns
returns c = search (wrote_plain)
