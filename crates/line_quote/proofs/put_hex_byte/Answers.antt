-- One byte is written in hexadecimal.
use Rattle.line_quote.proofs.Hex.{hex_byte}
use Rattle.line_quote.proofs.put_hex_byte.Goals as goal

pub returns : goal.returns
returns c = search (hex_byte)
