-- The digit that stands for a number below 16.
use Rattle.line_quote.proofs.Hex.{hex_low, hex_high}
use Rattle.line_quote.proofs.hex_digit.Goals as goal

pub returns-then-n-lt10 : goal.returns-then-n-lt10
returns-then-n-lt10 c = search (hex_low)

pub returns-else-n-lt10 : goal.returns-else-n-lt10
returns-else-n-lt10 c = search (hex_high)
