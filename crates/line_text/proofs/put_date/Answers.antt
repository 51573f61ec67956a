-- The date in four bytes is written as 2025-03-03.
use Rattle.line_text.proofs.Lines.{ten_fit, wrote_date}
use Rattle.line_text.proofs.put_date.Goals as goal

pub put_word-requires : goal.put_word-requires
put_word-requires c = search (ten_fit)

pub returns : goal.returns
returns c = search (wrote_date)
