-- The first four bytes are SAB2; else a file is SAB1.
use Rattle.read_either.proofs.Forms.{too_short, form_is}
use Rattle.read_either.proofs.is_sab2.Goals as goal

pub returns-then-file-lt4 : goal.returns-then-file-lt4
returns-then-file-lt4 c = search (too_short)

pub returns : goal.returns
returns c = search (form_is)
