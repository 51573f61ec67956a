-- Row i is one of n rows, of the folder, and has the label, in capitals or small letters.
use Rattle.index_find.proofs.Rows.{row_out, row_other, row_short, row_same}
use Rattle.index_find.proofs.row_is.Goals as goal

pub returns-then-n-i : goal.returns-then-n-i
returns-then-n-i c = search (row_out)

pub returns-then-identity_at-folder : goal.returns-then-identity_at-folder
returns-then-identity_at-folder c = search (row_other)

pub returns-then-label-ne32 : goal.returns-then-label-ne32
returns-then-label-ne32 c = search (row_short)

pub returns : goal.returns
returns c = search (row_same)
