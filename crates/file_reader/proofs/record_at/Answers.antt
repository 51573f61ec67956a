-- Record i of a file, or zeros where the file has no such place.
use Rattle.file_reader.proofs.Laws.{too_high, too_short, copied}
use Rattle.file_reader.proofs.record_at.Goals as goal

pub returns-then-i-ge516 : goal.returns-then-i-ge516
returns-then-i-ge516 c = search (too_high)

pub returns-then-file-at : goal.returns-then-file-at
returns-then-file-at c = search (too_short)

pub returns : goal.returns
returns c = search (copied)
