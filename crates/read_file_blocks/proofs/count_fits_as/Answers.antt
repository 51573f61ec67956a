-- A block of the rows is as full as they ask, and not the last before they end; behind them stand blocks of records.
use Rattle.read_file_blocks.proofs.Agreement.{behind_rows_lem, not_filled, filled}
use Rattle.read_file_blocks.proofs.count_fits_as.Goals as goal

pub returns-then-p-k : goal.returns-then-p-k
returns-then-p-k c = search (behind_rows_lem)

pub returns-then-from-min : goal.returns-then-from-min
returns-then-from-min c = search (not_filled)

pub returns : goal.returns
returns c = search (filled)
