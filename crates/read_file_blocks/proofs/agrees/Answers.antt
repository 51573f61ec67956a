-- Block k of n has its place, and the unit, archive and vector of the first block, and its count is as it should be.
use Rattle.read_file_blocks.proofs.Agreement.{other_place, other_unit, other_archive_lem, other_vector, fullness_decides}
use Rattle.read_file_blocks.proofs.agrees.Goals as goal

pub returns-then-place_in-k : goal.returns-then-place_in-k
returns-then-place_in-k c = search (other_place)

pub returns-then-sender_in : goal.returns-then-sender_in
returns-then-sender_in c = search (other_unit)

pub returns-then-archive_in : goal.returns-then-archive_in
returns-then-archive_in c = search (other_archive_lem)

pub returns-then-not-same_counts : goal.returns-then-not-same_counts
returns-then-not-same_counts c = search (other_vector)

pub returns : goal.returns
returns c = search (fullness_decides)
