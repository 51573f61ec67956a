-- The examples of runs and blocks hold, by the definitions alone.
-- Assumes nothing.
use mathlib.Core.Path.{◌≡◌, refl}
use mathlib.Core.Bool.{true}
use Rattle.model.specs.Bytes.{word, long, blank, same_bytes, part, padded, joined}
use Rattle.model.specs.Vector as Vec
use Rattle.model.specs.Block as B
use Rattle.model.specs.File as F
use Rattle.model.specs.Examples as X
use Rattle.run_model.specs.Runs as R
use Rattle.run_model.specs.Blocks as K
use Rattle.run_model.specs.Examples as E
use Rattle.run_model.specs.Examples.{all_right, table}

-- every row of the table is right
pub examples : all_right table ≡ true
unfolding word long blank same_bytes part padded joined Vec.blocks_for Vec.counts_at Vec.vector_at Vec.count_bytes Vec.vector_bytes B.first_to B.second_to B.sealed B.sums_hold B.header_holds B.count_in B.archive_in B.sender_in B.place_in B.vector_in B.record_at B.records_from B.block_records F.header_of F.blocks_in F.block_at F.count_fits F.fault X.same_flag X.same_records X.same_fault R.head_as R.body_as R.block_as R.block_fault_as R.behind R.run_block R.run_to R.run_blocks K.count_fits_as K.agrees_as K.file_block_fault_as K.blocks_fault_as E.places_to E.is_block E.summed E.are_blocks E.right E.all_right E.table
examples = refl
