-- Block k of so many records that stand in blocks, with other letters, archive, unit, place and vector.
use Rattle.convert.proofs.Anew.{none_recast, some_recast, recast_fits}
use Rattle.convert.proofs.recast_block.Goals as goal

pub returns-then-n-eq0 : goal.returns-then-n-eq0
returns-then-n-eq0 c = search (none_recast)

pub slice_bounds-block_as-end-2 : goal.slice_bounds-block_as-end-2
slice_bounds-block_as-end-2 c = search (recast_fits)

pub returns : goal.returns
returns c = search (some_recast)
