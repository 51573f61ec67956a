-- The vector of a file.
use Rattle.merge.proofs.Calls.{checked_512, header_counts}
use Rattle.merge.proofs.vector_of.Goals as goal

pub slice_bounds-vector_in-end : goal.slice_bounds-vector_in-end
slice_bounds-vector_in-end c = search (checked_512)

pub returns : goal.returns
returns c = search (header_counts)
