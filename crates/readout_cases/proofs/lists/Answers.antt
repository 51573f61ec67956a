-- The listing of a file is what was expected.
use Rattle.listing.proofs.Claims.{answered_length_fits}
use Rattle.readout_cases.proofs.lists.Goals as goal

pub slice_bounds-eq-end : goal.slice_bounds-eq-end
slice_bounds-eq-end c = search (answered_length_fits)
