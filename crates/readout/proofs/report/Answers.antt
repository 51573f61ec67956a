-- What is printed fits the lent text.
use Rattle.listing.proofs.Output.{output_fits}
use Rattle.readout.proofs.report.Goals as goal

pub slice_bounds-write_all-end : goal.slice_bounds-write_all-end
slice_bounds-write_all-end g c = search (output_fits)
