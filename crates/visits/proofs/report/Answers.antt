-- What is printed fits the lent text.
use Rattle.visits.proofs.Reading.{printed_fits}
use Rattle.visits.proofs.report.Goals as goal

pub slice_bounds-write_all-end : goal.slice_bounds-write_all-end
slice_bounds-write_all-end g c = search (printed_fits)
