-- The tree of a base of so many entries and asides, into a table and a register of zeros.
use Rattle.base_load.proofs.Entering.{loading_starts, labels_start, no_label_yet}
use Rattle.base_load.proofs.load.Goals as goal

pub add_entries-requires : goal.add_entries-requires
add_entries-requires c = (search, search (loading_starts))

pub enter_labels-requires : goal.enter_labels-requires
enter_labels-requires c = (search, search (no_label_yet), labels_start _ _ _ _ _ c.add_asides.ensures search)
