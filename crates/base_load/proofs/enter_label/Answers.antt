-- The label of entry i.
use Rattle.base_load.proofs.Entering.{label_entered, label_room, label_chains, label_row, label_place, label_wide, label_count}
use borrow.Author.Rules.{rules}
use Rattle.base_load.proofs.enter_label.Goals as goal

pub enter-requires : goal.enter-requires
enter-requires c = (search (label_chains), search (label_wide), search (label_place), search (label_count), search (label_room), search rules, search (label_row))

pub returns : goal.returns
returns c = search (label_entered)
