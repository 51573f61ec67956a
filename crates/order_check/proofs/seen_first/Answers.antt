-- The second condition, of a list that meets the first.
use Rattle.order_check.proofs.Ways.{given_long, given_few, given_named, given_units, given_seen}
use Rattle.order_check.proofs.seen_first.Goals as goal

pub seen_first-requires : goal.seen_first-requires
seen_first-requires c = (search (given_long), search (given_few), search (given_named), search (given_units))

pub returns : goal.returns
returns c = search (given_seen)
