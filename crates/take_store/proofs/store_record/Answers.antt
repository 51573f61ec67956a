-- A record that passed is stored: a new one by rank, one that is held or folded not again.
use Rattle.take_store.proofs.Storing.{stored-ordered, unit_formed, one_rising, store_held, store_room, unit-stored, count_above, store_new}
use borrow.Author.Rules.{rules}
use Rattle.take_store.proofs.store_record.Goals as goal

pub is_new-requires : goal.is_new-requires
is_new-requires c = (search rules, search (unit_formed))

pub returns-then-not-is_new : goal.returns-then-not-is_new
returns-then-not-is_new c = search (store_held)

pub insert_records-requires : goal.insert_records-requires
insert_records-requires c = (search rules, search (stored-ordered), search rules, search (store_room), search rules, search (one_rising))

pub counted-more-requires : goal.counted-more-requires
counted-more-requires c = (search (unit-stored), search (count_above))

pub returns : goal.returns
returns c = search (store_new)
