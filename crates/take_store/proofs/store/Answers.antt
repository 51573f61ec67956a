-- The n records of a block that passed are stored: as a block is handed out, all at once, and in any other order one after
-- another.
use Rattle.take_store.proofs.News.{taken_units, all_room, lent_rising, all_stored}
use Rattle.take_store.proofs.Storing.{stored-ordered}
use borrow.Author.Rules.{rules}
use Rattle.take_store.proofs.store.Goals as goal

pub are_new-requires : goal.are_new-requires
are_new-requires c = (search rules, search rules, search (taken_units))

pub insert_records-requires : goal.insert_records-requires
insert_records-requires c = (search rules, search (stored-ordered), search rules, search (all_room), search rules, search (lent_rising))

pub returns-then-are_new : goal.returns-then-are_new
returns-then-are_new c = search (all_stored)
