-- The records of both files become the log; how many of the second are new.
use Rattle.merge_check.proofs.Clash.{fine_few, fine_laid, fine_formed}
use Rattle.merge_join.proofs.Joined.{copied_long, copied_ordered, copied_used, new_room, new_length, new_rising, log_joined, new_total}
use borrow.Author.Rules.{rules}
use Rattle.merge_join.proofs.load_union.Goals as goal

pub copy_records-requires : goal.copy_records-requires
copy_records-requires c = (search rules, search rules, search rules, search (fine_few))

pub gather_new-k-requires : goal.gather_new-k-requires
gather_new-k-requires c = (search (fine_few), search rules, search (fine_laid), search (fine_formed))

pub insert_records-requires : goal.insert_records-requires
insert_records-requires c = (search (copied_long), search (copied_ordered), search (copied_used), search (new_room), search (new_length), search (new_rising))

pub returns : goal.returns
returns c = (search (log_joined), search (new_total), search (new_room))
