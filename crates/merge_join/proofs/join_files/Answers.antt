-- The records of two files that go together become the log, and the log one file under the first's archive and unit.
use Rattle.merge_join.proofs.Joined.{both_long, both_sound, both_used, both_held, both_written}
use borrow.Author.Rules.{rules}
use Rattle.merge_join.proofs.join_files.Goals as goal

pub write_blocks-requires : goal.write_blocks-requires
write_blocks-requires c = (search (both_long), search (both_sound), search (both_used), search (both_held), search rules)

pub returns : goal.returns
returns c = search (both_written)
