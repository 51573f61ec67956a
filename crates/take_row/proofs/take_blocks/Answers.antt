-- A row is taken into the log of a sound state whose records the tables have, up to the first block that is refused.
use Rattle.take_row.proofs.Begun.{row_sound, row_foot, row_kept_lem, judged_grown, row_done, row_used, row_counts}
use borrow.Author.Rules.{rules}
use Rattle.take_row.proofs.take_blocks.Goals as goal

pub judge_row-t-requires : goal.judge_row-t-requires
judge_row-t-requires c = (search rules, search rules, search (row_foot), search rules, search (row_sound), search rules, search (row_kept_lem))

pub put_in-requires : goal.put_in-requires
put_in-requires c = (search rules, search (row_sound), search rules, search (judged_grown))

pub returns-clause-took : goal.returns-clause-took
returns-clause-took c = let pre = c.requires in search (row_done)

pub returns-clause-counted : goal.returns-clause-counted
returns-clause-counted c = let pre = c.requires in (search (row_used), search (row_counts, pre.6))
