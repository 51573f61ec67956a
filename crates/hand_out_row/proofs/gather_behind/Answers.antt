-- The records that the asked vector lacks are laid one behind another in the row, from byte 3,072 on; their count is returned.
use Rattle.hand_out_row.proofs.Written.{fresh, gathered}
use borrow.Author.Rules.{rules}
use Rattle.hand_out_row.proofs.gather_behind.Goals as goal

pub gather_all-requires : goal.gather_all-requires
gather_all-requires c = (search rules, search rules, search rules, search (fresh))

pub returns-clause-laid : goal.returns-clause-laid
returns-clause-laid c = search (gathered, rules)
