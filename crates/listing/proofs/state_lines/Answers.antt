-- The lines of a sound state, behind its archive number and unit; the lent table shows its tree.
use Rattle.listing.proofs.Outcomes.{few_entries, few_asides, lines_room, lines_small, state_listed}
use borrow.Author.Rules.{rules}
use Rattle.listing.proofs.state_lines.Goals as goal

pub file_lines-requires : goal.file_lines-requires
file_lines-requires c = (search rules, search (few_entries), search (few_asides), search (lines_room, rules))

pub overflow_cast-result : goal.overflow_cast-result
overflow_cast-result c = search (lines_small, rules)

pub returns : goal.returns
returns c = search (state_listed)
