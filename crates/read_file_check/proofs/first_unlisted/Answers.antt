-- The first of n records of a unit that the list does not name.
use borrow.Author.Rules.{rules}
use Rattle.read_file_check.proofs.Records.{list_stops, list_goes_on, list_ends}
use Rattle.read_file_check.proofs.first_unlisted.Goals as goal

pub returns-then-not-names-clause-first : goal.returns-then-not-names-clause-first
returns-then-not-names-clause-first c = search (list_stops)

pub loop-i-preserved : goal.loop-i-preserved
loop-i-preserved c = search (list_goes_on)

pub returns-clause-first : goal.returns-clause-first
returns-clause-first c = search (list_ends, rules)
