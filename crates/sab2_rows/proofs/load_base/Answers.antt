-- Whether the rows of a file keep their layout; then they leave its base.
use Rattle.sab2_rows.proofs.Loaded.{many_entries, many_asides, tails_decide, base_loaded, rows_room, none-loaded}
use borrow.Author.Rules.{rules}
use Rattle.sab2_rows.proofs.load_base.Goals as goal

pub returns-then-entries-gt-BASE_PLACES-clause-holds : goal.returns-then-entries-gt-BASE_PLACES-clause-holds
returns-then-entries-gt-BASE_PLACES-clause-holds c = search (many_entries)

pub returns-then-entries-gt-BASE_PLACES-clause-loads : goal.returns-then-entries-gt-BASE_PLACES-clause-loads
returns-then-entries-gt-BASE_PLACES-clause-loads c = λ t. none-loaded _ _ t

pub returns-then-asides-gt-BASE_PLACES-clause-holds : goal.returns-then-asides-gt-BASE_PLACES-clause-holds
returns-then-asides-gt-BASE_PLACES-clause-holds c = search (many_asides)

pub returns-then-asides-gt-BASE_PLACES-clause-loads : goal.returns-then-asides-gt-BASE_PLACES-clause-loads
returns-then-asides-gt-BASE_PLACES-clause-loads c = λ t. none-loaded _ _ t

pub load_rows-requires : goal.load_rows-requires
load_rows-requires c = (search rules, search rules, search rules, search rules, search (rows_room))

pub returns-clause-holds : goal.returns-clause-holds
returns-clause-holds c = search (tails_decide)

pub returns-clause-loads : goal.returns-clause-loads
returns-clause-loads c = λ t. search (base_loaded)
