-- Zeros, or a named identity.
use Rattle.base_rows.proofs.Tests.{none_named, one_named}
use Rattle.base_rows.proofs.names_or_none.Goals as goal

pub returns-then-s-at : goal.returns-then-s-at
returns-then-s-at c = search (none_named)

pub returns : goal.returns
returns c = search (one_named)
