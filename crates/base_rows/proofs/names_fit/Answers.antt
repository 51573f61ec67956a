-- Identity, folder, last contents record, last place record.
use Rattle.base_rows.proofs.Tests.{names_are}
use Rattle.base_rows.proofs.names_fit.Goals as goal

pub returns : goal.returns
returns c = search (names_are)
