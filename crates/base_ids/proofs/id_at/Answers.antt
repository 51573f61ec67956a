-- Of n entries, and asides behind them, the i-th identity.
use Rattle.base_ids.proofs.Ids.{id_entry, id_aside}
use Rattle.base_ids.proofs.id_at.Goals as goal

pub returns-then-i-n : goal.returns-then-i-n
returns-then-i-n c = search (id_entry)

pub returns : goal.returns
returns c = search (id_aside)
