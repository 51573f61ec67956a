-- No label twice in a folder over n entries.
use Rattle.base_names.proofs.Names.{names-none}
use native.Mathlib.Omega.{arith}
use borrow.Author.Rules.{rules}
use Rattle.base_names.proofs.names_fit.Goals as goal

pub link_names-requires : goal.link_names-requires
link_names-requires c = (search rules, omega arith, search (names-none))
