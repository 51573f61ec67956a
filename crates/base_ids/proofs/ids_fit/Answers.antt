-- No identity twice over n entries and m asides, and each entry reaches the root through folders.
use Rattle.base_ids.proofs.Ids.{ids_none, ids_start}
use Rattle.base_ids.proofs.Rooted.{ids_are}
use native.Mathlib.Omega.{arith}
use borrow.Author.Rules.{rules}
use Rattle.base_ids.proofs.ids_fit.Goals as goal

pub link_ids-entries-requires : goal.link_ids-entries-requires
link_ids-entries-requires c = (search rules, omega arith, omega arith, omega arith, search (ids_none), search (ids_start))

pub returns : goal.returns
returns c = search (ids_are)
