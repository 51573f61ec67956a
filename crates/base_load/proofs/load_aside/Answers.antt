-- The row of an aside, from the 12 bytes that a base has for it.
use Rattle.base_load.proofs.Rows.{who_low, mark_low}
use Rattle.base_load.specs.Loading.{loaded_aside}
use borrow.Author.Rules.{rules}
use Rattle.base_load.proofs.load_aside.Goals as goal

pub put_identity-requires : goal.put_identity-requires
put_identity-requires c = search (rules, who_low)

pub put_identity-requires-2 : goal.put_identity-requires-2
put_identity-requires-2 c = search (rules, mark_low)

pub returns : goal.returns
unfolding loaded_aside
returns c = cc
