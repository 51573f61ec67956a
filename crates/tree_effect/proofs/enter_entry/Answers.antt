-- The register of a make: the role of the new entry, its folder's count and its label.
use Rattle.model.specs.Record.{label_of}
use Rattle.model.specs.Bytes.{part}
use Rattle.tree_effect.proofs.Effects.{made_nodes, enter_chains, enter_wide, enter_nodes, enter_count}
use Rattle.tree_effect.proofs.Registers.{make_register}
use native.Mathlib.Omega.{arith}
use borrow.Author.Rules.{rules}
use Rattle.tree_effect.proofs.enter_entry.Goals as goal

pub enter_at-requires : goal.enter_at-requires
unfolding label_of part
enter_at-requires c = (search (enter_chains), search (enter_wide), omega arith, search (enter_count), search (enter_nodes), cc, search rules, omega arith)

pub returns : goal.returns
unfolding label_of part
returns c = (search (made_nodes), search (make_register))
