-- A label in the folder f: free but for the entry k, or 15 marks its holder; the chain of the label is given.
use native.Mathlib.Omega.{arith}
use Rattle.tree_lookup.proofs.Working.{works_long}
use Rattle.tree_judge.proofs.Reasons.{label_held_lem, label_free}
use Rattle.model.specs.Record.{label_of}
use Rattle.model.specs.Bytes.{part}
use borrow.Author.Rules.{rules}
use Rattle.tree_judge.proofs.free_label_at.Goals as goal

pub holder_at-requires : goal.holder_at-requires
unfolding label_of part
holder_at-requires c = (search rules, search rules, search rules, search rules)

pub made_at-requires : goal.made_at-requires
made_at-requires c = (search (works_long), omega (arith, c.in-Some.ensures.within))

pub returns-in-Some : goal.returns-in-Some
unfolding label_of part
returns-in-Some c = search (label_held_lem, c.in-Some.ensures.shows, c.in-Some.ensures.within)

pub returns-in-None : goal.returns-in-None
unfolding label_of part
returns-in-None c = search (label_free, c.in-None.ensures.shows, rules)
