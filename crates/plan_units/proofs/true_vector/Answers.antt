-- The true vector of a unit.
use Rattle.plan_units.proofs.Logs.{good_part, true_part}
use borrow.Author.Rules.{rules}
use Rattle.plan_units.proofs.true_vector.Goals as goal

pub held_counts-requires : goal.held_counts-requires
held_counts-requires c = (search (good_part), search rules)

pub returns : goal.returns
returns c = search (true_part)
