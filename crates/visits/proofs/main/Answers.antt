-- The logs are zeros, the base is empty, and the work memory has its length.
use Rattle.std.proofs.Common.{refl, rules}
use Rattle.visits.proofs.main.Goals as goal

pub read_plan-requires : goal.read_plan-requires
read_plan-requires c = (refl, search rules, search rules)
