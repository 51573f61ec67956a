-- The n records of a block that passed are stored, one after another.
use mathlib.Core.Path.{refl}
use Rattle.std.proofs.Common.{rules}
use Rattle.take_store.proofs.Storing.{storing_starts, storing_stored, storing_takes, storing_next}
use Rattle.take_store.proofs.store_each.Goals as goal

pub loop-j-init : goal.loop-j-init
loop-j-init c = (refl, search storing_starts)

pub store_record-stored-requires : goal.store_record-stored-requires
store_record-stored-requires c = (search rules, search rules, search storing_stored, search storing_takes)

pub loop-j-preserved : goal.loop-j-preserved
loop-j-preserved c = (search rules, search storing_next)
