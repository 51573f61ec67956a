-- Where the records from a place on cease to rise in rank.
use Prim.Native.Nat.{◌-◌}
use Rattle.take_row_store.proofs.Runs.{run_first, run_one, run_last, run-next}
use native.Mathlib.Omega.{arith}
use Rattle.take_row_store.proofs.run_end.Goals as goal

pub loop-i-init : goal.loop-i-init
loop-i-init c = (omega arith, omega arith, search (run_first), search (run_one))

pub loop-i-preserved : goal.loop-i-preserved
loop-i-preserved c = (omega arith, omega arith, search (run_last), search (run-next))
