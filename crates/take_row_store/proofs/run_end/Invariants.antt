-- Where the records from a place on cease to rise in rank.
use Prim.Native.Nat.{◌≤◌, ◌<◌, ◌-◌}
use mathlib.Core.Path.{◌≡◌}
use Rattle.model.specs.Log.{rank}
use Rattle.log_check.specs.declared.Layout.TheVariants.{Log}
use Rattle.log_check.specs.Places.{laid_at}
use Rattle.take_row_store.specs.Grown.{Run}
use Rattle.take_row_store.proofs.run_end.Given as goal

abbrev pub invariant-loop-i : goal.invariant-loop-i
invariant-loop-i l = (l.from < l.i) × (l.i ≤ l.to) × (l.last ≡ rank (laid_at Log l.work (l.i - 1))) × Run l.work l.from l.i
