-- The place behind the last of the first n records that ranks no higher than k.
use mathlib.Core.Path.{◌≡◌}
use Rattle.log_check.specs.declared.Layout.TheVariants.{Log}
use Rattle.log_check.specs.Places.{laid_at}
use Rattle.log_insert.specs.Where.{place_behind}
use Rattle.log_insert.proofs.place_behind.Given as goal

abbrev pub invariant-loop-i : goal.invariant-loop-i
invariant-loop-i l = (place_behind (laid_at Log l.log) l.k l.i ≡ place_behind (laid_at Log l.log) l.k l.n)
