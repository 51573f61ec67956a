-- The rows of m asides.
use mathlib.Core.Path.{◌≡◌}
use Rattle.model.specs.Log.{all_to}
use Rattle.base_model.specs.Base.{aside_row_fits}
use Rattle.base_check.proofs.asides_fit.Given as goal

abbrev pub invariant-loop-i : goal.invariant-loop-i
invariant-loop-i l = l.all ≡ all_to l.i (aside_row_fits l.base)
