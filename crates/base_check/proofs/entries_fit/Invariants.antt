-- The rows of n entries.
use mathlib.Core.Path.{◌≡◌}
use Rattle.model.specs.Log.{all_to}
use Rattle.base_model.specs.Base.{entry_row_fits}
use Rattle.base_check.proofs.entries_fit.Given as goal

abbrev pub invariant-loop-i : goal.invariant-loop-i
invariant-loop-i l = l.all ≡ all_to l.i (entry_row_fits l.base)
