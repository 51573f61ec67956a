-- The table of the entries' folders.
use Rattle.base_ids.specs.Ups.{Ups}
use Rattle.base_ids.proofs.fill_ups.Given as goal

abbrev pub invariant-loop-i : goal.invariant-loop-i
invariant-loop-i l = Ups l.base l.n l.ups l.i
