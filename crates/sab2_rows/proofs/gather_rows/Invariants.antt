-- The n rows of a base from row i on, zeros behind them.
use Rattle.sab2_model.specs.Rows.{base_rows_from}
use Rattle.model.specs.Bytes.{padded, joined}
use lib.ListN.{length}
use mathlib.Core.Path.{◌≡◌}
use Rattle.sab2_rows.proofs.gather_rows.Given as goal

abbrev pub invariant-loop-j : goal.invariant-loop-j
invariant-loop-j l = (length l.bytes ≡ 480) × (l.bytes ≡ padded 480 (joined (base_rows_from l.base l.i l.j)))
