-- The first n rows of a file leave a base, whatever stood there; whether zeros stand behind the bytes of each.
use Rattle.sab2_model.specs.Rows.{base_to, tail_blank}
use Rattle.model.specs.File.{file_records_from}
use Rattle.model.specs.Log.{all_to}
use lib.ListN.{length}
use mathlib.Core.Path.{◌≡◌}
use Rattle.sab2_rows.proofs.load_rows.Given as goal

abbrev pub invariant-loop-i : goal.invariant-loop-i
invariant-loop-i l = (length l.base ≡ 43032) × (l.base ≡ base_to (file_records_from l.file 0 l.n) l.entries l.asides l.i) × (l.all ≡ all_to l.i (tail_blank (file_records_from l.file 0 l.n) l.entries l.asides))
