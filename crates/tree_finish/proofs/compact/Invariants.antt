-- The rows of present entries move to the front.
use mathlib.Core.Path.{◌≡◌}
use lib.ListN.{length}
use Rattle.model.specs.Bytes.{put_at}
use Rattle.tree_finish.specs.Finishing.{kept_to, present_to}
use Rattle.tree_finish.proofs.compact.Given as goal

abbrev pub invariant-loop-i : goal.invariant-loop-i
invariant-loop-i l = (length l.table ≡ length l.initial.table) × (l.table ≡ put_at l.initial.table 4 (kept_to l.initial.table l.i)) × (l.j ≡ present_to l.initial.table l.i)
