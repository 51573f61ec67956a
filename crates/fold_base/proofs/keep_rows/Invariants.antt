-- The rows of present entries among the first n of a table are laid one behind another; their count is returned.
use lib.ListN.{length}
use Rattle.model.specs.Bytes.{put_at}
use Rattle.tree_finish.specs.Finishing.{kept_to, present_to}
use Prim.Native.Nat.{◌≤◌}
use mathlib.Core.Path.{◌≡◌}
use Rattle.fold_base.proofs.keep_rows.Given as goal

abbrev pub invariant-loop-i : goal.invariant-loop-i
invariant-loop-i l = (l.j ≤ l.i) × (length l.base ≡ length l.initial.base) × (l.j ≡ present_to l.table l.i) × (l.base ≡ put_at l.initial.base 24 (kept_to l.table l.i))
