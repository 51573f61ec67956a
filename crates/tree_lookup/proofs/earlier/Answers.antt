-- Of two rows the first, if it stands before the other and its entry, which is not k, holds a label in the folder f; otherwise
-- the other.
use Rattle.tree_lookup.proofs.Labels.{earlier_not, earlier_holds, earlier_free}
use Rattle.tree_lookup.proofs.earlier.Goals.{else-row-best-via-then-row-best+else-holds_label, else-row-best-via-else-row-best}
use Rattle.tree_lookup.proofs.earlier.Goals as goal

pub returns-else-row-best : goal.returns-else-row-best
returns-else-row-best c =
    elim c.else-row-best.branch [
      | else-row-best-via-then-row-best+else-holds_label w ↦ earlier_free _ _ _ _ _ _ w.if-row-best.true _ w.holds_label.ensures w.if-holds_label.false
      | else-row-best-via-else-row-best w ↦ earlier_not _ _ _ _ _ _ w.if-row-best.false
    ]

pub returns-then-holds_label : goal.returns-then-holds_label
returns-then-holds_label c = search (earlier_holds)
