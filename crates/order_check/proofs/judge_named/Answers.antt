-- The condition that fails first, of a list that meets the first one; 0 for none.
use Rattle.order_check.proofs.Ways.{judged_seen, judged_differ, judged_alike}
use Rattle.order_check.proofs.judge_named.Goals as goal

pub returns-then-not-seen_first : goal.returns-then-not-seen_first
returns-then-not-seen_first c = search (judged_seen)

pub returns-then-not-trees_alike : goal.returns-then-not-trees_alike
returns-then-not-trees_alike c = search (judged_differ)

pub returns : goal.returns
returns c = search (judged_alike)
