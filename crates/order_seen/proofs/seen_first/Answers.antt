-- The counts of the records before each of the n named cover what it has seen.
use mathlib.Core.Path.{◌∙◌}
use Rattle.order_seen.proofs.Running.{unit_low, low_room, low_more, covers_stop, covers_go, covers_end}
use Rattle.order_seen.proofs.seen_first.Goals as goal

pub returns-then-not-covers : goal.returns-then-not-covers
returns-then-not-covers c = search (covers_stop)

pub bump-had-requires : goal.bump-had-requires
bump-had-requires c = let u = c.from-u.ensures ∙ c.unit_of.ensures in (search (unit_low), search (low_room))

pub loop-i-preserved : goal.loop-i-preserved
loop-i-preserved c = let u = c.from-u.ensures ∙ c.unit_of.ensures in (search (low_more), search (covers_go))

pub returns : goal.returns
returns c = search (covers_end)
