-- The n records of a block are all new, and rise in rank.
use Rattle.std.proofs.Common.{rules}
use Rattle.take_store.proofs.News.{unit-below, not_new, not_rising, new_next, new_ends}
use Rattle.take_store.proofs.are_new.Goals as goal

ruleset ways = (not_new, not_rising, new_next, new_ends, rules)

pub is_new-requires : goal.is_new-requires
is_new-requires c = (search rules, search unit-below)

pub returns-then-not-is_new : goal.returns-then-not-is_new
returns-then-not-is_new c = search ways

pub returns-then-k-floor : goal.returns-then-k-floor
returns-then-k-floor c = search ways

pub loop-j-preserved : goal.loop-j-preserved
loop-j-preserved c = (search rules, search ways)

pub returns : goal.returns
returns c = search ways
