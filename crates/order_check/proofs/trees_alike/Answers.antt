-- The third condition, of a list that meets the first: our tree and that of the order are laid in the lent tables, which may
-- hold anything before, and compared.
use Rattle.order_check.proofs.Ways.{given_long, given_sound, given_used, given_few, given_named, given_playable, given_other, ours_table, theirs_table, given_alike}
use borrow.Author.Rules.{rules}
use Rattle.order_check.proofs.trees_alike.Goals as goal

pub lay_log-requires : goal.lay_log-requires
lay_log-requires c = (search (given_long), search (given_sound), search (given_used), search rules)

pub lay_order-requires : goal.lay_order-requires
lay_order-requires c = (search (given_long), search (given_few), search (given_named), search (given_playable), search rules)

pub tables_alike-requires : goal.tables_alike-requires
tables_alike-requires c = (search (ours_table), search (theirs_table))

pub returns-clause-told : goal.returns-clause-told
returns-clause-told c = search (given_alike)

pub returns-clause-other : goal.returns-clause-other
returns-clause-other c = search (given_other)
