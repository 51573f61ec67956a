-- The condition that fails first of the n records of a sound log that stands alone, whose counts and positions are given; 0 for
-- none.
use Rattle.order_check.proofs.Ways.{judged_names, names_given_lem}
use borrow.Author.Rules.{rules}
use Rattle.order_check.proofs.judge_order.Goals as goal

pub returns-then-not-names_all : goal.returns-then-not-names_all
returns-then-not-names_all c = search (judged_names)

pub judge_named-requires : goal.judge_named-requires
judge_named-requires c = (search (names_given_lem), search rules, search rules)
