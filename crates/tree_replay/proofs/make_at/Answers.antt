-- A make: the chain of its label is worked out once, for its judgement and its effect.
use native.Mathlib.Omega.{arith}
use mathlib.Core.List.{[]}
use Rattle.refusal.proofs.Refusals.{not_zero}
use Rattle.tree_replay.proofs.Making.{make_placed, make_mark, make_acts, make_stands, make_acts_on, make_stands_on}
use borrow.Author.Rules.{rules}
use Rattle.tree_replay.proofs.make_at.Goals as goal

pub add_entry-requires : goal.add_entry-requires
add_entry-requires c =
    let judged = c.in-Ok.ensures in
    (search, search, make_placed _ [] _ 0 _ _ _ judged (search rules) (search rules), search, search, search, search, search, search)

pub returns-in-Ok : goal.returns-in-Ok
returns-in-Ok c = (search (make_acts, c.in-Ok.ensures), omega arith, search (make_acts_on, c.in-Ok.ensures))

pub stand_aside-requires : goal.stand_aside-requires
stand_aside-requires c = (search, search, search, search, search (make_mark, not_zero, c.in-Err.ensures))

pub returns-in-Err : goal.returns-in-Err
returns-in-Err c = (search (make_stands, not_zero, c.in-Err.ensures, rw c.from.ensures at c.stand_aside.ensures.0), omega arith, search (make_stands_on, not_zero, c.in-Err.ensures))
