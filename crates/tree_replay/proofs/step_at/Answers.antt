-- One record: it acts, or stands aside.
use native.Mathlib.Omega.{arith}
use mathlib.Core.List.{[]}
use Rattle.refusal.proofs.Refusals.{not_zero}
use Rattle.tree_replay.proofs.Stepping.{step-placed, step_acts, step_stands, mark_fits_lem}
use Rattle.tree_replay.proofs.Registers.{acts_on, stands_on}
use borrow.Author.Rules.{rules}
use Rattle.tree_replay.proofs.step_at.Goals as goal

pub effect-requires : goal.effect-requires
effect-requires c =
    let judged = c.in-Ok.ensures in
    (search, search, step-placed _ [] _ _ _ _ _ judged (search rules), search, search, search)

pub returns-in-Ok : goal.returns-in-Ok
returns-in-Ok c = (search (step_acts, c.in-Ok.ensures), omega arith, search (acts_on, c.in-Ok.ensures))

pub stand_aside-requires : goal.stand_aside-requires
stand_aside-requires c = (search, search, search, search, search (mark_fits_lem, not_zero, c.in-Err.ensures))

pub returns-in-Err : goal.returns-in-Err
returns-in-Err c = (search (step_stands, not_zero, c.in-Err.ensures, rw c.from.ensures at c.stand_aside.ensures.0), omega arith, search (stands_on, not_zero, c.in-Err.ensures))
