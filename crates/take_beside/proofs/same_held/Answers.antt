-- The record at a position has the bytes of rec.
use Rattle.take_beside.proofs.Checks.{held_in_log, held_in_block}
use Rattle.take_beside.proofs.same_held.Goals as goal

ruleset ways = (held_in_log, held_in_block)

pub returns-then-p-lt512 : goal.returns-then-p-lt512
returns-then-p-lt512 c = search ways

pub returns : goal.returns
returns c = search ways
