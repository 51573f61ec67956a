-- The first of 8, 27, 9 and 11 that holds of a well-formed record whose identity is not held, or 0.
use Rattle.std.proofs.Common.{rules}
use Rattle.refusal.proofs.Refusals.{not_zero}
use Rattle.take_beside.proofs.Checks.{new_not_next, new_below, new_barred, new_full, new_none}
use Rattle.take_beside.proofs.new_fault.Goals as goal

ruleset ways = (new_not_next, new_below, new_barred, new_full, new_none, not_zero, rules)

pub returns-then-is_not_next : goal.returns-then-is_not_next
returns-then-is_not_next c = search ways

pub returns-then-not-covers : goal.returns-then-not-covers
returns-then-not-covers c = search ways

pub returns-in_err-joins : goal.returns-in_err-joins
returns-in_err-joins c = search ways

pub returns-then-used-ge-LOG_PLACES : goal.returns-then-used-ge-LOG_PLACES
returns-then-used-ge-LOG_PLACES c = search ways

pub returns : goal.returns
returns c = search ways
