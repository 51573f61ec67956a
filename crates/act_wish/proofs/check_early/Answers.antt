-- What comes before the replay, in this order: 26 for a unit that the list does not name, 7, 24, 28, 11; or 0.
use Rattle.std.proofs.Common.{rules}
use Rattle.refusal.proofs.Refusals.{not_zero}
use Rattle.act_wish.proofs.Stamping.{not_listed, wish_refused, room_tells}
use Rattle.act_wish.proofs.check_early.Goals as goal

ruleset ways = (not_listed, wish_refused, room_tells, not_zero, rules)

pub returns-then-not-is_listed : goal.returns-then-not-is_listed
returns-then-not-is_listed c = search ways

pub returns-in_err-check_wish : goal.returns-in_err-check_wish
returns-in_err-check_wish c = search ways

pub returns : goal.returns
returns c = search ways
