-- The first of 8 and 9 that holds of a well-formed record beside those held, or 0.
use mathlib.Core.Path.{◌∙◌}
use borrow.Author.Rules.{rules}
use Rattle.log_admit.proofs.Faults.{placed_within, unit_small, join_number, join_above, join_quick, join_open, join_none}
use Rattle.log_admit.proofs.join_fault.Goals as goal

ruleset ways = (join_number, join_above, join_quick, join_open, join_none)

pub bounds-held-u : goal.bounds-held-u
bounds-held-u c = let u = c.from-u.ensures ∙ c.unit_of.ensures in search (unit_small)

pub returns-then-not-is_next : goal.returns-then-not-is_next
returns-then-not-is_next c = let u = c.from-u.ensures ∙ c.unit_of.ensures in search ways

pub returns-then-not-covers : goal.returns-then-not-covers
returns-then-not-covers c = let u = c.from-u.ensures ∙ c.unit_of.ensures in search ways

pub all_covered-requires : goal.all_covered-requires
all_covered-requires c = (search rules, search rules, search (placed_within))

pub returns-then-all_covered : goal.returns-then-all_covered
returns-then-all_covered c = let u = c.from-u.ensures ∙ c.unit_of.ensures in search ways

pub is_closed-requires : goal.is_closed-requires
is_closed-requires c = (search rules, search rules, search (placed_within))

pub returns-then-not-is_closed : goal.returns-then-not-is_closed
returns-then-not-is_closed c = let u = c.from-u.ensures ∙ c.unit_of.ensures in search ways
