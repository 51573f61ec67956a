-- 10 of a well-formed record whose identity is held with other bytes, or 0.
use Rattle.std.proofs.Common.{◌∙◌}
use Rattle.take_beside.proofs.Checks.{held-before, held-differs, held_same, held-unit}
use Rattle.take_judge.proofs.held_fault.Goals as goal

ruleset ways = (held-before, held-differs, held_same)

pub bounds-base-u : goal.bounds-base-u
bounds-base-u c = let u = c.from-u.ensures ∙ c.unit_of.ensures in search held-unit

pub returns-then-c-f : goal.returns-then-c-f
returns-then-c-f c = let u = c.from-u.ensures ∙ c.unit_of.ensures in search ways

pub returns-then-not-same_held : goal.returns-then-not-same_held
returns-then-not-same_held c = let u = c.from-u.ensures ∙ c.unit_of.ensures in search ways

pub returns : goal.returns
returns c = let u = c.from-u.ensures ∙ c.unit_of.ensures in search ways
