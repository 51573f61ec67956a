-- 10 of a well-formed record whose identity is held with other bytes, or 0.
use Rattle.take_beside.proofs.Checks.{held-before, held-differs, held_same, held-unit, held_most, held_inside}
use Rattle.std.proofs.Common.{◌∙◌, rules}
use Rattle.take_row_judge.proofs.held_fault.Goals as goal

ruleset ways = (held-before, held-differs, held_same)

pub bounds-folded-u : goal.bounds-folded-u
bounds-folded-u c = let u = c.from-u.ensures ∙ c.unit_of.ensures in search held-unit

pub returns-then-c-f : goal.returns-then-c-f
returns-then-c-f c = let u = c.from-u.ensures ∙ c.unit_of.ensures in search ways

pub position-q-requires : goal.position-q-requires
position-q-requires c = let u = c.from-u.ensures ∙ c.unit_of.ensures in (search held-unit, search rules, search held_most)

pub same_at-requires : goal.same_at-requires
same_at-requires c = let u = c.from-u.ensures ∙ c.unit_of.ensures in (search held_inside, search rules)

pub returns-then-not-same_at : goal.returns-then-not-same_at
returns-then-not-same_at c = let u = c.from-u.ensures ∙ c.unit_of.ensures in search ways

pub returns : goal.returns
returns c = let u = c.from-u.ensures ∙ c.unit_of.ensures in search ways
