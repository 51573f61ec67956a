-- One record of a block: 7, 26, then 10 if its identity is held, else 8, 27, 9, 11.
use Rattle.std.proofs.Common.{◌∙◌, rules}
use Rattle.take_beside.proofs.Checks.{take-malformed, take-unlisted, unit_judged, take_unheld, take_known}
use Rattle.take_judge.proofs.take_record.Goals as goal

ruleset ways = (take-malformed, take-unlisted, take_unheld, take_known, rules)

pub returns-then-not-well_formed : goal.returns-then-not-well_formed
returns-then-not-well_formed c = search ways

pub is_listed-requires : goal.is_listed-requires
is_listed-requires c = let u = c.from-u.ensures ∙ c.unit_of.ensures in search unit_judged

pub returns-then-not-is_listed : goal.returns-then-not-is_listed
returns-then-not-is_listed c = let u = c.from-u.ensures ∙ c.unit_of.ensures in search ways

pub bounds-held-u : goal.bounds-held-u
bounds-held-u c = let u = c.from-u.ensures ∙ c.unit_of.ensures in search unit_judged

pub returns-then-held-u : goal.returns-then-held-u
returns-then-held-u c = let u = c.from-u.ensures ∙ c.unit_of.ensures in search ways

pub returns-in_err-held_fault : goal.returns-in_err-held_fault
returns-in_err-held_fault c = let u = c.from-u.ensures ∙ c.unit_of.ensures in search ways

pub returns : goal.returns
returns c = let u = c.from-u.ensures ∙ c.unit_of.ensures in search (ways, c.in_ok-held_fault.ensures)
