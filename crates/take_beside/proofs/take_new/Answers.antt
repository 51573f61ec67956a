-- A well-formed record whose identity is not held is refused, or held at the position p.
use Rattle.std.proofs.Common.{◌∙◌, rules}
use Rattle.refusal.proofs.Refusals.{not_zero}
use Rattle.log_admit.proofs.Faults.{unit_small}
use Rattle.take_beside.proofs.Checks.{new_refuses, new_least, new_most, new_above, new_behind, new_notes}
use Rattle.take_beside.proofs.take_new.Goals as goal

pub returns-in_err-new_fault : goal.returns-in_err-new_fault
returns-in_err-new_fault c = search (new_refuses, not_zero, rules)

pub bounds-base-u : goal.bounds-base-u
bounds-base-u c = let u = c.from-u.ensures ∙ c.unit_of.ensures in search unit_small

pub counted-more-requires : goal.counted-more-requires
counted-more-requires c = let u = c.from-u.ensures ∙ c.unit_of.ensures in (search unit_small, search (new_above, c.in_ok-new_fault.ensures))

pub overflow_sub-n : goal.overflow_sub-n
overflow_sub-n c = let u = c.from-u.ensures ∙ c.unit_of.ensures in search (new_behind, c.in_ok-new_fault.ensures)

pub note-requires : goal.note-requires
note-requires c =
    let u = c.from-u.ensures ∙ c.unit_of.ensures in
    (search unit_small, search (new_least, c.in_ok-new_fault.ensures), search (new_most, c.in_ok-new_fault.ensures), search rules, search rules, search rules)

pub returns : goal.returns
returns c = let u = c.from-u.ensures ∙ c.unit_of.ensures in search (new_notes, c.in_ok-new_fault.ensures)
