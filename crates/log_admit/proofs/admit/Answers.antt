-- A record behind others is refused with its fault, or noted at the position p.
use mathlib.Core.Path.{◌∙◌}
use borrow.Author.Rules.{rules}
use Rattle.refusal.proofs.Refusals.{not_zero}
use Rattle.log_admit.proofs.Faults.{admit_refuses, unit_admitted, number_above, number_behind, number_least, number_most, admit_notes}
use Rattle.log_admit.proofs.admit.Goals as goal

pub returns-in_err-record_fault : goal.returns-in_err-record_fault
returns-in_err-record_fault c = search (admit_refuses, not_zero, rules)

pub bounds-base-u : goal.bounds-base-u
bounds-base-u c =
    let u = c.from-u.ensures ∙ c.unit_of.ensures in
    search (unit_admitted, c.in_ok-record_fault.ensures)

pub counted-held-requires : goal.counted-held-requires
counted-held-requires c =
    let u = c.from-u.ensures ∙ c.unit_of.ensures in
    (search (unit_admitted, c.in_ok-record_fault.ensures), search (number_above, c.in_ok-record_fault.ensures))

pub overflow_sub-n : goal.overflow_sub-n
overflow_sub-n c =
    let u = c.from-u.ensures ∙ c.unit_of.ensures in
    search (number_behind, c.in_ok-record_fault.ensures)

pub note-requires : goal.note-requires
note-requires c =
    let u = c.from-u.ensures ∙ c.unit_of.ensures in
    (search (unit_admitted, c.in_ok-record_fault.ensures), search (number_least, c.in_ok-record_fault.ensures), search (number_most, c.in_ok-record_fault.ensures), search rules, search rules, search rules)

pub returns : goal.returns
returns c =
    let u = c.from-u.ensures ∙ c.unit_of.ensures in
    search (admit_notes, c.in_ok-record_fault.ensures)
