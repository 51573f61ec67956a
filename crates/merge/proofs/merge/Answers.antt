-- Two files become one of all their records, in the lent file, by way of a lent log whose old bytes are not judged.
use Rattle.refusal.proofs.Refusals.{not_zero}
use Rattle.merge.proofs.Calls.{right_is, log_wrong, lent_wrong, first_refused, second_refused_lem, both_joined}
use mathlib.Core.Path.{refl}
use borrow.Author.Rules.{rules}
use Rattle.merge.proofs.merge.Goals as goal

pub returns-then-log-ne-LOG_BYTES : goal.returns-then-log-ne-LOG_BYTES
returns-then-log-ne-LOG_BYTES c = search (log_wrong)

pub returns-then-file-ne-FILE_BYTES : goal.returns-then-file-ne-FILE_BYTES
returns-then-file-ne-FILE_BYTES c = search (lent_wrong)

pub returns-in-Err : goal.returns-in-Err
returns-in-Err c = search (first_refused, not_zero, c.in-Err.ensures.outright)

pub returns-in-Err-checked_fault : goal.returns-in-Err-checked_fault
returns-in-Err-checked_fault c = search (second_refused_lem, not_zero, c.in_default.ensures.outright, c.in-Err-checked_fault.ensures, rules)

pub merge_checked-requires : goal.merge_checked-requires
merge_checked-requires c =
    (right_is _ 0 0 c.in_default.ensures.outright refl, right_is _ 0 0 c.in_default-checked_fault.ensures refl, c.in_default.ensures.holds, search rules, search rules)

pub returns : goal.returns
returns c = search (both_joined, c.in_default.ensures.outright, c.in_default-checked_fault.ensures, rules)
