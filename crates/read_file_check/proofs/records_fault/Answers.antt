-- The records of n blocks, of which the first has this place, are judged one after another; a 513th is one too many.
use Rattle.refusal.proofs.Refusals.{not_zero}
use Rattle.read_file_check.proofs.Records.{file_laid, small_at, asked_few, asked_laid, place_faulty, place_unlisted, record_unlisted, record_faulty, one_too_many, none_refused, all_left, fault_left}
use borrow.Author.Rules.{rules}
use Rattle.read_file_check.proofs.records_fault.Goals as goal

pub scan-scanned-requires : goal.scan-scanned-requires
scan-scanned-requires c = (search rules, search (file_laid), search rules, search rules)

pub asked_to-requires : goal.asked_to-requires
asked_to-requires c = search (small_at)

pub first_unlisted-requires : goal.first_unlisted-requires
first_unlisted-requires c = (search (asked_few), search (asked_laid))

pub overflow_cast-result : goal.overflow_cast-result
overflow_cast-result c = search (place_unlisted, c.in-Some.ensures.below)

pub returns-in-Some-clause-judges : goal.returns-in-Some-clause-judges
returns-in-Some-clause-judges c = search (record_unlisted, c.in-Some.ensures.below, c.in-Some.ensures.first)

pub returns-in-Some-clause-leaves : goal.returns-in-Some-clause-leaves
returns-in-Some-clause-leaves c = search (fault_left)

pub overflow_cast-result-in-Err : goal.overflow_cast-result-in-Err
overflow_cast-result-in-Err c = let asked = rw c.in-Err.is at c.asked_to.ensures in search (place_faulty, c.in-Err.ensures.gives, asked)

pub returns-in-Err-clause-judges : goal.returns-in-Err-clause-judges
returns-in-Err-clause-judges c =
    let asked = rw c.in-Err.is at c.asked_to.ensures in
    search (record_faulty, not_zero, c.in-Err.ensures.gives, asked, c.in_default.ensures.first, rules)

pub returns-in-Err-clause-leaves : goal.returns-in-Err-clause-leaves
returns-in-Err-clause-leaves c = search (fault_left)

pub returns-then-total-gt-LOG_PLACES-clause-judges : goal.returns-then-total-gt-LOG_PLACES-clause-judges
returns-then-total-gt-LOG_PLACES-clause-judges c =
    let asked = rw c.in-Ok.is at c.asked_to.ensures in
    search (one_too_many, c.in-Ok.ensures.gives, asked, c.in_default.ensures.first, rules)

pub returns-then-total-gt-LOG_PLACES-clause-leaves : goal.returns-then-total-gt-LOG_PLACES-clause-leaves
returns-then-total-gt-LOG_PLACES-clause-leaves c = search (fault_left)

pub returns-clause-judges : goal.returns-clause-judges
returns-clause-judges c =
    let asked = rw c.in-Ok.is at c.asked_to.ensures in
    search (none_refused, c.in-Ok.ensures.gives, asked, c.in_default.ensures.first, rules)

pub returns-clause-leaves : goal.returns-clause-leaves
returns-clause-leaves c = search (all_left, c.in-Ok.ensures.outright)
