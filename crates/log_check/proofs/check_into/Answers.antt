-- A log is checked, and its records are noted in the tables up to the first that has a fault.
use borrow.Author.Rules.{rules}
use Rattle.refusal.proofs.Refusals.{not_zero}
use Rattle.log_check.proofs.Sound.{log_laid, records_indexed, fault-left, tail-left, records-left}
use Rattle.log_check.proofs.check_into.Goals as goal

pub scan-requires : goal.scan-requires
scan-requires c = (search rules, search (log_laid), search rules, search rules)

pub returns-in_default-clause-outright : goal.returns-in_default-clause-outright
returns-in_default-clause-outright c = search (fault-left, not_zero, c.in_default.ensures.outright, c.in_default.ensures.gives)

pub returns-then-is_blank-clause-outright : goal.returns-then-is_blank-clause-outright
returns-then-is_blank-clause-outright c = search (records-left, c.in-Ok.ensures.outright, c.in-Ok.ensures.gives)

pub returns-then-is_blank-clause-holds : goal.returns-then-is_blank-clause-holds
returns-then-is_blank-clause-holds c = search (records_indexed, c.in-Ok.ensures.gives)

pub returns-else-is_blank-clause-outright : goal.returns-else-is_blank-clause-outright
returns-else-is_blank-clause-outright c = search (tail-left, c.in-Ok.ensures.outright, c.in-Ok.ensures.gives)
