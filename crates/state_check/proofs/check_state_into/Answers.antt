-- A state is checked, and the records of the log are noted in the tables, if the base is sound.
use Rattle.state_check.proofs.States.{base_refused, base_unnoted, log_refused, unit_refused, state_sound, state_noted, state_holds}
use Rattle.state_check.proofs.check_state_into.Goals as goal

pub returns-then-not-check_base-clause-outright : goal.returns-then-not-check_base-clause-outright
returns-then-not-check_base-clause-outright c = search (base_refused)

pub returns-then-not-check_base-clause-filled : goal.returns-then-not-check_base-clause-filled
returns-then-not-check_base-clause-filled c = search (base_unnoted)

pub returns-in_default-clause-outright : goal.returns-in_default-clause-outright
returns-in_default-clause-outright c = search (log_refused, c.in_default.ensures.outright)

pub returns-in_default-clause-filled : goal.returns-in_default-clause-filled
returns-in_default-clause-filled c = search (state_noted, c.in_default.ensures.outright)

pub returns-then-not-lists_all-clause-outright : goal.returns-then-not-lists_all-clause-outright
returns-then-not-lists_all-clause-outright c = search (unit_refused, c.in-Ok.ensures.outright)

pub returns-then-not-lists_all-clause-filled : goal.returns-then-not-lists_all-clause-filled
returns-then-not-lists_all-clause-filled c = search (state_noted, c.in-Ok.ensures.outright)

pub returns-clause-outright : goal.returns-clause-outright
returns-clause-outright c = search (state_sound, c.in-Ok.ensures.outright)

pub returns-clause-filled : goal.returns-clause-filled
returns-clause-filled c = search (state_noted, c.in-Ok.ensures.outright)

pub returns-clause-holds : goal.returns-clause-holds
returns-clause-holds c = search (state_holds, c.in-Ok.ensures.outright, c.in-Ok.ensures.holds)
