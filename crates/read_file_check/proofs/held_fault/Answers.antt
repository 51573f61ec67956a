-- The first fault of what the blocks of a file of n blocks hold: of its records, then of its vector, which stands in its first
-- block, against their counts.
use Rattle.std.proofs.lemmas.Result.{err_from_is_err_and}
use Rattle.refusal.proofs.Refusals.{not_zero}
use Rattle.read_file_check.proofs.Checks.{record_refused, vector_differs, nothing_refused, held_indexed, tables-left}
use borrow.Author.Rules.{rules}
use Rattle.read_file_check.proofs.held_fault.Goals as goal

pub returns-in_err-held-clause-outright : goal.returns-in_err-held-clause-outright
returns-in_err-held-clause-outright c =
    let p = err_from_is_err_and c.from_residual.result c.from_residual.ensures.1 in
    rw (p.1, p.2) (search (record_refused, not_zero, c.in_err-held.ensures.judges))

pub returns-in_err-held-clause-leaves : goal.returns-in_err-held-clause-leaves
returns-in_err-held-clause-leaves c = search (tables-left, c.in_err-held.ensures.leaves)

pub returns-then-not-same_counts-clause-outright : goal.returns-then-not-same_counts-clause-outright
returns-then-not-same_counts-clause-outright c = search (vector_differs, c.in_ok-held.ensures.judges, rules)

pub returns-then-not-same_counts-clause-leaves : goal.returns-then-not-same_counts-clause-leaves
returns-then-not-same_counts-clause-leaves c = search (tables-left, c.in_ok-held.ensures.leaves)

pub returns-clause-outright : goal.returns-clause-outright
returns-clause-outright c = search (nothing_refused, c.in_ok-held.ensures.judges, rules)

pub returns-clause-leaves : goal.returns-clause-leaves
returns-clause-leaves c = search (tables-left, c.in_ok-held.ensures.leaves)

pub returns-clause-holds : goal.returns-clause-holds
returns-clause-holds c = search (held_indexed, c.in_ok-held.ensures.judges, rules)
