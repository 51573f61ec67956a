-- The vector of a lent state is written into 16 lent bytes.
use Rattle.std.proofs.lemmas.Result.{err_from_is_err_and}
use Rattle.refusal.proofs.Refusals.{not_zero}
use Rattle.call_guard.proofs.Opening.{call_refused}
use Rattle.held_vector.specs.Held.{held_of}
use Rattle.held_vector.proofs.Counts.{vector_fits, few_used, counted}
use borrow.Author.Rules.{rules}
use Rattle.held_vector.proofs.held_vector.Goals as goal

pub returns-in_err-state : goal.returns-in_err-state
unfolding held_of
returns-in_err-state c =
    let p = err_from_is_err_and c.from_residual.result c.from_residual.ensures.1 in
    rw (p.1, p.2) (search (call_refused, not_zero, c.in_err-state.ensures))

pub put_vector-requires : goal.put_vector-requires
put_vector-requires c = search (vector_fits, c.in_ok-state.ensures, rules)

pub overflow_cast-result : goal.overflow_cast-result
overflow_cast-result c = record { fits = search (few_used, c.in_ok-state.ensures) }

pub returns : goal.returns
returns c = search (counted, c.in_ok-state.ensures)
