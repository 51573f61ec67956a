-- An SAB1 file becomes an SAB2 file of the same archive and unit in the lent bytes, with zeros behind the last block: an empty
-- base, all eight units listed.
use Rattle.std.proofs.lemmas.Result.{err_from_is_err_and}
use Rattle.refusal.proofs.Refusals.{not_zero}
use Rattle.convert.proofs.Raised.{up_length, up_refused, up_done, none_faulty}
use borrow.Author.Rules.{rules}
use Rattle.convert.proofs.to_sab2.Goals as goal

pub returns-then-out-ne-SAB2_BYTES : goal.returns-then-out-ne-SAB2_BYTES
returns-then-out-ne-SAB2_BYTES c = search (up_length)

pub returns-in_err-checked_fault : goal.returns-in_err-checked_fault
returns-in_err-checked_fault c =
    let p = err_from_is_err_and c.from_residual.result c.from_residual.ensures.1 in
    rw (p.1, p.2) (search (up_refused, not_zero, c.in_err-checked_fault.ensures))

pub raise-requires : goal.raise-requires
raise-requires c = (search (none_faulty, c.in_ok-checked_fault.ensures, rules), search rules)

pub returns : goal.returns
returns c = search (up_done, c.in_ok-checked_fault.ensures, rules)
