-- An SAB2 file without folded records becomes an SAB1 file of the same archive and unit in the lent bytes, with zeros behind
-- the last block; its list is lost.
use Rattle.std.proofs.lemmas.Result.{err_from_is_err_and}
use Rattle.sab2_check.proofs.Checks.{not_none}
use Rattle.convert.proofs.Lowered.{back_length, back_refused, none_faulty}
use borrow.Author.Rules.{rules}
use Rattle.convert.proofs.to_sab1.Goals as goal

pub returns-then-out-ne-FILE_BYTES : goal.returns-then-out-ne-FILE_BYTES
returns-then-out-ne-FILE_BYTES c = search (back_length)

pub returns-in_err-checked_sab2 : goal.returns-in_err-checked_sab2
returns-in_err-checked_sab2 c =
    let p = err_from_is_err_and c.from_residual.result c.from_residual.ensures.1 in
    rw (p.1, p.2) (search (back_refused, not_none, c.in_err-checked_sab2.ensures.outright))

pub back-requires : goal.back-requires
back-requires c = (search (none_faulty, c.in_ok-checked_sab2.ensures.outright, rules), search (c.in_ok-checked_sab2.ensures.loads), search rules, search rules)

pub returns-in_err-back : goal.returns-in_err-back
returns-in_err-back c =
    let p = err_from_is_err_and c.from_residual-in_err-back.result c.from_residual-in_err-back.ensures.1 in
    rw (p.1, p.2) (search (c.in_err-back.ensures))

pub returns : goal.returns
returns c = search (c.in_ok-back.ensures)
