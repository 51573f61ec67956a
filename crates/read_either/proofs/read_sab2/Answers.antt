-- An SAB2 file: its list and base are gathered and judged in a buffer beside, and copied out once all checks have passed.
use Rattle.std.proofs.lemmas.Result.{err_from_is_err_and}
use Rattle.sab2_check.proofs.Checks.{not_none}
use Rattle.read_either.proofs.Forms.{wrong_log, wrong_base, file_refused, no_fault, file_read}
use borrow.Author.Rules.{rules}
use Rattle.read_either.proofs.read_sab2.Goals as goal

pub returns-then-log-ne-LOG_BYTES : goal.returns-then-log-ne-LOG_BYTES
returns-then-log-ne-LOG_BYTES c = search (wrong_log)

pub returns-then-base-ne-BASE_BYTES : goal.returns-then-base-ne-BASE_BYTES
returns-then-base-ne-BASE_BYTES c = search (wrong_base)

pub returns-in_err-checked_sab2 : goal.returns-in_err-checked_sab2
returns-in_err-checked_sab2 c =
    let p = err_from_is_err_and c.from_residual.result c.from_residual.ensures.1 in
    rw (p.1, p.2) (search (file_refused, not_none, c.in_err-checked_sab2.ensures.outright))

pub load_behind-requires : goal.load_behind-requires
load_behind-requires c = (search rules, search (no_fault, c.in_ok-checked_sab2.ensures.outright, rules))

pub returns : goal.returns
returns c = search (file_read, c.in_ok-checked_sab2.ensures.outright, c.in_ok-checked_sab2.ensures.loads, rules)
