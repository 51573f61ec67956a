-- A file of any archive is read into a lent log, whose old bytes are not judged.
use Rattle.std.proofs.lemmas.Result.{err_from_is_err_and}
use Rattle.refusal.proofs.Refusals.{not_zero}
use Rattle.read_file.proofs.Copied.{few_of_file, few_of_log, few_blocks, first_block, first_lent, file_loaded}
use Rattle.read_file_check.proofs.Checks.{log_length, file_refused, right-whole}
use borrow.Author.Rules.{rules}
use Rattle.read_file.proofs.read_log.Goals as goal

pub returns-then-log-ne-LOG_BYTES : goal.returns-then-log-ne-LOG_BYTES
returns-then-log-ne-LOG_BYTES c = search (log_length)

pub returns-in_err-checked_fault : goal.returns-in_err-checked_fault
returns-in_err-checked_fault c =
    let p = err_from_is_err_and c.from_residual.result c.from_residual.ensures.1 in
    rw (p.1, p.2) (search (file_refused, not_zero, c.in_err-checked_fault.ensures))

pub slice_bounds-load-end : goal.slice_bounds-load-end
slice_bounds-load-end c = search (first_block, c.in_ok-checked_fault.ensures, rules)

pub load-requires : goal.load-requires
load-requires c =
    let e = c.in_ok-checked_fault.ensures in
    (search rules, search (first_lent, e, rules), search (right-whole, e, rules), search (few_blocks, e, rules), search (few_of_file, e, rules), search (few_of_log, e, rules))

pub returns : goal.returns
returns c = search (file_loaded, c.in_ok-checked_fault.ensures, rules)
