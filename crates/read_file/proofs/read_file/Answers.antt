-- A file of any archive is read into a lent log and base, whose old bytes are not judged: the log becomes its records, the base
-- empty with all eight units listed.
use Rattle.std.proofs.lemmas.Result.{err_from_is_err_and}
use Rattle.refusal.proofs.Refusals.{not_zero}
use Rattle.read_file_check.proofs.Checks.{base_length, base_kept, base_emptied}
use borrow.Author.Rules.{rules}
use Rattle.read_file.proofs.read_file.Goals as goal

pub returns-then-base-ne-BASE_BYTES : goal.returns-then-base-ne-BASE_BYTES
returns-then-base-ne-BASE_BYTES c = search (base_length)

pub returns-in_err-read : goal.returns-in_err-read
returns-in_err-read c =
    let p = err_from_is_err_and c.from_residual.result c.from_residual.ensures.1 in
    rw (p.1, p.2) (search (base_kept, not_zero, c.in_err-read.ensures))

pub returns : goal.returns
returns c = search (base_emptied, c.in_ok-read.ensures, rules)
