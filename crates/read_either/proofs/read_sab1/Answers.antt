-- An SAB1 file, whose faults are among those of either form.
use Rattle.std.proofs.lemmas.Result.{err_from_is_err_and}
use Rattle.read_either.proofs.Forms.{as_sab1_lem}
use Rattle.read_either.proofs.read_sab1.Goals as goal

pub returns-in_err-read_file : goal.returns-in_err-read_file
returns-in_err-read_file c =
    let p = err_from_is_err_and c.from_residual.result c.from_residual.ensures.1 in
    rw (p.1, p.2) (search (as_sab1_lem, c.in_err-read_file.ensures))

pub returns : goal.returns
returns c = search (as_sab1_lem, c.in_ok-read_file.ensures)
