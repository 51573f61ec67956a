-- The first refusal that holds of block k.
use Rattle.std.proofs.lemmas.Result.{err_from_is_err_and}
use Rattle.refusal.proofs.Refusals.{not_zero}
use Rattle.read_file_blocks.proofs.Agreement.{faulty_alone, disagrees, passes}
use Rattle.read_file_blocks.proofs.file_block_fault.Goals as goal

pub returns-in_err-block_fault_as : goal.returns-in_err-block_fault_as
returns-in_err-block_fault_as c =
    let p = err_from_is_err_and c.from_residual.result c.from_residual.ensures.1 in
    rw (p.1, p.2) (search (faulty_alone, not_zero, c.in_err-block_fault_as.ensures))

pub returns-then-not-agrees : goal.returns-then-not-agrees
returns-then-not-agrees c = search (disagrees, c.in_ok-block_fault_as.ensures)

pub returns : goal.returns
returns c = search (passes, c.in_ok-block_fault_as.ensures)
