-- The reason under which a record would stand aside behind the tree that a table and a register hold, or 0.
use native.Mathlib.Omega.{arith}
use Rattle.act.proofs.Acting.{reason_told, bytes_ask}
use Rattle.act.proofs.reason_on.Goals as goal

pub judge-requires : goal.judge-requires
judge-requires c = (bytes_ask c.args.rec.now (search) (λ j. omega (arith, c.shared_slice_known-1.given j)), search)

pub returns-in-Ok : goal.returns-in-Ok
returns-in-Ok c = search (reason_told, c.in-Ok.ensures)

pub returns-in-Err : goal.returns-in-Err
returns-in-Err c = search (reason_told, c.in-Err.ensures)
