-- One reader walks a file from record to record.
use native.Mathlib.Omega.{arith}
use Rattle.file_reader.proofs.Laws.{walked_none, walked_more}
use Rattle.file_reader.proofs.walk.Goals as goal

pub loop-r-init : goal.loop-r-init
loop-r-init c = (omega arith, cc, rw c.begin-r.ensures.1 (walked_none _ _))

pub loop-r-preserved : goal.loop-r-preserved
loop-r-preserved c =
    (omega arith, cc, grind (arith, walked_more))
