use Rattle.std.proofs.Common.{refl, arith, rules, length-set}
use Rattle.model.specs.Bytes.{part}
use Rattle.byte_copy.proofs.Sixteens.{read_next, read_end}
use Rattle.byte_copy.proofs.read_16.Goals as goal

pub loop-i-init : goal.loop-i-init
unfolding part
loop-i-init c = (omega arith, search rules, refl)

pub loop-i-preserved : goal.loop-i-preserved
loop-i-preserved c = (omega arith, simp length-set c.loop-i.invariant.1, search (read_next))

pub returns : goal.returns
returns c = search (read_end)
