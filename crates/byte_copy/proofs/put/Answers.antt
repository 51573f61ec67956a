use Rattle.std.proofs.Common.{refl, arith, rules}
use Rattle.byte_copy.proofs.Sixteens.{put-none, put_room, put_next, put_end}
use Rattle.byte_copy.proofs.put.Goals as goal

pub loop-j-init : goal.loop-j-init
loop-j-init c = (omega arith, refl, search (put-none))

pub loop-j-preserved : goal.loop-j-preserved
loop-j-preserved c = (omega arith, search rules, search (put_next))

pub returns : goal.returns
returns c = search (put_end)

pub put_run-requires : goal.put_run-requires
put_run-requires c = search (put_room)
