use Rattle.std.proofs.Common.{◌≡◌, ◌∙◌, refl, sym, arith}
use Rattle.model.specs.Vector.{count_bytes, vector_bytes}
use Rattle.byte_slice.proofs.PutAt.{put-nil}
use Rattle.vector.proofs.InBytes.{vector_more}
use Rattle.vector.proofs.put_vector.Goals as goal

pub loop-u-init : goal.loop-u-init
unfolding count_bytes
loop-u-init c = (omega arith, refl, sym (put-nil _ _))

pub loop-u-preserved : goal.loop-u-preserved
loop-u-preserved c =
    let l = c.loop-u in
    let a = c.args in
    (omega arith, omega arith, c.put16.ensures ∙ rw l.invariant.2 (vector_more a.dst.now a.at a.v.counts l.u (omega arith)))

pub returns : goal.returns
unfolding vector_bytes
returns c =
    let l = c.loop-u in
    let e : l.u ≡ 8 = omega arith in
    rw e at l.invariant.2
