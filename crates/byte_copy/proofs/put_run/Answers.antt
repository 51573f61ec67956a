use Rattle.std.proofs.Common.{◌≡◌, ◌∙◌, refl, length, arith, length-set}
use native.Mathlib.Numerals.{add-one}
use lib.Seq.{paste-zero, paste-suc}
use Rattle.byte_slice.proofs.PutAt.{paste_put}
use Rattle.byte_copy.proofs.put_run.Goals as goal

pub loop-j-init : goal.loop-j-init
loop-j-init c = (omega arith, refl, paste-zero c.args.dst.now c.args.at c.args.src.now)

pub loop-j-preserved : goal.loop-j-preserved
loop-j-preserved c =
    let l = c.loop-j in
    (omega arith, simp length-set l.invariant.1, rw (l.invariant.2, add-one) (paste-suc c.args.dst.now c.args.at c.args.src.now l.j 0 (omega arith) (omega arith)))

pub returns : goal.returns
returns c =
    let l = c.loop-j in
    let e : l.j ≡ length c.args.src.now = omega arith in
    (rw e at l.invariant.2) ∙ paste_put c.args.dst.now c.args.at c.args.src.now
