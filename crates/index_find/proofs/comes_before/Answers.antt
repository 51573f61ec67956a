-- A label comes before another, byte by byte, A to Z as a to z; one that is a front of the other comes first.
use native.Mathlib.Omega.{arith}
use Rattle.std.proofs.lemmas.Slice.Zip.{Zip-more, either_empty_from_Zip}
use Rattle.index_find.proofs.Texts.{before-differs, before-next, before_end}
use Rattle.index_find.proofs.comes_before.Goals as goal

pub returns-then-p-q : goal.returns-then-p-q
returns-then-p-q c =
    let m = Zip-more c.loop-x.x-iterator c.next.new.self c.next.result _ c.in-Some.is c.next.ensures.steps in
    before-differs _ _ _ _ _ _ (rw (m.0, m.1) at c.loop-x.invariant.1) c.lower-p.ensures c.lower-q.ensures c.if-p-q.true

pub loop-x-preserved : goal.loop-x-preserved
loop-x-preserved c =
    let m = Zip-more c.loop-x.x-iterator c.next.new.self c.next.result _ c.in-Some.is c.next.ensures.steps in
    let v = rw (m.0, m.1) at c.loop-x.invariant.0 in
    (omega arith, before-next _ _ _ _ _ _ (rw (m.0, m.1) at c.loop-x.invariant.1) c.lower-p.ensures c.lower-q.ensures c.if-p-q.false)

pub returns : goal.returns
returns c =
    before_end _ _ _ _ c.loop-x.invariant.0 (either_empty_from_Zip c.loop-x.x-iterator c.next.new.self c.next.result c.in-None.is c.next.ensures.steps) c.loop-x.invariant.1
