-- The last k digits of a number are written, the last first.
use Prim.Native.Nat.{◌+◌, ◌<◌}
use mathlib.Core.Path.{◌≡◌, refl, sym, ◌∙◌}
use lib.ListN.{length, take, length-set}
use lib.Seq.{take-length, drop-length}
use Rattle.model.specs.Listing.{decimal}
use Rattle.byte_slice.proofs.PutAt.{put-nil}
use Rattle.line_text.proofs.Decimal.{last_digit, digits_before, digit_put}
use native.Mathlib.Omega.{arith}
use Rattle.line_text.proofs.put_digits.Goals as goal

pub loop-i-init : goal.loop-i-init
loop-i-init c =
    let a = c.args in
    let D = decimal a.n in
    let k : a.k ≡ length D = c.requires.0 in (
      omega arith,
      omega arith,
      refl,
      (λ p. rw (k, take-length)),
      sym (rw (k, drop-length) (put-nil a.out.now (a.at + length D))),
    )

pub loop-i-preserved : goal.loop-i-preserved
loop-i-preserved c =
    let a = c.args in
    let l = c.loop-i in
    let D = decimal a.n in
    let pos : 0 < l.i = omega arith in
    let e : decimal l.left ≡ take l.i D = l.invariant.3 pos in (
      omega arith,
      omega arith,
      simp length-set l.invariant.2,
      digits_before D l.left l.i l.invariant.0 pos l.invariant.1 e,
      digit_put a.out.now l.out D a.at l.i c.digit.result pos l.invariant.1 (omega arith) l.invariant.4 (c.digit.ensures ∙ sym (last_digit D l.left l.i l.invariant.0 pos l.invariant.1 e)),
    )

pub returns : goal.returns
returns c =
    let a = c.args in
    let l = c.loop-i in
    let z : l.i ≡ 0 = omega arith in
    let n : a.at + l.i ≡ a.at = omega arith in
    l.invariant.4 ∙ rw (n, z)
