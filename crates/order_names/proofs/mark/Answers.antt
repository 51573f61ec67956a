-- The name k is marked, if it is ours and has no mark yet.
use Prim.Native.Nat.{◌%◌}
use native.Mathlib.Omega.{arith}
use lib.ListN.{set}
use Rattle.order_laws.specs.Marking.{mark_slot}
use Rattle.order_names.proofs.Names.{none_zero, none_over, none_marked, is_new_lem, left_out, put_in}
use Rattle.order_names.proofs.mark.Goals as goal

pub returns-then-c-eq0 : goal.returns-then-c-eq0
returns-then-c-eq0 c = let a = c.args in left_out a.held.counts a.marks.now a.k (set a.marks.now (mark_slot a.k) 1) (none_zero _ _ _ (omega arith))

pub returns-then-held-u : goal.returns-then-held-u
returns-then-held-u c = let a = c.args in left_out a.held.counts a.marks.now a.k (set a.marks.now (mark_slot a.k) 1) (none_over _ _ _ (omega arith))

pub slot-i-requires : goal.slot-i-requires
slot-i-requires c = (omega arith, omega arith, omega (arith, c.requires.2.few (c.args.k % 8) (omega arith)))

pub returns-then-marks-i-ne0 : goal.returns-then-marks-i-ne0
returns-then-marks-i-ne0 c = let a = c.args in left_out a.held.counts a.marks.now a.k (set a.marks.now (mark_slot a.k) 1) (none_marked _ _ _ c.slot-i.result c.slot-i.ensures.0 (λ z. omega (arith, z)))

pub returns : goal.returns
returns c = let a = c.args in let s = c.slot-i in put_in a.held.counts a.marks.now a.k s.result s.ensures.0 (is_new_lem _ _ _ _ s.ensures.0 (λ z. omega arith) (omega arith) (omega arith))
