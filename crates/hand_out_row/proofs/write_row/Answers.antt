-- The records are gathered in the row itself, block after block is written before them, then zeros; the count of blocks is
-- returned.
use Rattle.hand_out_row.proofs.Written.{few, begun, all_counted, still_lies, goes_on_lem, ends}
use Rattle.row_model.specs.Row.{row_to}
use mathlib.Core.Path.{refl}
use borrow.Author.Rules.{rules}
use Rattle.hand_out_row.proofs.write_row.Goals as goal

pub loop-k-init : goal.loop-k-init
unfolding row_to
loop-k-init c = (search (few), search rules, search rules, search rules, refl)

pub row_block-b-requires : goal.row_block-b-requires
row_block-b-requires c =
    let pre = c.requires in
    let inv = c.loop-k.invariant in
    (search rules, search rules, still_lies _ _ _ _ pre.1 _ _ _ inv.2 _ _ inv.3 inv.4 c.loop-k-test.true inv.0, search rules, search rules, search (begun))

pub loop-k-preserved : goal.loop-k-preserved
loop-k-preserved c =
    let pre = c.requires in
    let inv = c.loop-k.invariant in
    (search rules, search rules, inv.2, inv.3, goes_on_lem _ _ _ _ pre.1 _ _ _ inv.2 _ _ c.write_at.ensures c.row_block-b.ensures inv.4 c.loop-k-test.true inv.0)

pub returns-clause-counted : goal.returns-clause-counted
returns-clause-counted c = search all_counted

pub returns-clause-written : goal.returns-clause-written
returns-clause-written c =
    let pre = c.requires in
    let inv = c.loop-k.invariant in
    ends _ _ _ _ pre.1 _ _ _ inv.2 _ _ _ c.loop-k.auto.k-end c.loop-k-test.false inv.0 c.row_count-n.ensures c.gather_behind-m.ensures.counted.0 inv.4 c.clear_behind.ensures
