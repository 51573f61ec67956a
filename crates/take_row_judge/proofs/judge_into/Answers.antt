-- The n records of a block, one after another, up to the first that is refused.
use mathlib.Core.Path.{refl}
use Rattle.std.proofs.Common.{rules}
use Rattle.std.proofs.lemmas.Result.{err_from_is_err_and}
use Rattle.refusal.proofs.Refusals.{not_zero}
use Rattle.take_row_judge.proofs.Judged.{refused_alike}
use Rattle.take_row_judge.proofs.Laid.{kept_few}
use Rattle.take_row_judge.proofs.Running.{running_starts, running_placed, running_counted, running_ends, running_stops, running_next, running_room}
use Rattle.take_row_judge.proofs.judge_into.Goals as goal

pub loop-j-init : goal.loop-j-init
loop-j-init c = (search rules, search (kept_few), search (running_starts))

pub take_at-requires : goal.take_at-requires
take_at-requires c = (search rules, search rules, search rules, search (running_placed), search (running_counted))

pub returns-in_err-counts : goal.returns-in_err-counts
returns-in_err-counts c =
    let p = err_from_is_err_and c.from_residual.result c.from_residual.ensures.1 in
    let inv = c.loop-j.invariant in
    let pre = c.requires in
    let no = not_zero c.in_err-counts.field-0.0 in
    let stops = running_stops _ _ _ _ _ _ _ _ _ _ _ _ _ _ inv.2 c.loop-j-test.true pre.2 inv.0 pre.0 _ c.put.ensures _ _ _ _ _ c.in_err-counts.ensures no in
    rw (p.1, p.2) (refused_alike stops no _ _)

pub loop-j-preserved : goal.loop-j-preserved
loop-j-preserved c =
    let inv = c.loop-j.invariant in
    let pre = c.requires in
    let next = running_next _ _ _ _ _ _ _ _ _ _ _ _ _ _ inv.2 c.loop-j-test.true pre.2 inv.0 pre.0 _ c.put.ensures _ _ _ _ _ c.in_ok-counts.ensures refl in
    let room = running_room _ _ _ _ _ _ _ _ _ _ _ _ _ _ inv.2 c.loop-j-test.true pre.2 inv.0 pre.0 _ c.put.ensures _ _ _ _ _ c.in_ok-counts.ensures refl in
    (search rules, room, next)

pub returns : goal.returns
returns c = search (running_ends)
