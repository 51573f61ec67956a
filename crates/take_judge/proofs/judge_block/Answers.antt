-- The n records of a block, one after another: the number of the first that is refused, or 0.
use Rattle.std.proofs.Common.{rules}
use Rattle.std.proofs.lemmas.Result.{err_from_is_err_and}
use Rattle.refusal.proofs.Refusals.{not_zero}
use Rattle.take_judge.proofs.Going.{going_starts, going_few, going_placed, going_counted, going_stops, going_next, going_ends, left_starts, left_stops, left-next, left_ends}
use Rattle.take_judge.proofs.judge_block.Goals as goal

pub loop-j-init : goal.loop-j-init
loop-j-init c = (search left_starts, search going_starts)

pub take_record-requires : goal.take_record-requires
take_record-requires c = (search rules, search rules, search going_few, search rules, search rules, search rules, search rules, search going_placed, search going_counted)

pub returns-in_err-counts-clause-outright : goal.returns-in_err-counts-clause-outright
returns-in_err-counts-clause-outright c =
    let p = err_from_is_err_and c.from_residual.result c.from_residual.ensures.1 in
    rw (p.1, p.2) (search (left_stops, not_zero, c.in_err-counts.ensures))

pub returns-in_err-counts-clause-gives : goal.returns-in_err-counts-clause-gives
returns-in_err-counts-clause-gives c =
    let p = err_from_is_err_and c.from_residual.result c.from_residual.ensures.1 in
    rw (p.1, p.2) (search (going_stops, not_zero, c.in_err-counts.ensures))

pub loop-j-preserved : goal.loop-j-preserved
loop-j-preserved c = (search (left-next, c.in_ok-counts.ensures), search (going_next, c.in_ok-counts.ensures))

pub returns-clause-outright : goal.returns-clause-outright
returns-clause-outright c = search left_ends

pub returns-clause-gives : goal.returns-clause-gives
returns-clause-gives c = search going_ends
