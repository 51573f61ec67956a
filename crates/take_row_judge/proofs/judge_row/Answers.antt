-- The blocks of a row, one after another up to the first that is refused.
use mathlib.Core.Path.{refl}
use Rattle.std.proofs.Common.{rules}
use Rattle.refusal.proofs.Refusals.{not_zero}
use Rattle.row_laws.proofs.Turns.{block_is, block_inside, turns_start, turns_end, turn_stops, turn_goes}
use Rattle.take_row_judge.proofs.Judged.{row_starts, row_gives}
use Rattle.take_row_judge.proofs.judge_row.Goals as goal

pub loop-k-init : goal.loop-k-init
loop-k-init c = (search rules, search rules, search rules, search (row_starts, turns_start))

pub slice_bounds-judge_one-end : goal.slice_bounds-judge_one-end
slice_bounds-judge_one-end c = search (block_inside)

pub returns-in-Err : goal.returns-in-Err
returns-in-Err c =
    let judged = c.in-Err.ensures in
    let answers = judged.answers in
    let grown = judged.grown in
    let counts = judged.counts in
    let no = not_zero c.in-Err.refusal in
    search (row_gives, turn_stops, block_is, answers, grown, counts, no)

pub loop-k-preserved : goal.loop-k-preserved
loop-k-preserved c =
    let judged = c.in-Ok.ensures in
    let answers = judged.answers in
    (search rules, search rules, judged.kept refl, search (turn_goes, block_is, answers))

pub returns : goal.returns
returns c = search (row_gives, turns_end)
