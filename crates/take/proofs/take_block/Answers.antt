-- A block is taken into a log that is sound behind the base vector, or refused: 2 to 6, then each record 7, 26, and 10 if held,
-- else 8, 27, 9, 11.
use Rattle.std.proofs.Common.{◌∙◌, rules}
use Rattle.std.proofs.lemmas.Result.{err_from_is_err_and}
use Rattle.refusal.proofs.Refusals.{not_zero}
use Rattle.take.proofs.Ways.{block_bad, bad_left, judged_left, taken_left, given_long, given_few, block_refused, log_stored, block_passed, block_taken}
use Rattle.take.proofs.take_block.Goals as goal

pub returns-in_err-given_fault-clause-took : goal.returns-in_err-given_fault-clause-took
returns-in_err-given_fault-clause-took c = search (block_bad, not_zero, rules)

pub returns-in_err-given_fault-clause-tables : goal.returns-in_err-given_fault-clause-tables
returns-in_err-given_fault-clause-tables c = search (bad_left, not_zero, rules)

pub count_in-requires : goal.count_in-requires
count_in-requires c = search (given_long, c.in_ok-given_fault.ensures)

pub judge_block-requires : goal.judge_block-requires
judge_block-requires c = let n = c.from-n.ensures ∙ c.count_in.ensures in (search (given_long, c.in_ok-given_fault.ensures), search rules, search (given_few, c.in_ok-given_fault.ensures), search rules, search rules, search rules, search rules, search rules)

pub returns-in_err-judge_block-clause-took : goal.returns-in_err-judge_block-clause-took
returns-in_err-judge_block-clause-took c =
    let p = err_from_is_err_and c.from_residual-in_err-judge_block.result c.from_residual-in_err-judge_block.ensures.1 in
    let n = c.from-n.ensures ∙ c.count_in.ensures in
    rw (p.1, p.2) (search (block_refused, not_zero, c.in_ok-given_fault.ensures, c.in_err-judge_block.ensures.gives))

pub returns-in_err-judge_block-clause-tables : goal.returns-in_err-judge_block-clause-tables
returns-in_err-judge_block-clause-tables c =
    let p = err_from_is_err_and c.from_residual-in_err-judge_block.result c.from_residual-in_err-judge_block.ensures.1 in
    let n = c.from-n.ensures ∙ c.count_in.ensures in
    rw (p.1, p.2) (search (judged_left, c.in_ok-given_fault.ensures, c.in_err-judge_block.ensures.outright))

pub returns-clause-took : goal.returns-clause-took
returns-clause-took c = let n = c.from-n.ensures ∙ c.count_in.ensures in search (block_taken, c.in_ok-given_fault.ensures, c.in_ok-judge_block.ensures.gives)

pub returns-clause-tables : goal.returns-clause-tables
returns-clause-tables c = let n = c.from-n.ensures ∙ c.count_in.ensures in search (taken_left, c.in_ok-given_fault.ensures, c.in_ok-judge_block.ensures.outright)

pub store-requires : goal.store-requires
store-requires c = let n = c.from-n.ensures ∙ c.count_in.ensures in (
  search rules,
  search (given_long, c.in_ok-given_fault.ensures),
  search (given_few, c.in_ok-given_fault.ensures),
  search log_stored,
  search (block_passed, c.in_ok-judge_block.ensures.gives),
)
