-- A plan is tried.
use Rattle.refusal.proofs.Refusals.{not_zero}
use Rattle.plan_lines.proofs.Lengths.{refused_fits, round_fits, refused_end, round_end}
use Rattle.plan_try.proofs.Trying.{text_wrong, base_wrong, work_wrong, logs_wrong, accepted, refuses, comes_to_lem}
use borrow.Author.Rules.{rules}
use Rattle.plan_try.proofs.try_plan.Goals as goal

pub returns-then-text-ne-PLAN_TEXT_BYTES : goal.returns-then-text-ne-PLAN_TEXT_BYTES
returns-then-text-ne-PLAN_TEXT_BYTES c = search (text_wrong)

pub returns-then-base-ne-BASE_BYTES : goal.returns-then-base-ne-BASE_BYTES
returns-then-base-ne-BASE_BYTES c = search (base_wrong)

pub returns-then-work-ne-TREE_BYTES : goal.returns-then-work-ne-TREE_BYTES
returns-then-work-ne-TREE_BYTES c = search (work_wrong)

pub returns-then-logs-ne-ROUND_BYTES : goal.returns-then-logs-ne-ROUND_BYTES
returns-then-logs-ne-ROUND_BYTES c = search (logs_wrong)

pub refused_line-n-requires : goal.refused_line-n-requires
refused_line-n-requires c = search (refused_fits)

pub overflow_cast-result : goal.overflow_cast-result
overflow_cast-result c = search (refused_end)

pub returns-in-Err : goal.returns-in-Err
returns-in-Err c = search (refuses, not_zero, c.in-Err.ensures)

pub run-skipped-requires : goal.run-skipped-requires
run-skipped-requires c = (search (accepted, c.in_default.ensures), search rules, search rules, search rules)

pub round_text-n-requires : goal.round_text-n-requires
round_text-n-requires c = (search rules, search (round_fits))

pub overflow_cast-result-2 : goal.overflow_cast-result-2
overflow_cast-result-2 c = search (round_end)

pub returns : goal.returns
returns c = search (comes_to_lem, c.in_default.ensures)
