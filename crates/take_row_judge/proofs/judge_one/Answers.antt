-- One block beside the records held: 2 to 6, then its records.
use mathlib.Core.Path.{refl}
use Rattle.std.proofs.Common.{◌∙◌, rules}
use Rattle.std.proofs.lemmas.Result.{err_from_is_err_and}
use Rattle.refusal.proofs.Refusals.{not_zero}
use Rattle.take_row_judge.proofs.Judged.{given_long, given_few, one_bad, one_answered}
use Rattle.take_row_judge.proofs.judge_one.Goals as goal

pub returns-in_err-given_fault : goal.returns-in_err-given_fault
returns-in_err-given_fault c =
    let p = err_from_is_err_and c.from_residual.result c.from_residual.ensures.1 in
    rw (p.1, p.2) (search (one_bad, not_zero, c.in_err-given_fault.ensures))

pub count_in-requires : goal.count_in-requires
count_in-requires c = given_long _ _ 0 c.in_ok-given_fault.ensures refl

pub judge_into-requires : goal.judge_into-requires
judge_into-requires c = let n = c.from-n.ensures ∙ c.count_in.ensures in (given_long _ _ 0 c.in_ok-given_fault.ensures refl, search rules, search (given_few, c.in_ok-given_fault.ensures), search rules, search rules)

pub returns : goal.returns
returns c = let n = c.from-n.ensures ∙ c.count_in.ensures in search (one_answered, c.in_ok-given_fault.ensures)
