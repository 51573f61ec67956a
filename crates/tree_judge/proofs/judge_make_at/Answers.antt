-- A make, the chain of its label given: 13, 14 or 15, or it fits.
use Rattle.tree_judge.proofs.Reasons.{make_names, make_stops, make_goes}
use Rattle.refusal.proofs.Refusals.{not_zero}
use borrow.Author.Rules.{rules}
use Rattle.tree_judge.proofs.judge_make_at.Goals as goal

pub folder_stands-requires : goal.folder_stands-requires
folder_stands-requires c = (search (make_names), search)

pub returns-in_err-folder_stands : goal.returns-in_err-folder_stands
returns-in_err-folder_stands c = search (make_stops, not_zero, rules)

pub returns : goal.returns
returns c = search (make_goes, c.in_ok-folder_stands.ensures)
