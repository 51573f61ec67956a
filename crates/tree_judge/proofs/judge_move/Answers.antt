-- A move of the entry in a row: 12 for no entry, 17 for an unseen place, 13 for an absent folder, 14 for a trace as folder, 25
-- for a folder at or below the entry, 15 for a label that another entry holds.
use Rattle.tree_lookup.proofs.Working.{works_long}
use Rattle.tree_judge.proofs.Reasons.{move_names, move_absent, move_unseen, move_stops, move_below, move_label}
use Rattle.refusal.proofs.Refusals.{not_zero}
use borrow.Author.Rules.{rules}
use native.Mathlib.Omega.{arith}
use Rattle.tree_judge.proofs.judge_move.Goals as goal

pub returns-in_default : goal.returns-in_default
returns-in_default c = search (move_absent, c.in_default.ensures.absent, rules)

pub made_at-made-requires : goal.made_at-made-requires
made_at-made-requires c = (search (works_long), omega (arith, c.in-Some.ensures.within))

pub placing_at-requires : goal.placing_at-requires
placing_at-requires c = (search (works_long), omega (arith, c.in-Some.ensures.within))

pub returns-then-is_unseen : goal.returns-then-is_unseen
returns-then-is_unseen c = rw c.in-Some.ensures.kept (search (move_unseen, c.in-Some.ensures.within))

pub folder_stands-requires : goal.folder_stands-requires
folder_stands-requires c = (search (move_names), search)

pub returns-in_err-folder_stands : goal.returns-in_err-folder_stands
returns-in_err-folder_stands c = rw c.in-Some.ensures.kept (search (move_stops, c.in-Some.ensures.within, not_zero, rules))

pub returns-then-is_below : goal.returns-then-is_below
returns-then-is_below c = rw c.in-Some.ensures.kept (search (move_below, c.in-Some.ensures.within, c.in_ok-folder_stands.ensures))

pub returns : goal.returns
returns c = rw c.in-Some.ensures.kept (search (move_label, c.in-Some.ensures.within, c.in_ok-folder_stands.ensures))
