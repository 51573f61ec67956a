-- The identities of the disputed entries of a table are noted one behind another; their count is returned.
use mathlib.Core.Path.{refl}
use native.Mathlib.Omega.{arith}
use Rattle.try_row_report.proofs.Listing.{set_long, notes_first, notes_none, notes_one, notes_all}
use borrow.Author.Rules.{rules}
use Rattle.try_row_report.proofs.note_disputed.Goals as goal

pub loop-i-init : goal.loop-i-init
loop-i-init c = (search rules, omega arith, search rules, refl, search (notes_first))

pub loop-i-preserved-then-not-is_disputed : goal.loop-i-preserved-then-not-is_disputed
loop-i-preserved-then-not-is_disputed c = (omega arith, omega arith, omega arith, omega arith, search (notes_none))

pub loop-i-preserved : goal.loop-i-preserved
loop-i-preserved c = (omega arith, omega arith, search (set_long), search (set_long), search (notes_one))

pub returns-clause-few : goal.returns-clause-few
returns-clause-few c = omega arith

pub returns-clause-made : goal.returns-clause-made
returns-clause-made c = search (notes_all)
