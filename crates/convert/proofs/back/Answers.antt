-- The records of a checked SAB2 file and its base: 29 if any is folded, else the way back.
use Rattle.convert.proofs.Lowered.{back_folded, none-folded, back_lowered}
use borrow.Author.Rules.{rules}
use Rattle.convert.proofs.back.Goals as goal

pub returns-then-not-is_zero : goal.returns-then-not-is_zero
returns-then-not-is_zero c = search (back_folded)

pub lower-requires : goal.lower-requires
lower-requires c = (search rules, search (none-folded), search rules)

pub returns : goal.returns
returns c = search (back_lowered)
