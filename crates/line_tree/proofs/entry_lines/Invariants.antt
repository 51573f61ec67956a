-- The first n entry lines.
use Rattle.model.specs.Listing.{entry_lines}
use Rattle.line_text.specs.Written.{Wrote}
use Rattle.line_tree.proofs.entry_lines.Given as goal

abbrev pub invariant-loop-i : goal.invariant-loop-i
invariant-loop-i l = Wrote l.initial.out l.out l.at l.m (entry_lines l.table l.i)
