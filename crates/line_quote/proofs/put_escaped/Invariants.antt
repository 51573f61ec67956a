-- The bytes before the index are written.
use Rattle.std.proofs.Common.{take}
use Rattle.model.specs.Listing.{escaped}
use Rattle.line_text.specs.Written.{Wrote}
use Rattle.line_quote.proofs.put_escaped.Given as goal

abbrev pub invariant-loop-x : goal.invariant-loop-x
invariant-loop-x l = Wrote l.initial.out l.out l.at l.m (escaped (take l.x-index l.t))
