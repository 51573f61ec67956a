-- The counts before the index are written.
use Rattle.std.proofs.Common.{take}
use Rattle.model.specs.Listing.{counts_text}
use Rattle.line_text.specs.Written.{Wrote}
use Rattle.line_head.proofs.put_counts.Given as goal

abbrev pub invariant-loop-count : goal.invariant-loop-count
invariant-loop-count l = Wrote l.initial.out l.out l.at l.m (counts_text (take l.count-index l.fn.v.counts))
