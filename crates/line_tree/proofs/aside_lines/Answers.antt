-- The first n aside lines.
use Rattle.line_tree.proofs.Turns.{aside_line_fits, wrote_next_aside, wrote_all_asides}
use Rattle.model.specs.Listing.{aside_lines}
use Rattle.line_text.proofs.Written.{wrote_none}
use borrow.Author.Rules.{rules}
use Rattle.line_tree.proofs.aside_lines.Goals as goal

pub loop-i-init : goal.loop-i-init
unfolding aside_lines
loop-i-init c = wrote_none _ _

pub aside_line-m-requires : goal.aside_line-m-requires
aside_line-m-requires c = (search rules, search (aside_line_fits))

pub loop-i-preserved : goal.loop-i-preserved
loop-i-preserved c = search (wrote_next_aside)

pub returns : goal.returns
returns c = search (wrote_all_asides)
