-- The first n entry lines.
use Rattle.line_tree.proofs.Turns.{entry_line_fits, wrote_next_entry, wrote_all_entries}
use Rattle.model.specs.Listing.{entry_lines}
use Rattle.line_text.proofs.Written.{wrote_none}
use borrow.Author.Rules.{rules}
use Rattle.line_tree.proofs.entry_lines.Goals as goal

pub loop-i-init : goal.loop-i-init
unfolding entry_lines
loop-i-init c = wrote_none _ _

pub entry_line-m-requires : goal.entry_line-m-requires
entry_line-m-requires c = (search rules, search (entry_line_fits))

pub loop-i-preserved : goal.loop-i-preserved
loop-i-preserved c = search (wrote_next_entry)

pub returns : goal.returns
returns c = search (wrote_all_entries)
