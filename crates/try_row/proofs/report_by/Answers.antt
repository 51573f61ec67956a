-- The tree of the copy, into which the row was taken, is laid, and the report is written by it and the notes.
use Rattle.try_row.proofs.Tried.{tree-shows}
use mathlib.Core.Path.{◌∙◌}
use borrow.Author.Rules.{rules}
use Rattle.try_row.proofs.report_by.Goals as goal

pub lay_tree-requires : goal.lay_tree-requires
lay_tree-requires c = (c.requires.0, search)

pub write_report-requires : goal.write_report-requires
write_report-requires c =
    let p = c.requires in
    (tree-shows _ _ _ p.0.known.based p.0.known.sound p.0.known.held_is c.small_counts.ensures _ c.lay_tree.ensures (c.lay_tree.auto.tree ∙ p.2), search rules, search rules)
