-- The row of the holder of a label in the folder f, other than the entry k, unless the label is free; the chain of the label is given.
use Rattle.tree_lookup.proofs.Labels.{seek_starts, seek-row, seek_goes, seek_ends, seek_none}
use Rattle.tree_lookup.proofs.Working.{works_long, row_among_lem}
use native.Mathlib.Omega.{arith}
use borrow.Author.Rules.{rules}
use Rattle.tree_lookup.proofs.holder_at.Goals as goal

pub loop-q-init : goal.loop-q-init
loop-q-init c = search (seek_starts)

pub earlier-best-requires : goal.earlier-best-requires
earlier-best-requires c = (search (works_long), search (seek-row), search rules)

pub loop-q-preserved : goal.loop-q-preserved
loop-q-preserved c = search (seek_goes)

pub returns-then-best-size : goal.returns-then-best-size
returns-then-best-size c = record { row = search (row_among_lem, seek_ends); shows = search (seek_ends); within = omega arith }

pub returns : goal.returns
returns c = record { row = search (row_among_lem, seek_none, rules); shows = search (seek_none); within = search rules }
