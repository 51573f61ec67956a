-- The three lent buffers have their stated lengths.
use Rattle.try_row.proofs.Tried.{copy_wrong, tree_wrong, report_decides}
use Rattle.try_row.proofs.lent_fits.Goals as goal

pub returns-then-copy-ne-LOG_BYTES : goal.returns-then-copy-ne-LOG_BYTES
returns-then-copy-ne-LOG_BYTES c = search (copy_wrong)

pub returns-then-tree-ne-TREE_BYTES : goal.returns-then-tree-ne-TREE_BYTES
returns-then-tree-ne-TREE_BYTES c = search (tree_wrong)

pub returns : goal.returns
returns c = search (report_decides)
