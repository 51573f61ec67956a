-- A file of either form is listed into the lent text, by way of the lent log, base and tree table; a refused one gives its
-- line, leaves log and base, and clears the table.
use Rattle.listing.proofs.Outcomes.{wrong_log, wrong_base, wrong_tree, wrong_text}
use Rattle.listing.proofs.listing.Goals as goal

pub returns-then-log-ne-LOG_BYTES : goal.returns-then-log-ne-LOG_BYTES
returns-then-log-ne-LOG_BYTES c = search (wrong_log)

pub returns-then-base-ne-BASE_BYTES : goal.returns-then-base-ne-BASE_BYTES
returns-then-base-ne-BASE_BYTES c = search (wrong_base)

pub returns-then-tree-ne-TREE_BYTES : goal.returns-then-tree-ne-TREE_BYTES
returns-then-tree-ne-TREE_BYTES c = search (wrong_tree)

pub returns-then-text-ne-LISTING_BYTES : goal.returns-then-text-ne-LISTING_BYTES
returns-then-text-ne-LISTING_BYTES c = search (wrong_text)
