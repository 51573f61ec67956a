-- The entry in a row is a folder that has entries, by the register.
use Rattle.tree_judge.proofs.Reasons.{full_no, full_if}
use Rattle.tree_judge.proofs.is_full.Goals as goal

pub returns-else-is_folder : goal.returns-else-is_folder
returns-else-is_folder c = search (full_no)

pub returns-then-is_folder : goal.returns-then-is_folder
returns-then-is_folder c = search (full_if)
