-- A label in the folder f: free but for the entry k, or 15 marks its holder.
use Rattle.model.specs.Record.{label_of}
use Rattle.model.specs.Bytes.{part}
use borrow.Author.Rules.{rules}
use Rattle.tree_judge.proofs.free_label.Goals as goal

pub free_label_at-requires : goal.free_label_at-requires
unfolding label_of part
free_label_at-requires c = (search rules, search rules, cc, search rules)
