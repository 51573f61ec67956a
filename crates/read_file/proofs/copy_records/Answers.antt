-- The first records of a file become a log.
use borrow.Author.Rules.{rules}
use Rattle.read_file.proofs.Copied.{walk_fits, copied_all}
use Rattle.read_file.proofs.copy_records.Goals as goal

pub walk-requires : goal.walk-requires
walk-requires c = search (walk_fits, rules)

pub returns : goal.returns
returns c = search (copied_all, c.fill.ensures.after (λ y e. e))
