-- No label twice in a folder: the rows are judged, each against those before it, and linked.
use Rattle.base_names.proofs.Names.{names_linked, names-next, names_start}
use borrow.Author.Rules.{rules}
use Rattle.base_names.proofs.link_names.Goals as goal

pub loop-i-init : goal.loop-i-init
loop-i-init c = (search (names_start), search rules)

pub loop-i-preserved : goal.loop-i-preserved
loop-i-preserved c = (search (names-next), search (names_linked))
