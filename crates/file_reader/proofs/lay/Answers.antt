-- A record becomes record i of a log; the number of the next.
use borrow.Author.Rules.{rules}
use Rattle.file_reader.proofs.Laws.{record_fits}
use Rattle.file_reader.proofs.lay.Goals as goal

pub put-requires : goal.put-requires
put-requires c = search (record_fits, rules)
