-- The index of a sound state.
use Rattle.state_check.proofs.Standing.{head-stands}
use Rattle.index_log.proofs.Indexing.{head_log, head_held}
use borrow.Author.Rules.{rules}
use Rattle.index_log.proofs.renew.Goals as goal

pub counted-held-requires : goal.counted-held-requires
counted-held-requires c = (search rules, search (head_log), search rules)

pub lay_index-requires : goal.lay_index-requires
lay_index-requires c = (search (head-stands, head_held, rules), search rules, search rules)
