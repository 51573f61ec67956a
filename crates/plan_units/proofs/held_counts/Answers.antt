-- The held vector of a log of so many records.
use Rattle.plan_units.proofs.Logs.{long_log, sound_none, held_none}
use borrow.Author.Rules.{rules}
use Rattle.plan_units.proofs.held_counts.Goals as goal

pub counted-requires : goal.counted-requires
counted-requires c = (search (long_log), search (sound_none), search rules)

pub returns : goal.returns
returns c = search (held_none)
