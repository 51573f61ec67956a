-- The n records of a sound log, from the root alone on, into a table and a register of zeros.
use Rattle.log_check.proofs.Sound.{log_laid}
use Rattle.tree_replay.proofs.Sound.{start_holds, start_nodes, few_records, log_room, log_both, log_playable, log_replayed}
use Rattle.tree_replay.proofs.Registers.{log_on}
use Rattle.tree_replay.proofs.replay_log.Goals as goal

pub replay-requires : goal.replay-requires
replay-requires c = (search (log_laid), search (log_playable), search (start_holds), search (log_room), search (log_room), search (log_both), search (start_nodes, few_records))

pub returns : goal.returns
returns c = (search (log_replayed), search (log_on))
