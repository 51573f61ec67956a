-- The first n records of a log or a file, from the tree that a table holds on.
use Rattle.tree_replay.proofs.Playing.{turn_entries, turn_asides, turn_both, turn_holds, turn_takes, turn_goes, play_starts}
use mathlib.Core.Path.{refl}
use Rattle.tree_replay.proofs.Registers.{starts_on, goes_on_lem}
use borrow.Author.Rules.{rules}
use native.Mathlib.Omega.{arith}
use Rattle.tree_replay.proofs.replay.Goals as goal

pub loop-i-init : goal.loop-i-init
loop-i-init c = (refl, refl, omega arith, search (play_starts), search (starts_on))

pub step_at-next-requires : goal.step_at-next-requires
step_at-next-requires c = (search (turn_takes), search (turn_holds), search (turn_entries), search (turn_asides), search (turn_both), omega arith)

pub loop-i-preserved : goal.loop-i-preserved
loop-i-preserved c = (search rules, search rules, omega arith, search (turn_goes), search (goes_on_lem))
