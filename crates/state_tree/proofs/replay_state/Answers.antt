-- The records of the log of a sound state, from the tree of its base on, into a table and a register of zeros.
use mathlib.Core.Path.{◌∙◌}
use Rattle.state_tree.proofs.Replayed.{state_loads, plays_on, base_holds, log_lies, entries_room, asides_room, both_room, nodes_room, state_replayed}
use Rattle.state_tree.proofs.replay_state.Goals as goal

pub load-requires : goal.load-requires
load-requires c =
    let s = c.requires.0.known in
    let e = c.size-size.ensures.0 ∙ s.entries_are in
    let f = c.size-size.ensures.1 ∙ s.asides_are in
    (search (state_loads, e, f), search, search)

pub replay-requires : goal.replay-requires
replay-requires c =
    let s = c.requires.0.known in
    let e = c.size-size.ensures.0 ∙ s.entries_are in
    let f = c.size-size.ensures.1 ∙ s.asides_are in
    (search (log_lies, e, f), search (plays_on _ _ _ _ _ c.load.ensures.0 _ c.small_counts.ensures, e, f), search (base_holds, e, f), search (entries_room, e), search (asides_room, f), search (both_room, e, f), search (nodes_room, e))

pub returns : goal.returns
returns c =
    let s = c.requires.0.known in
    let e = c.size-size.ensures.0 ∙ s.entries_are in
    let f = c.size-size.ensures.1 ∙ s.asides_are in
    search (state_replayed, e, f)
