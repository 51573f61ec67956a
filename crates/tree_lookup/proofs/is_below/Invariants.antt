-- The folder f is the entry k or lies below it.
use Rattle.std.proofs.Common.{◌≡◌, ◌+◌, ◌-◌}
use Rattle.model.specs.Replay.{comes_to, is_below}
use Rattle.tree_table.specs.Rows.{entries_from}
use Rattle.tree_lookup.proofs.is_below.Given as goal

abbrev pub invariant-loop-step : goal.invariant-loop-step
invariant-loop-step l = comes_to (l.size.entries + 1 - l._step) l.k l.at (entries_from l.table 0 l.size.entries) ≡ is_below l.k l.f (entries_from l.table 0 l.size.entries)
