-- The n records of a block are all new, and rise in rank.
use Prim.Native.Nat.{◌≤◌, ◌-◌}
use mathlib.Core.Path.{◌≡◌}
use Rattle.model.specs.Block.{record_at}
use Rattle.take_store.specs.New.{new_from}
use Rattle.take_store.proofs.are_new.Given as goal

abbrev pub invariant-loop-j : goal.invariant-loop-j
invariant-loop-j l = (l.floor ≤ 4194560) × (new_from l.held.counts (record_at l.b) l.floor l.j (l.n - l.j) ≡ new_from l.held.counts (record_at l.b) 0 0 l.n)
