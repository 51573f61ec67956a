-- What an accepted order leaves of what no listing shows: the last contents record and the last place record of an entry.
-- Document 02, K12.
-- Assumes nothing.
use Rattle.std.specs.Prelude.{ℕ, ◌≤◌, ◌≡◌, ◌⊎◌, List}
use Rattle.model.specs.Record.{Rec, op, self_of, object_of}
use Rattle.model.specs.Replay.{Entry, replay, present_ones}
use Rattle.order_model.specs.Order.{in_order_of, failed_of}
use Rattle.tree_laws.specs.Replayed.{Has}

-- the make of the entry k, or a store to it
abbrev pub Storing : ℕ → Rec → Type 0
Storing k r = ((op r ≤ 2) × (self_of r ≡ k)) ⊎ ((op r ≡ 3) × (object_of r ≡ k))

-- in an accepted order both are those of rank order [F178]
abbrev pub HiddenToo : List ℕ → List Rec → Type 0
HiddenToo ks l =
    failed_of ks l ≡ 0
    → (e f : Entry) → Has e (present_ones (replay l).entries) → Has f (present_ones (replay (in_order_of ks l)).entries) → e.made ≡ f.made
    → (e.contents ≡ f.contents) × (e.placing ≡ f.placing)
