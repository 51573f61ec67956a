-- The entries of a sound tree have rows in the index: labels of 32 bytes, folders in range, no label twice.
-- Assumes nothing.
use Prim.Native.Nat.{ℕ, ◌%◌, ◌≤◌, ◌<◌}
use native.Mathlib.Omega.{arith}
use mathlib.Core.Path.{◌≡◌, refl, sym, ap}
use mathlib.Core.Logic.{inl, inr, ⊎_elim}
use mathlib.Core.List.{List, [], ◌∷◌}
use lib.ListN.{get_or, length}
use Rattle.record_label.proofs.Same.{key_same}
use Rattle.model.specs.Record.{root}
use Rattle.model.specs.Replay.{Entry, Tree, present_ones}
use Rattle.log_laws.proofs.Members.{All, all_map}
use Rattle.tree_laws.specs.Trees.{OneLabel, NamedIn, EntryFits, SoundTree}
use Rattle.tree_laws.proofs.Labels.{Apart, has_made}
use Rattle.tree_table.specs.Rows.{InRange}
use Rattle.index_model.specs.Index.{index_places}
use Rattle.index_laws.proofs.Exact.{Rowed, all_has, has_all, has_present}
use Rattle.index_laws.proofs.Acting.{Fit}

label_apart : (es : List Entry) → OneLabel es → Apart es
label_apart [] h = tt
label_apart (e ∷ es) h = (
  λ x i c. c.two (ap (λ (y : Entry). y.made) (sym (h e x (inl refl) (inr i) c.here c.there c.folder (key_same x.label e.label c.key)))),
  label_apart es (λ y x i j. h y x (inr i) (inr j)),
)

-- a vector whose counts are numbers of 16 bits
module _ (v : List ℕ) (small : (u : ℕ) → u < 8 → get_or v u 0 < 65536) where
  pub named-range : (k : ℕ) → NamedIn v k → InRange k
  named-range k n = record { low = omega (arith, n.0); high = omega (arith, n.1, small (k % 8) (omega arith)) }

  entry_rowed : (e : Entry) → EntryFits v e → Rowed e
  entry_rowed e f =
      (f.label_length, ⊎_elim (λ (z : e.inside ≡ root). omega arith) (λ z. let h = (named-range e.inside z).high in omega arith) f.folder_named)

  module _ (t : Tree) (s : SoundTree v t) where
    pub tree_rowed : All Rowed t.entries
    tree_rowed = all_map entry_rowed t.entries s.entries_fit

    pub present_rowed : All Rowed (present_ones t.entries)
    present_rowed = all_has Rowed (present_ones t.entries) (λ x i. has_all Rowed t.entries x tree_rowed (has_present t.entries x i).0)

    pub own_range : All (λ (e : Entry). InRange e.made) t.entries
    own_range = all_map (λ (e : Entry) f. named-range e.made f.own_named) t.entries s.entries_fit

    -- an index holds the entries of a sound tree, where it has room for them
    pub tree_fit : length (present_ones t.entries) ≤ index_places → Fit t.entries
    tree_fit few =
        record {
          apart = label_apart t.entries s.one_label;
          named = record { once = s.rooted.alone; none-root = λ y k z. s.rooted.rootless (rw z at (has_made t.entries y k)) };
          rowed = present_rowed;
          few = few;
        }
