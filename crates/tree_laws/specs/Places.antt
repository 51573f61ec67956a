-- Which records place an entry, and what one record leaves of its place.
-- Assumes nothing.
use Rattle.std.specs.Prelude.{ℕ, ◌≤◌, ◌<◌, ◌≡◌, ◌⊎◌}
use Rattle.std.proofs.Math.Option.{some}
use Rattle.model.specs.Record.{Rec, op, self_of, object_of, folder_of, label_of}
use Rattle.model.specs.Replay.{Entry, Tree, fits, entry_of, judge}

-- the make of the entry k, or a rename or a move of it
abbrev pub Placing : ℕ → Rec → Type 0
Placing k r = ((op r ≤ 2) × (self_of r ≡ k)) ⊎ (((op r ≡ 5) ⊎ (6 < op r)) × (object_of r ≡ k))

-- the record fits and is the last place record of the entry k, which is then x: its label is the record's, and its folder too; a rename leaves
-- it in its folder
pub record PlacedBy (k : ℕ) (r : Rec) (t : Tree) (x : Entry) : Type 0 where
  pub fit : judge r t ≡ fits
  pub places : Placing k r
  pub last : x.placing ≡ self_of r
  pub label : x.label ≡ label_of r
  pub folder : (op r ≡ 5 → ⊥) → x.inside ≡ folder_of r
  pub kept : op r ≡ 5 → (e : Entry) × (entry_of k t.entries ≡ some e) × (x.inside ≡ e.inside)

-- the record does not place the entry k, or does not fit: last place record, label and folder are as they were
pub record PlaceKept (k : ℕ) (r : Rec) (t : Tree) (x : Entry) : Type 0 where
  pub was : Entry
  pub there : entry_of k t.entries ≡ some was
  pub last : x.placing ≡ was.placing
  pub label : x.label ≡ was.label
  pub folder : x.inside ≡ was.inside
  pub unplaced : judge r t ≡ fits → Placing k r → ⊥
