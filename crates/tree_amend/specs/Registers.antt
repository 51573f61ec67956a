-- What a record does to the register that is kept beside a tree.
-- Assumes nothing.
use Rattle.std.specs.Prelude.{ℕ, ◌+◌, cond, List, leb, eqb, length}
use Rattle.std.proofs.Math.Option.{Option, none, some}
use Rattle.model.specs.Record.{Rec, op, self_of, object_of, folder_of, label_of}
use Rattle.model.specs.Replay.{Entry, Tree, entry_of}
use Rattle.tree_maps.specs.Keys.{named, entered, relabelled, left, shifted}
use Rattle.tree_lookup.specs.Roles.{row_of}
use Rattle.tree_lookup.specs.Lookup.{row_among}

-- what is done for an entry and its row, if one was found; the register as it is, if none was
unfoldable pub for_found : (Entry → ℕ → List ℕ) → List ℕ → List Entry → Option Entry → List ℕ
for_found g l es none = l
for_found g l es (some e) = g e (row_among es (some e))

-- a make: the role of the new entry, its folder's count, its label
unfoldable pub made_on : Rec → Tree → List ℕ → List ℕ
made_on r t l =
    entered (named l (self_of r) (length t.entries + 1)) (row_of (folder_of r) t) (folder_of r) (label_of r) (length t.entries)

-- a rename: the label of its object
unfoldable pub renamed_on : Rec → Tree → List ℕ → List ℕ
renamed_on r t l =
    for_found (λ e row. relabelled l e.inside e.label (label_of r) row) l t.entries (entry_of (object_of r) t.entries)

-- a remove: the label of its object, and its folder's count
unfoldable pub removed_on : Rec → Tree → List ℕ → List ℕ
removed_on r t l =
    for_found (λ e row. left l (row_of e.inside t) e.inside e.label row) l t.entries (entry_of (object_of r) t.entries)

-- the entry in a row leaves its folder for the one that a move names
unfoldable pub shifted_on : Rec → Tree → List ℕ → Entry → ℕ → List ℕ
shifted_on r t l e row = shifted l (row_of e.inside t) e.inside e.label (row_of (folder_of r) t) (folder_of r) (label_of r) row

-- a move: its object leaves its folder for another, under another label
unfoldable pub moved_on : Rec → Tree → List ℕ → List ℕ
moved_on r t l =
    for_found (λ e row. shifted_on r t l e row) l t.entries (entry_of (object_of r) t.entries)

-- a record that fits; a store and a settle leave the register as it is
unfoldable pub effect_on : Rec → Tree → List ℕ → List ℕ
effect_on r t l =
    cond (leb (op r) 2) (made_on r t l)
    (cond (eqb (op r) 4) (removed_on r t l)
    (cond (eqb (op r) 5) (renamed_on r t l)
    (cond (leb 7 (op r)) (moved_on r t l) l)))

-- a record that stands aside: its role
unfoldable pub aside_on : Rec → Tree → List ℕ → List ℕ
aside_on r t l = named l (self_of r) (1025 + length t.asides)
