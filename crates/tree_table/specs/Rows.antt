-- The rows of a tree table: the entry or the aside that the bytes of a row show, and the table while records are replayed.
-- Assumes nothing.
use Rattle.std.specs.Prelude.{ℕ, zero, suc, ◌+◌, ◌*◌, ◌≤◌, ◌<◌, ◌≡◌, true, cond, List, [], ◌∷◌, ltb, length}
use Rattle.std.proofs.Math.Option.{Option, none, some}
use Rattle.model.specs.Bytes.{part, put_at}
use Rattle.model.specs.Record.{Rec, op, self_of, folder_of, date_bytes, label_of, mark_of}
use Rattle.model.specs.Replay.{Entry, Aside, Tree, is_disputed}
use Rattle.model.specs.Table.{identity_bytes, aside_in, entry_in}

-- the entries in the n rows from row i on
unfoldable pub entries_from : List ℕ → ℕ → ℕ → List Entry
entries_from b i zero = []
entries_from b i (suc n) = entry_in b (4 + 72 * i) ∷ entries_from b (suc i) n

-- the asides in the n rows from row i on
unfoldable pub asides_from : List ℕ → ℕ → ℕ → List Aside
asides_from b i zero = []
asides_from b i (suc n) = aside_in b (73732 + 12 * i) ∷ asides_from b (suc i) n

-- the tree in the first n rows of entries and the first m rows of asides
unfoldable pub tree_in : List ℕ → ℕ → ℕ → Tree
tree_in b n m = record { entries = entries_from b 0 n; asides = asides_from b 0 m }

-- the entry in row i of n; none for a row behind them
unfoldable pub row_in : List ℕ → ℕ → ℕ → Option Entry
row_in b n i = cond (ltb i n) (some (entry_in b (4 + 72 * i))) none

-- the flag of an entry that the asides dispute, or not
abbrev pub flag_of : List Aside → Entry → ℕ
flag_of s e = cond (is_disputed e.made s) 1 0

-- an identity of unit 0 to 7 and number 1 to 65,535
pub record InRange (k : ℕ) : Type 0 where
  pub low : 8 ≤ k
  pub high : k < 524288

-- an entry that a row holds: its identity in range, its fields of their lengths
pub record Proper (e : Entry) : Type 0 where
  pub range : InRange e.made
  pub date_long : length e.date ≡ 4
  pub label_long : length e.label ≡ 32
  pub mark_long : length e.mark ≡ 16

abbrev pub AllProper : List Entry → Type 0
AllProper [] = Unit {0}
AllProper (e ∷ l) = Proper e × AllProper l

-- a record that stands aside, not settled yet
unfoldable pub new_aside : ℕ → ℕ → ℕ → Aside
new_aside k n m = record { who = k; reason = n; marked = m; is_open = true }

-- the row of a new entry, field by field
unfoldable pub new_row : List ℕ → Rec → List ℕ
new_row row r =
    put_at
    (put_at
    (put_at
    (put_at (put_at (put_at row 0 (op r ∷ 0 ∷ 0 ∷ 0 ∷ [])) 4 (identity_bytes (self_of r))) 8 (identity_bytes (folder_of r)))
    12
    (identity_bytes (self_of r)))
    16
    (identity_bytes (self_of r)))
    20
    (part r 28 52)

-- the row of an entry after a store
unfoldable pub stored_row : List ℕ → Rec → List ℕ
stored_row row r = put_at (put_at (put_at row 12 (identity_bytes (self_of r))) 20 (date_bytes r)) 56 (mark_of r)

-- the row of an entry after a rename
unfoldable pub renamed_row : List ℕ → Rec → List ℕ
renamed_row row r = put_at (put_at row 16 (identity_bytes (self_of r))) 24 (label_of r)

-- the row of an entry after a move: its folder, and then as after a rename
unfoldable pub moved_row : List ℕ → Rec → List ℕ
moved_row row r = renamed_row (put_at row 8 (identity_bytes (folder_of r))) r
