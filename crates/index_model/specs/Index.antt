-- The index: 40,964 bytes that list the entries of a tree by folder and label.
--   0-1 how many rows, 2-3 zero; from 4 on 1,024 rows of 40 bytes: 0-3 folder, 4-35 label, 36-39 entry. Rows that are not used are zero.
-- Document 02, K6, K7 and K10.
-- Assumes nothing.
use Rattle.std.specs.Prelude.{ℕ, zero, suc, ◌+◌, ◌-◌, ◌*◌, ◌/◌, ◌%◌, min, Bool, true, false, cond, ◌&&◌, ◌||◌, List, [], ◌∷◌, ◌++◌, ltb, eqb, length, replicate}
use Rattle.std.proofs.Math.Option.{Option, none, some}
use Rattle.model.specs.Numbers.{bad_buffer}
use Rattle.model.specs.Bytes.{word, two, part, padded}
use Rattle.model.specs.Record.{identity_at}
use Rattle.model.specs.Replay.{Entry, Tree, label_key, is_in, same_label, present_ones}
use Rattle.model.specs.Table.{identity_bytes}

-- the length of an index: 4 bytes and 1,024 rows of 40 [F150]
abbrev pub index_size : ℕ
index_size = 40964

-- the most rows of an index
abbrev pub index_places : ℕ
index_places = 1024

-- ---- the order

-- a comes before b, byte by byte; a text comes before one that goes on [F107]
unfoldable pub comes_before : List ℕ → List ℕ → Bool
comes_before [] [] = false
comes_before [] (y ∷ b) = true
comes_before (x ∷ a) [] = false
comes_before (x ∷ a) (y ∷ b) = ltb x y || (eqb x y && comes_before a b)

-- a folder's identity as one number, by unit, then by number; no two 32-bit identities share one [F107]
unfoldable pub folder_key : ℕ → ℕ
folder_key k = 536870912 * (k % 8) + k / 8

-- the label t in the folder of key f comes before the label s in that of key g, A to Z as a to z [F107]
unfoldable pub key_before : ℕ → List ℕ → ℕ → List ℕ → Bool
key_before f t g s = ltb f g || (eqb f g && comes_before (label_key t) (label_key s))

unfoldable pub entry_before : Entry → Entry → Bool
entry_before e x = key_before (folder_key e.inside) e.label (folder_key x.inside) x.label

-- e put in by key, behind all that come before it
unfoldable pub placed : Entry → List Entry → List Entry
placed e [] = e ∷ []
placed e (x ∷ l) = cond (entry_before x e) (x ∷ placed e l) (e ∷ x ∷ l)

unfoldable pub ordered : List Entry → List Entry
ordered [] = []
ordered (e ∷ l) = placed e (ordered l)

-- ---- the bytes

-- folder, label, entry [F108]
unfoldable pub index_row : Entry → List ℕ
index_row e = identity_bytes e.inside ++ (e.label ++ identity_bytes e.made)

unfoldable pub index_rows : List Entry → List ℕ
index_rows [] = []
index_rows (e ∷ l) = index_row e ++ index_rows l

-- how many rows, two zeros, the rows, zeros [F108]
unfoldable pub index_bytes : List Entry → List ℕ
index_bytes l = two (length l) ++ (0 ∷ 0 ∷ padded 40960 (index_rows l))

-- the index made afresh from a tree: its entries, those removed left out [F109]
unfoldable pub index_of : Tree → List ℕ
index_of t = index_bytes (ordered (present_ones t.entries))

-- ---- halving

-- at most n times: from lo on the first place below hi of which p does not hold, where p holds up to some place
unfoldable pub halve : (ℕ → Bool) → ℕ → ℕ → ℕ → ℕ
halve p zero lo hi = lo
halve p (suc n) lo hi =
    cond (ltb lo hi)
    (cond (p (lo + (hi - lo) / 2)) (halve p n (lo + (hi - lo) / 2 + 1) hi) (halve p n lo (lo + (hi - lo) / 2)))
    lo

-- ---- looking up and listing, in any bytes

-- how many rows, at most 1,024
unfoldable pub rows_in : List ℕ → ℕ
rows_in b = min index_places (word b 0)

unfoldable pub folder_at : List ℕ → ℕ → ℕ
folder_at b i = identity_at b (4 + 40 * i)

unfoldable pub label_at : List ℕ → ℕ → List ℕ
label_at b i = part b (4 + 40 * i + 4) 32

unfoldable pub entry_at : List ℕ → ℕ → ℕ
entry_at b i = identity_at b (4 + 40 * i + 36)

-- row i comes before the label t in the folder of key f
unfoldable pub row_before : List ℕ → ℕ → List ℕ → ℕ → Bool
row_before b f t i = key_before (folder_key (folder_at b i)) (label_at b i) f t

-- the first row that does not come before the key: 1,024 rows are halved at most 11 times [F110]
unfoldable pub seek : List ℕ → ℕ → List ℕ → ℕ
seek b f t = halve (row_before b f t) 11 0 (rows_in b)

-- row i is one of the rows, of the folder f, and has the label t
unfoldable pub row_is : List ℕ → ℕ → List ℕ → ℕ → Bool
row_is b f t i = ltb i (rows_in b) && (eqb (folder_at b i) f && same_label (label_at b i) t)

-- the entry of a folder and a label; 0 for none [F110]
unfoldable pub find_in : List ℕ → ℕ → List ℕ → ℕ
find_in b f t = cond (row_is b f t (seek b (folder_key f) t)) (entry_at b (seek b (folder_key f) t)) 0

-- the first row of a folder, and the row behind its last [F111]
unfoldable pub first_in : List ℕ → ℕ → ℕ
first_in b f = seek b (folder_key f) (replicate 32 0)

unfoldable pub end_in : List ℕ → ℕ → ℕ
end_in b f = seek b (folder_key f + 1) (replicate 32 0)

-- the entries in n rows from row i on
unfoldable pub entries_in : List ℕ → ℕ → ℕ → List ℕ
entries_in b i zero = []
entries_in b i (suc n) = entry_at b i ∷ entries_in b (suc i) n

-- the entries of a folder as the index lists them [F111]
unfoldable pub list_in : List ℕ → ℕ → List ℕ
list_in b f = entries_in b (first_in b f) (end_in b f - first_in b f)

-- ---- what the two calls answer: 1 for a length that is wrong, and nothing else is refused

pub record Found : Type 0 where
  pub number : ℕ
  pub entry : ℕ  -- 0 for none

unfoldable pub found : ℕ → ℕ → Found
found n e = record { number = n; entry = e }

-- looking up the label t in the folder f [F110]
unfoldable pub find_of : List ℕ → ℕ → List ℕ → Found
find_of b f t =
    cond (eqb (length b) index_size) (cond (eqb (length t) 32) (found 0 (find_in b f t)) (found bad_buffer 0)) (found bad_buffer 0)

pub record Range : Type 0 where
  pub number : ℕ
  pub first : ℕ
  pub count : ℕ

unfoldable pub range : ℕ → ℕ → ℕ → Range
range n a k = record { number = n; first = a; count = k }

-- listing the folder f: the first of its rows, and how many they are [F111]
unfoldable pub range_of : List ℕ → ℕ → Range
range_of b f = cond (eqb (length b) index_size) (range 0 (first_in b f) (end_in b f - first_in b f)) (range bad_buffer 0 0)

-- ---- what looking up and listing are held against

-- the entries of a folder among others
unfoldable pub in_folder : ℕ → List Entry → List Entry
in_folder f [] = []
in_folder f (e ∷ l) = cond (is_in f e) (e ∷ in_folder f l) (in_folder f l)

-- the identity of an entry; 0 for none
unfoldable pub made_of : Option Entry → ℕ
made_of none = 0
made_of (some e) = e.made
