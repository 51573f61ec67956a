-- Rows of two tree tables compared by identity.
-- Assumes nothing.
use Rattle.std.specs.Prelude.{ℕ, ◌+◌, ◌-◌, ◌*◌, ◌≤◌, ◌<◌, ◌≡◌, Bool, not, ◌&&◌, List, eqb, get_or, length}
use Rattle.model.specs.Lengths.{tree_size}
use Rattle.model.specs.Bytes.{word, same_bytes, part}
use Rattle.model.specs.Record.{number_of}
use Rattle.model.specs.Log.{all_to}
use Rattle.model.specs.Table.{entry_in, aside_in}
use Rattle.base_model.specs.Base.{last_to}
use Rattle.order_laws.specs.Marking.{mark_slot}
use Rattle.order_rows.specs.declared.Rows.{Rows}
use Rattle.order_rows.specs.declared.Rows.TheVariants.{Entries, Asides}

-- a number for each unit and number of an identity
abbrev pub slots_size : ℕ
slots_size = 4096

-- an identity that has a slot
pub record Slotted (k : ℕ) : Type 0 where
  pub some : 1 ≤ number_of k
  pub few : number_of k ≤ 512

-- ---- rows

-- the identity in row i
unfoldable pub key_in : Rows → List ℕ → ℕ → ℕ
key_in Entries b i = (entry_in b (4 + 72 * i)).made
key_in Asides b i = (aside_in b (73732 + 12 * i)).who

-- how many rows are used
unfoldable pub row_count : Rows → List ℕ → ℕ
row_count Entries b = word b 0
row_count Asides b = word b 2

-- row i of a table shows what row j of another shows: of an entry all but bytes 12 to 19, the last contents and the last place record
unfoldable pub row_alike : Rows → List ℕ → ℕ → List ℕ → ℕ → Bool
row_alike Entries a i b j =
    same_bytes (part a (4 + 72 * i) 12) (part b (4 + 72 * j) 12) && same_bytes (part a (24 + 72 * i) 52) (part b (24 + 72 * j) 52)
row_alike Asides a i b j = same_bytes (part a (73732 + 12 * i) 12) (part b (73732 + 12 * j) 12)

unfoldable pub is_key : Rows → List ℕ → ℕ → ℕ → Bool
is_key p b k i = eqb (key_in p b i) k

-- one above the row of b that has the identity of row i of a; 0 for none
unfoldable pub row_by : Rows → List ℕ → List ℕ → ℕ → ℕ
row_by p a b i = last_to (is_key p b (key_in p a i)) (row_count p b)

-- row i of a is shown by b
unfoldable pub row_shown : Rows → List ℕ → List ℕ → ℕ → Bool
row_shown p a b i = not (eqb (row_by p a b i) 0) && row_alike p a i b (row_by p a b i - 1)

-- each row of a, of entries or of asides, is shown by b
unfoldable pub rows_within : Rows → List ℕ → List ℕ → Bool
rows_within p a b = all_to (row_count p a) (row_shown p a b)

unfoldable pub table_within : List ℕ → List ℕ → Bool
table_within a b = rows_within Entries a b && rows_within Asides a b

-- both ways
unfoldable pub tables_alike : List ℕ → List ℕ → Bool
tables_alike a b = table_within a b && table_within b a

-- ---- what is asked of a table, and the notes of its rows

-- each row that is used has a slot
pub record Rowed (p : Rows) (b : List ℕ) : Type 0 where
  pub long : length b ≡ tree_size
  pub few : row_count p b ≤ 1024
  pub slots : (i : ℕ) → i < row_count p b → Slotted (key_in p b i)

-- at the slot of an identity stands one above the last of the first n rows that has it, or 0
pub record Noted (p : Rows) (b : List ℕ) (n : ℕ) (notes : List ℕ) : Type 0 where
  pub long : length notes ≡ slots_size
  pub at : (k : ℕ) → Slotted k → get_or notes (mark_slot k) 0 ≡ last_to (is_key p b k) n

pub record Table (b : List ℕ) : Type 0 where
  pub entries : Rowed Entries b
  pub asides : Rowed Asides b
