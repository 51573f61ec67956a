-- Examples of whole files of either form and of the calls that take them, as rows of one table. The sums of a file are given.
-- Document 02, K11.
-- Assumes nothing.
use Rattle.std.specs.Prelude.{ℕ, suc, Bool, true, false, ◌&&◌, List, [], ◌∷◌, ◌++◌, eqb, get_or, length, take, replicate}
use Rattle.model.specs.Bytes.{two, same_bytes, padded}
use Rattle.model.specs.Record.{Rec}
use Rattle.model.specs.Log.{no_counts}
use Rattle.model.specs.Replay.{empty_tree}
use Rattle.model.specs.Table.{table_bytes}
use Rattle.model.specs.Block.{letters}
use Rattle.model.specs.File.{header_of, Fault, fault}
use Rattle.model.specs.Listing.{head_line, seen_line, tree_lines, refused_line}
use Rattle.model.specs.Examples.{same_fault, firsts_to}
use Rattle.base_model.specs.Base.{empty_base}
use Rattle.call_model.specs.Read.{ReadBack}
use Rattle.call_model.specs.Outcome.{Outcome}
use Rattle.run_model.specs.Runs.{body_as}
use Rattle.sab2_model.specs.Sab2.{either_fault}
use Rattle.sab2_model.specs.Calls.{write_sab2_of, read_either_of, Converted, to_sab2_of, to_sab1_of, either_listing, either_output, Listed, either_listed}
use Rattle.sab2_model.specs.Examples.{S2, head_row, is_left}

-- ---- the rows

pub data Example : Type 0 where
  -- a unit, how many bytes of 9 are lent as log, base and file; the number under which nothing is written
  writes_none : ℕ → ℕ → ℕ → ℕ → ℕ → Example
  -- how a file begins, how many bytes it has, and the fault that is listed; log and base are lent empty
  lists : List ℕ → ℕ → ℕ → ℕ → Example
  -- whether the input failed, how the file begins, how many bytes it has; what is printed
  outputs : Bool → List ℕ → ℕ → List ℕ → Example
  -- a file with its sums, and its fault
  judged : List ℕ → ℕ → ℕ → Example
  -- a file with its sums; the list and how many records are read from it
  reads : List ℕ → ℕ → ℕ → Example
  -- an SAB1 file with its sums, and how many blocks it becomes
  goes_there : List ℕ → ℕ → Example
  -- an SAB2 file with its sums, and how many blocks it has as SAB1
  goes_back : List ℕ → ℕ → Example
  -- a file with its sums, and its listing
  shows : List ℕ → List ℕ → Example

-- ---- what the rows ask

-- refused, and the lent bytes are left
unfoldable pub is_not_written : Outcome → ℕ → Bool
is_not_written o n = eqb o.number n && (eqb o.blocks 0 && eqb (get_or o.lent 0 0) 9)

-- 86,020 bytes, of which the first and the last are zero
unfoldable pub is_blank : List ℕ → Bool
is_blank b = eqb (length b) 86020 && (eqb (get_or b 0 9) 0 && eqb (get_or b 86019 9) 0)

-- this line at the beginning of the text, the rest of it and the base, which was lent empty, are left, and the tree is cleared
unfoldable pub is_listed_as : Listed → Fault → List ℕ → Bool
is_listed_as o e t =
    same_fault (fault o.number o.place) e
    && (eqb o.size (length t)
    && (same_bytes (take (suc (length t)) o.text) (t ++ (9 ∷ []))
    && (eqb (length o.text) 172544 && (is_blank o.tree && eqb (get_or o.base 0 0) 255))))

unfoldable pub is_converted : Converted → ℕ → Bool
is_converted o k = eqb o.number 0 && eqb o.blocks k

-- read, with this list and so many records
unfoldable pub is_read_as : ReadBack → ℕ → ℕ → Bool
is_read_as r m n = eqb r.number 0 && (eqb (get_or r.base 0 0) m && eqb r.records n)

-- a block of these letters, archive 7, unit 3, place k, with this vector, holding this, with the sums x and y
unfoldable pub summed : List ℕ → ℕ → List ℕ → List Rec → ℕ → ℕ → List ℕ
summed t k v l x y = body_as t (header_of 7 3 k v) l ++ (two x ++ two y)

unfoldable pub right : Example → Bool
right (writes_none u k j m n) = is_not_written (write_sab2_of 7 u (replicate k 9) (replicate j 9) (replicate m 9)) n
right (lists b k n p) =
    is_listed_as
    (either_listed (padded k b) (replicate 40960 0) empty_base (replicate 86020 9) (replicate 172544 9))
    (fault n p)
    (refused_line n p)
right (outputs x b k t) = same_bytes (either_output x (padded k b)) t
right (judged f n p) = same_fault (either_fault f) (fault n p)
right (reads f m n) = is_read_as (read_either_of (replicate 40960 9) (replicate 43032 9) f) m n
right (goes_there f k) = is_converted (to_sab2_of f (replicate 95232 9)) k
right (goes_back f k) = is_converted (to_sab1_of f (replicate 44032 9)) k
right (shows f t) = same_bytes (either_listing f) t

unfoldable pub all_right : List Example → Bool
all_right [] = true
all_right (r ∷ l) = right r && all_right l

-- ---- the table

unfoldable pub calls : List Example
calls =
    -- written: 1 where room for an SAB1 file is lent, then 21, then 19
    writes_none 8 40960 43032 44032 1
    ∷ writes_none 8 40960 43032 95232 21
    ∷ writes_none 3 40960 43032 95232 19
    -- the line of a refused file; the tree is cleared
    ∷ lists S2 512 4 0
    -- nothing where the input failed
    ∷ outputs true S2 512 []
    ∷ outputs false S2 512 (refused_line 4 0)
    ∷ []

-- files with their sums
unfoldable pub whole : List Example
whole =
    -- a byte behind the head; a record of zeros in the second block
    judged (summed S2 0 no_counts ((take 79 (head_row 255 no_counts 0 0) ++ (1 ∷ [])) ∷ []) 30366 15953) 31 0
    ∷ judged
    (summed S2 0 no_counts (head_row 255 no_counts 0 0 ∷ []) 30110 30018 ++ summed S2 1 no_counts (replicate 80 0 ∷ []) 29856 34588)
    7
    1
    -- the list of an SAB2 file; of an SAB1 file all eight
    ∷ reads (summed S2 0 no_counts (head_row 3 no_counts 0 0 ∷ []) 29858 35059) 3 0
    ∷ reads (summed letters 0 (1 ∷ []) (firsts_to 1) 49422 39937) 255 1
    -- a block of the head and one of records, and back again one
    ∷ goes_there (summed letters 0 (1 ∷ []) (firsts_to 1) 49422 39937) 2
    ∷ goes_back
    (summed S2 0 (1 ∷ []) (head_row 255 no_counts 0 0 ∷ []) 30111 30266 ++ summed S2 1 (1 ∷ []) (firsts_to 1) 49679 39433)
    1
    -- the head is no record
    ∷ shows (summed S2 0 no_counts (head_row 3 no_counts 0 0 ∷ []) 29858 35059)
    (head_line 7 3 0 ++ (seen_line no_counts ++ tree_lines (table_bytes empty_tree)))
    ∷ []

-- all of them
unfoldable pub table : Bool
table = all_right calls && all_right whole
