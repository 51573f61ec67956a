-- List and base as places of 80 bytes, called rows.
--   row 0 the head: 0 the list, 1 zero, 2-3 how many entries, 4-5 how many asides, 6-7 zero, 8-23 the base vector; then a row
--   for each entry, 72 bytes as in the base; then a row for six asides, 12 bytes each as in the base. Zeros behind.
-- Document 02, K11: its layout is the team's.
-- Assumes nothing.
use Rattle.std.specs.Prelude.{ℕ, zero, suc, ◌+◌, ◌-◌, ◌*◌, min, Bool, cond, ◌&&◌, List, [], ◌∷◌, leb, eqb, get_or, length, take, drop, replicate}
use Rattle.model.specs.Lengths.{base_size, base_places}
use Rattle.model.specs.Bytes.{word, blank, part, padded, put_at}
use Rattle.model.specs.Vector.{blocks_for}
use Rattle.model.specs.Record.{Rec}
use Rattle.model.specs.Log.{all_to}

-- ---- the rows of list and base

-- of e entries and a asides: the head, a row an entry, a row for six asides [F155]
unfoldable pub row_count : ℕ → ℕ → ℕ
row_count e a = suc (e + blocks_for a)

-- how many rows a head says
unfoldable pub rows_said : Rec → ℕ
rows_said r = row_count (word r 2) (word r 4)

-- where the bytes of row i stand in the base [F155]
unfoldable pub row_start : ℕ → ℕ → ℕ
row_start e i = cond (eqb i 0) 0 (cond (leb i e) (24 + 72 * (i - 1)) (36888 + 72 * (i - suc e)))

-- how many bytes row i has [F155]
unfoldable pub row_long : ℕ → ℕ → ℕ → ℕ
row_long e a i = cond (eqb i 0) 24 (cond (leb i e) 72 (min 72 (12 * a - 72 * (i - suc e))))

-- row i of a base, zeros behind its bytes [F155]
unfoldable pub base_row : List ℕ → ℕ → Rec
base_row b i = padded 80 (part b (row_start (word b 2) i) (row_long (word b 2) (word b 4) i))

-- the n rows from row i on
unfoldable pub base_rows_from : List ℕ → ℕ → ℕ → List Rec
base_rows_from b i zero = []
base_rows_from b i (suc n) = base_row b i ∷ base_rows_from b (suc i) n

-- the rows of a base [F155]
unfoldable pub base_rows : List ℕ → List Rec
base_rows b = base_rows_from b 0 (row_count (word b 2) (word b 4))

-- ---- the base that rows leave

-- what the first n rows of e entries and a asides leave
unfoldable pub base_to : List Rec → ℕ → ℕ → ℕ → List ℕ
base_to rows e a zero = replicate base_size 0
base_to rows e a (suc i) = put_at (base_to rows e a i) (row_start e i) (take (row_long e a i) (get_or rows i []))

-- the 43,032 bytes that rows leave [F158]
unfoldable pub base_from : List Rec → List ℕ
base_from rows = base_to rows (word (get_or rows 0 []) 2) (word (get_or rows 0 []) 4) (length rows)

-- zeros stand behind the bytes of row i
unfoldable pub tail_blank : List Rec → ℕ → ℕ → ℕ → Bool
tail_blank rows e a i = blank (drop (row_long e a i) (get_or rows i []))

-- of n rows of e entries and a asides: at most 512 of each, and zeros behind the bytes of each row [F160]
unfoldable pub rows_hold_for : List Rec → ℕ → ℕ → ℕ → Bool
rows_hold_for rows e a n = leb e base_places && (leb a base_places && all_to n (tail_blank rows e a))

-- rows keep their layout [F160]
unfoldable pub rows_hold : List Rec → Bool
rows_hold rows = rows_hold_for rows (word (get_or rows 0 []) 2) (word (get_or rows 0 []) 4) (length rows)
