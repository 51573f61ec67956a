-- Examples of lists and bases, as rows of one table.
-- Document 02, K10.
-- Assumes nothing.
use Rattle.std.specs.Prelude.{ℕ, Bool, true, false, ◌&&◌, List, [], ◌∷◌, ◌++◌, eqb, length, take, drop, replicate}
use Rattle.model.specs.Bytes.{two, same_bytes, padded, joined}
use Rattle.model.specs.Vector.{vector_bytes}
use Rattle.model.specs.Record.{Rec, root}
use Rattle.model.specs.Log.{vector_of, no_counts, all_to}
use Rattle.model.specs.Replay.{Entry, Aside, trim, replay}
use Rattle.model.specs.Table.{entry_row, entry_rows, aside_row, aside_rows}
use Rattle.model.specs.Examples.{◌·◌, makes_trace, same_flag, A, B}
use Rattle.base_model.specs.Base.{Base, is_listed, lists_all, base_bytes, aside_fits, entry_row_fits, base_head_fits, rest_blank, name_new, ids_fit, sound_base, sound_state, empty_base, base_in, tree_of}

pub data Row : Type 0 where
  -- a list, a unit, and whether it is listed
  has : ℕ → ℕ → Bool → Row
  -- a list, a vector, and whether each unit that it counts is listed
  has_all : ℕ → List ℕ → Bool → Row
  -- the first 24 bytes of a base, and whether they keep the layout
  heads : List ℕ → Bool → Row
  -- a base vector, rows of entries, and whether they are those of a sound base without asides
  bases : List ℕ → List (List ℕ) → Bool → Row
  -- a base vector, the row of an aside, and whether it keeps the layout
  notes : List ℕ → List ℕ → Bool → Row
  -- a place in the bytes of the base that records leave, and what stands there
  prints : List Rec → ℕ → List ℕ → Row
  -- a base vector, entries, asides, and whether no identity is there twice
  once : List ℕ → List Entry → List Aside → Bool → Row
  -- bytes that begin with those of a base, how many entries and asides it has, and whether the rows behind them are zero
  blanks : List ℕ → ℕ → ℕ → Bool → Row
  -- a list, a base vector, the records of a log, and whether the state without entries and asides is sound
  stands : ℕ → List ℕ → List Rec → Bool → Row
  -- bytes that begin with those of a base, and whether they are a sound one
  sounds : List ℕ → Bool → Row
  -- the first bytes of a base without records behind it, its list, and how many entries its tree has
  starts : List ℕ → ℕ → ℕ → Row

-- the base that the records p leave
unfoldable pub base_after : ℕ → List Rec → Base
base_after m p = record { list = m; vector = vector_of p; tree = trim (replay p) }

unfoldable pub head_bytes_of : List ℕ → ℕ → List ℕ
head_bytes_of v n = (255 ∷ 0 ∷ two n) ++ ((0 ∷ 0 ∷ 0 ∷ 0 ∷ []) ++ vector_bytes v)

-- the rows of entries alone, with no zeros behind them
unfoldable pub sound_rows : List ℕ → ℕ → Bool
sound_rows b n = base_head_fits b && (all_to n (entry_row_fits b) && (ids_fit b n 0 && all_to n (name_new b)))

-- an entry of the day and mark of its row
unfoldable pub entry : ℕ → ℕ → ℕ → List ℕ → ℕ → ℕ → Entry
entry o k f t c p =
    record { made = k; kind = o; inside = f; label = padded 32 t; contents = c; date = two 2025 ++ (3 ∷ 4 ∷ []); mark = replicate 16 0; placing = p }

-- its row, without a dispute
unfoldable pub row : ℕ → ℕ → ℕ → List ℕ → List ℕ
row o k f t = entry_row 0 (entry o k f t k k)

unfoldable pub standing : ℕ → ℕ → ℕ → Aside
standing k n m = record { who = k; reason = n; marked = m; is_open = true }

-- the first 24 bytes of a base without entries and asides
unfoldable pub head_of : ℕ → List ℕ → List ℕ
head_of m v = (m ∷ replicate 7 0) ++ vector_bytes v

unfoldable pub right : Row → Bool
right (has m u b) = same_flag (is_listed m u) b
right (has_all m v b) = same_flag (lists_all m v) b
right (heads b x) = same_flag (base_head_fits b) x
right (bases v rs x) = same_flag (sound_rows (head_bytes_of v (length rs) ++ joined rs) (length rs)) x
right (notes v b x) = same_flag (aside_fits v b 0) x
right (prints p i b) = same_bytes (take (length b) (drop i (base_bytes (base_after 7 p)))) b
right (once v es ss x) =
    same_flag (ids_fit (head_bytes_of v (length es) ++ (padded 36864 (entry_rows [] es) ++ aside_rows ss)) (length es) (length ss)) x
right (blanks b n m x) = same_flag (rest_blank b n m) x
right (stands m v l x) = same_flag (sound_state (joined l) (head_of m v)) x
right (sounds b x) = same_flag (sound_base b) x
right (starts b m n) = eqb (base_in b).list m && eqb (length (tree_of [] b).entries) n

unfoldable pub all_right : List Row → Bool
all_right [] = true
all_right (r ∷ l) = right r && all_right l

unfoldable pub table : List Row
table =
    -- bit u is unit u
    has 5 0 true
    ∷ has 5 1 false
    ∷ has 5 2 true
    ∷ has 128 7 true
    ∷ has 255 8 false
    ∷ has_all 5 (3 ∷ 0 ∷ 1 ∷ []) true
    ∷ has_all 5 (3 ∷ 1 ∷ 1 ∷ []) false
    ∷ has_all 0 no_counts true
    ∷ has_all 127 (replicate 8 1) false
    -- the head: 512 of each at most, zeros
    ∷ heads (7 ∷ 0 ∷ 0 ∷ 2 ∷ 0 ∷ 2 ∷ 0 ∷ 0 ∷ replicate 16 255) true
    ∷ heads (0 ∷ 0 ∷ 1 ∷ 2 ∷ 0 ∷ 2 ∷ 0 ∷ 0 ∷ replicate 16 0) false
    ∷ heads (0 ∷ 0 ∷ 0 ∷ 2 ∷ 1 ∷ 2 ∷ 0 ∷ 0 ∷ replicate 16 0) false
    ∷ heads (0 ∷ 1 ∷ replicate 22 0) false
    ∷ heads (0 ∷ 0 ∷ 0 ∷ 0 ∷ 0 ∷ 0 ∷ 0 ∷ 1 ∷ replicate 16 0) false
    -- a folder, a trace in it that stands before it, one beside them
    ∷ bases (3 ∷ []) (row 2 (0 · 2) (0 · 1) A ∷ row 1 (0 · 1) root A ∷ row 2 (0 · 3) root B ∷ []) true
    -- of no kind; disputed; the root as entry, contents or place record; a number above the vector; a unit above 7
    ∷ bases (3 ∷ []) (row 0 (0 · 1) root A ∷ []) false
    ∷ bases (3 ∷ []) (row 3 (0 · 1) root A ∷ []) false
    ∷ bases (3 ∷ []) (entry_row 1 (entry 1 (0 · 1) root A (0 · 1) (0 · 1)) ∷ []) false
    ∷ bases (3 ∷ []) (row 1 root root A ∷ []) false
    ∷ bases (3 ∷ []) (entry_row 0 (entry 2 (0 · 1) root A root (0 · 1)) ∷ []) false
    ∷ bases (3 ∷ []) (row 1 (0 · 4) root A ∷ []) false
    ∷ bases (3 ∷ []) (entry_row 0 (entry 2 (0 · 1) root A (0 · 4) (0 · 1)) ∷ []) false
    ∷ bases (3 ∷ []) (entry_row 0 (entry 2 (0 · 1) root A (0 · 1) (1 · 1)) ∷ []) false
    ∷ bases (3 ∷ []) ((2 ∷ 0 ∷ 0 ∷ 0 ∷ 8 ∷ drop 5 (row 2 (0 · 1) root A)) ∷ []) false
    -- a folder whose last contents record is another's: nothing forbids it
    ∷ bases (3 ∷ []) (entry_row 0 (entry 1 (0 · 1) root A (0 · 2) (0 · 3)) ∷ []) true
    -- no label; no date; a folder with a mark
    ∷ bases (3 ∷ []) (row 1 (0 · 1) root (32 ∷ []) ∷ []) false
    ∷ bases (3 ∷ []) ((take 23 (row 1 (0 · 1) root A) ++ (32 ∷ drop 24 (row 1 (0 · 1) root A))) ∷ []) false
    ∷ bases (3 ∷ []) ((take 71 (row 1 (0 · 1) root A) ++ (1 ∷ [])) ∷ []) false
    ∷ bases (3 ∷ []) ((take 71 (row 2 (0 · 1) root A) ++ (1 ∷ [])) ∷ []) true
    -- an identity twice; a label twice in a folder, in another case; the same label in two folders
    ∷ bases (3 ∷ []) (row 1 (0 · 1) root A ∷ row 2 (0 · 1) root B ∷ []) false
    ∷ bases (3 ∷ []) (row 1 (0 · 1) root A ∷ row 2 (0 · 2) root (97 ∷ []) ∷ []) false
    ∷ bases (3 ∷ []) (row 1 (0 · 1) root A ∷ row 2 (0 · 2) (0 · 1) (97 ∷ []) ∷ []) true
    -- an entry in a trace, in a folder that is not there, in itself; two folders in each other; three steps to the root
    ∷ bases (3 ∷ []) (row 2 (0 · 1) root A ∷ row 2 (0 · 2) (0 · 1) A ∷ []) false
    ∷ bases (3 ∷ []) (row 2 (0 · 1) (0 · 2) A ∷ []) false
    ∷ bases (3 ∷ []) (row 1 (0 · 1) (0 · 1) A ∷ []) false
    ∷ bases (3 ∷ []) (row 1 (0 · 1) (0 · 2) A ∷ row 1 (0 · 2) (0 · 1) A ∷ []) false
    ∷ bases (3 ∷ []) (row 1 (0 · 3) (0 · 2) A ∷ row 1 (0 · 2) (0 · 1) A ∷ row 1 (0 · 1) root A ∷ []) true
    -- asides: the reasons, the marked entry, which may be gone or none, the state
    ∷ notes (3 ∷ []) (aside_row (standing (0 · 3) 12 0)) true
    ∷ notes (3 ∷ []) (aside_row (standing (0 · 3) 25 (0 · 2))) true
    ∷ notes (3 ∷ []) (aside_row (standing (0 · 3) 11 0)) false
    ∷ notes (3 ∷ []) (aside_row (standing (0 · 3) 19 0)) false
    ∷ notes (3 ∷ []) (aside_row (standing (0 · 4) 12 0)) false
    ∷ notes (3 ∷ []) (aside_row (standing (0 · 3) 15 (1 · 1))) false
    ∷ notes (3 ∷ []) (0 ∷ 0 ∷ 3 ∷ 0 ∷ 12 ∷ 2 ∷ replicate 6 0) true
    ∷ notes (3 ∷ []) (0 ∷ 0 ∷ 3 ∷ 0 ∷ 12 ∷ 0 ∷ replicate 6 0) false
    ∷ notes (3 ∷ []) (0 ∷ 0 ∷ 3 ∷ 0 ∷ 12 ∷ 3 ∷ replicate 6 0) false
    ∷ notes (3 ∷ []) (0 ∷ 0 ∷ 3 ∷ 0 ∷ 12 ∷ 1 ∷ 1 ∷ replicate 5 0) false
    -- the bytes of a base: list, counts, vector; a disputed entry has no flag
    ∷ prints (makes_trace 4 (0 · 1) [] root A ∷ makes_trace 4 (1 · 1) [] root A ∷ []) 0
    ((7 ∷ 0 ∷ 1 ∷ 0 ∷ 1 ∷ 0 ∷ 0 ∷ 0 ∷ 1 ∷ 0 ∷ 1 ∷ 0 ∷ replicate 12 0) ++ (2 ∷ 0 ∷ 0 ∷ 0 ∷ 0 ∷ 0 ∷ 1 ∷ 0 ∷ []))
    ∷ prints (makes_trace 4 (0 · 1) [] root A ∷ makes_trace 4 (1 · 1) [] root A ∷ []) 36888
    ((1 ∷ 0 ∷ 1 ∷ 0 ∷ 15 ∷ 1 ∷ 0 ∷ 0 ∷ 0 ∷ 0 ∷ 1 ∷ 0 ∷ []) ++ replicate 6132 0)
    -- an identity in both tables; a row of entries, and one of asides, behind those counted
    ∷ once (3 ∷ []) (entry 1 (0 · 1) root A (0 · 1) (0 · 1) ∷ []) (standing (0 · 2) 12 0 ∷ []) true
    ∷ once (3 ∷ []) (entry 1 (0 · 1) root A (0 · 1) (0 · 1) ∷ []) (standing (0 · 1) 12 0 ∷ []) false
    ∷ once (3 ∷ []) [] (standing (0 · 1) 12 0 ∷ standing (0 · 1) 13 0 ∷ []) false
    ∷ blanks (replicate 95 1 ++ (0 ∷ [])) 1 0 true
    ∷ blanks (replicate 97 1) 1 0 false
    ∷ blanks (replicate 36900 0 ++ (1 ∷ [])) 0 1 false
    -- every unit with a record, folded or in the log, is listed, and the own unit need not be; what is left need not cover the base vector
    ∷ stands 0 no_counts [] true
    ∷ stands 2 (0 ∷ 1 ∷ replicate 6 0) [] true
    ∷ stands 1 (0 ∷ 1 ∷ replicate 6 0) [] false
    ∷ stands 1 no_counts (makes_trace 1 (0 · 1) [] root A ∷ []) true
    ∷ stands 2 no_counts (makes_trace 1 (0 · 1) [] root A ∷ []) false
    ∷ stands 3 (1 ∷ replicate 7 0) (makes_trace 1 (1 · 1) [] root A ∷ []) true
    -- the log goes on from the base vector
    ∷ stands 1 (1 ∷ replicate 7 0) (makes_trace 1 (0 · 2) (1 ∷ []) root A ∷ []) true
    ∷ stands 1 (1 ∷ replicate 7 0) (makes_trace 1 (0 · 1) [] root A ∷ []) false
    -- the byte behind a unit; the root as a place record; a folder that is no identity; bytes 2 and 3 of a row
    ∷ bases (3 ∷ []) ((take 5 (row 2 (0 · 1) root A) ++ (1 ∷ drop 6 (row 2 (0 · 1) root A))) ∷ []) false
    ∷ bases (3 ∷ []) (entry_row 0 (entry 2 (0 · 1) root A (0 · 1) root) ∷ []) false
    ∷ bases (3 ∷ []) (row 1 (0 · 1) root A ∷ (take 8 (row 2 (0 · 2) root B) ++ (8 ∷ 0 ∷ 0 ∷ 0 ∷ drop 12 (row 2 (0 · 2) root B))) ∷ []) false
    ∷ bases (3 ∷ []) ((take 3 (row 2 (0 · 1) root A) ++ (1 ∷ drop 4 (row 2 (0 · 1) root A))) ∷ []) false
    -- the limits of the reasons; byte 7 of an aside; an aside of the root
    ∷ notes (3 ∷ []) (aside_row (standing (0 · 3) 18 0)) true
    ∷ notes (3 ∷ []) (aside_row (standing (0 · 3) 24 0)) false
    ∷ notes (3 ∷ []) (aside_row (standing (0 · 3) 26 0)) false
    ∷ notes (3 ∷ []) (0 ∷ 0 ∷ 3 ∷ 0 ∷ 12 ∷ 1 ∷ 0 ∷ 1 ∷ replicate 4 0) false
    ∷ notes (3 ∷ []) (aside_row (standing root 12 0)) false
    -- rows that are used need not be zero, and the last byte of either part must be
    ∷ blanks (replicate 36888 0 ++ replicate 12 1) 0 1 true
    ∷ blanks (replicate 36887 0 ++ (1 ∷ [])) 0 0 false
    ∷ blanks (replicate 43031 0 ++ (1 ∷ [])) 0 0 false
    -- entries are counted before asides; byte 6 of the head
    ∷ prints (makes_trace 4 (0 · 1) [] root A ∷ makes_trace 4 (1 · 1) [] root B ∷ []) 2 (2 ∷ 0 ∷ 0 ∷ 0 ∷ [])
    ∷ heads (0 ∷ 0 ∷ 0 ∷ 0 ∷ 0 ∷ 0 ∷ 1 ∷ 0 ∷ replicate 16 0) false
    -- the parts of a sound base: head, rows, identities, labels
    ∷ sounds (head_bytes_of (3 ∷ replicate 7 0) 1 ++ row 1 (0 · 1) root A) true
    ∷ sounds (head_bytes_of (3 ∷ replicate 7 0) 1 ++ row 3 (0 · 1) root A) false
    ∷ sounds (head_bytes_of (3 ∷ replicate 7 0) 2 ++ (row 1 (0 · 1) root A ++ row 1 (0 · 1) root B)) false
    ∷ sounds (head_bytes_of (3 ∷ replicate 7 0) 2 ++ (row 1 (0 · 1) root A ++ row 1 (0 · 2) root A)) false
    ∷ sounds (head_bytes_of (3 ∷ replicate 7 0) 1 ++ row 1 (0 · 1) (0 · 2) A) false
    -- all of a label counts; a mark's first byte; month before day; a row behind those counted, at its last byte
    ∷ bases (3 ∷ []) (row 1 (0 · 1) root (65 ∷ 65 ∷ []) ∷ row 1 (0 · 2) root (65 ∷ 66 ∷ []) ∷ []) true
    ∷ bases (3 ∷ []) (row 1 (0 · 1) root (replicate 31 65 ++ (127 ∷ [])) ∷ []) false
    ∷ bases (3 ∷ []) ((take 56 (row 1 (0 · 1) root A) ++ (1 ∷ replicate 15 0)) ∷ []) false
    ∷ bases (3 ∷ []) ((take 22 (row 1 (0 · 1) root A) ++ (1 ∷ 31 ∷ drop 24 (row 1 (0 · 1) root A))) ∷ []) true
    ∷ blanks (replicate 36887 0 ++ (1 ∷ [])) 1 0 false
    -- at first all eight are listed; the tree of a state goes on from that of its base
    ∷ starts empty_base 255 0
    ∷ starts (head_bytes_of (3 ∷ replicate 7 0) 1 ++ row 1 (0 · 1) root A) 255 1
    ∷ []
