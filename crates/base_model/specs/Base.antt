-- The lent base of 43,032 bytes: the list of units, and what the folded records have left. Its bytes, and when it is sound.
--   0 the list, bit u for unit u; 1 zero; 2-3 how many entries; 4-5 how many asides; 6-7 zero; 8-23 the base vector; from 24 on 512
--   rows of 72 bytes for entries, as in the tree table with byte 1 zero; from 36,888 on 512 rows of 12 bytes for asides. Rows that are
--   not used are zero.
-- Document 02, K10: its layout and length are the team's.
-- Assumes nothing.
use Rattle.std.specs.Prelude.{ℕ, zero, suc, ◌+◌, ◌-◌, ◌*◌, ◌/◌, ◌%◌, Bool, true, false, cond, not, ◌&&◌, ◌||◌, List, [], ◌∷◌, ◌++◌, ltb, leb, eqb, get_or, length, replicate}
use Rattle.model.specs.Lengths.{base_places}
use Rattle.model.specs.Bytes.{word, two, blank, part, padded}
use Rattle.model.specs.Vector.{vector_at, vector_bytes}
use Rattle.model.specs.Date.{is_date}
use Rattle.model.specs.Record.{root, is_label}
use Rattle.model.specs.Log.{no_counts, vector_on, all_to, records_of, sound_log_on}
use Rattle.model.specs.Replay.{Entry, Aside, Tree, empty_tree, same_label, replay_from}
use Rattle.model.specs.Table.{entry_rows, aside_rows, entry_in, aside_in}

-- ---- the list

-- the lowest n bits of m, the lowest first
unfoldable pub bits : ℕ → ℕ → List ℕ
bits zero m = []
bits (suc n) m = m % 2 ∷ bits n (m / 2)

-- the list m names the unit u [F125]
unfoldable pub is_listed : ℕ → ℕ → Bool
is_listed m u = eqb (get_or (bits 8 m) u 0) 1

-- the list m names each unit that the vector counts records of [F131]
unfoldable pub lists_all : ℕ → List ℕ → Bool
lists_all m v = all_to 8 (λ u. eqb (get_or v u 0) 0 || is_listed m u)

-- ---- what a base holds

-- the listed units, how many records of each unit are folded, and the tree and the asides that they left [F123]
pub record Base : Type 0 where
  pub list : ℕ
  pub vector : List ℕ
  pub tree : Tree

-- all eight are listed, and nothing is folded [F126]
abbrev pub fresh_base : Base
fresh_base = record { list = 255; vector = no_counts; tree = empty_tree }

-- the 43,032 bytes of a base; no dispute is written [F125] [F127]
unfoldable pub base_bytes : Base → List ℕ
base_bytes b =
    (b.list ∷ 0 ∷ two (length b.tree.entries))
    ++ (two (length b.tree.asides)
    ++ ((0 ∷ 0 ∷ [])
    ++ (vector_bytes b.vector ++ (padded 36864 (entry_rows [] b.tree.entries) ++ padded 6144 (aside_rows b.tree.asides)))))

-- the bytes after a start [F126]
unfoldable pub empty_base : List ℕ
empty_base = 255 ∷ replicate 43031 0

-- ---- reading

-- the entry in row i
unfoldable pub base_entry : List ℕ → ℕ → Entry
base_entry b i = entry_in b (24 + 72 * i)

-- the aside in row i
unfoldable pub base_aside : List ℕ → ℕ → Aside
base_aside b i = aside_in b (36888 + 12 * i)

-- the entries in the n rows from row i on
unfoldable pub base_entries : List ℕ → ℕ → ℕ → List Entry
base_entries b i zero = []
base_entries b i (suc n) = base_entry b i ∷ base_entries b (suc i) n

-- the asides in the n rows from row i on
unfoldable pub base_asides : List ℕ → ℕ → ℕ → List Aside
base_asides b i zero = []
base_asides b i (suc n) = base_aside b i ∷ base_asides b (suc i) n

-- the base vector
unfoldable pub base_vector : List ℕ → List ℕ
base_vector b = vector_at b 8

-- the tree in the rows
unfoldable pub base_tree : List ℕ → Tree
base_tree b = record { entries = base_entries b 0 (word b 2); asides = base_asides b 0 (word b 4) }

-- [F125]
unfoldable pub base_in : List ℕ → Base
base_in b = record { list = get_or b 0 0; vector = base_vector b; tree = base_tree b }

-- ---- the layout, row by row

-- an identity is named at a place: unit 0 to 7, a zero byte, a number of at least 1 and within the vector [F128]
unfoldable pub names_in : List ℕ → List ℕ → ℕ → Bool
names_in v b at =
    leb (get_or b at 0) 7
    && (eqb (get_or b (at + 1) 0) 0
    && (leb 1 (word b (at + 2)) && leb (word b (at + 2)) (get_or v (get_or b at 0) 0)))

-- zeros, or a named identity
unfoldable pub names_or_none : List ℕ → List ℕ → ℕ → Bool
names_or_none v b at = blank (part b at 4) || names_in v b at

-- kind 1 or 2, then three zeros
unfoldable pub row_kind_fits : List ℕ → ℕ → Bool
row_kind_fits b at = (eqb (get_or b at 0) 1 || eqb (get_or b at 0) 2) && (eqb (get_or b (at + 1) 0) 0 && eqb (word b (at + 2)) 0)

-- identity, folder, last contents record, last place record; only the folder may be the root
unfoldable pub row_names_fit : List ℕ → List ℕ → ℕ → Bool
row_names_fit v b at =
    names_in v b (at + 4) && (names_or_none v b (at + 8) && (names_in v b (at + 12) && names_in v b (at + 16)))

unfoldable pub row_date_fits : List ℕ → ℕ → Bool
row_date_fits b at = is_date (word b (at + 20)) (get_or b (at + 22) 0) (get_or b (at + 23) 0)

-- the mark of a folder is zero
unfoldable pub row_mark_fits : List ℕ → ℕ → Bool
row_mark_fits b at = eqb (get_or b at 0) 2 || blank (part b (at + 56) 16)

-- the row of an entry, 72 bytes at a place [F127]
unfoldable pub entry_fits : List ℕ → List ℕ → ℕ → Bool
entry_fits v b at =
    row_kind_fits b at && (row_names_fit v b at && (row_date_fits b at && (is_label (part b (at + 24) 32) && row_mark_fits b at)))

-- reason 12 to 18 or 25, state 1 or 2, then two zeros
unfoldable pub reason_fits : List ℕ → ℕ → Bool
reason_fits b at =
    ((leb 12 (get_or b (at + 4) 0) && leb (get_or b (at + 4) 0) 18) || eqb (get_or b (at + 4) 0) 25)
    && ((eqb (get_or b (at + 5) 0) 1 || eqb (get_or b (at + 5) 0) 2) && eqb (word b (at + 6)) 0)

-- the row of an aside, 12 bytes at a place; it may mark no entry [F127]
unfoldable pub aside_fits : List ℕ → List ℕ → ℕ → Bool
aside_fits v b at = names_in v b at && (reason_fits b at && names_or_none v b (at + 8))

unfoldable pub entry_row_fits : List ℕ → ℕ → Bool
entry_row_fits b i = entry_fits (base_vector b) b (24 + 72 * i)

unfoldable pub aside_row_fits : List ℕ → ℕ → Bool
aside_row_fits b i = aside_fits (base_vector b) b (36888 + 12 * i)

-- the zeros of the head, and the two counts
unfoldable pub base_head_fits : List ℕ → Bool
base_head_fits b = eqb (get_or b 1 0) 0 && (leb (word b 2) base_places && (leb (word b 4) base_places && eqb (word b 6) 0))

-- the rows behind n entries and m asides are zero
unfoldable pub rest_blank : List ℕ → ℕ → ℕ → Bool
rest_blank b n m = blank (part b (24 + 72 * n) (36864 - 72 * n)) && blank (part b (36888 + 12 * m) (6144 - 12 * m))

unfoldable pub rows_fit : List ℕ → ℕ → ℕ → Bool
rows_fit b n m = all_to n (entry_row_fits b) && (all_to m (aside_row_fits b) && rest_blank b n m)

-- ---- the tree

-- of the first i numbers the last that passes a test, and one; 0 for none
unfoldable pub last_to : (ℕ → Bool) → ℕ → ℕ
last_to p zero = 0
last_to p (suc i) = cond (p i) (suc i) (last_to p i)

-- of n entries, and asides behind them, the i-th identity
unfoldable pub id_at : List ℕ → ℕ → ℕ → ℕ
id_at b n i = cond (ltb i n) (base_entry b i).made (base_aside b (i - n)).who

unfoldable pub is_id : List ℕ → ℕ → ℕ → ℕ → Bool
is_id b n k j = eqb (id_at b n j) k

-- none before the i-th identity is the same
unfoldable pub id_new : List ℕ → ℕ → ℕ → Bool
id_new b n i = eqb (last_to (is_id b n (id_at b n i)) i) 0

-- two rows have one folder and one label
unfoldable pub one_name : List ℕ → ℕ → ℕ → Bool
one_name b i j =
    eqb (base_entry b j).inside (base_entry b i).inside && same_label (base_entry b j).label (base_entry b i).label

-- none of the rows before row i has its label in its folder
unfoldable pub name_new : List ℕ → ℕ → Bool
name_new b i = eqb (last_to (one_name b i) i) 0

-- one above the row of the entry k; 0 for none
unfoldable pub place_of : List ℕ → ℕ → ℕ → ℕ
place_of b n k = last_to (is_id b n k) n

-- a row, counted from 1 on, of kind 1
unfoldable pub is_folder_row : List ℕ → ℕ → Bool
is_folder_row b q = not (eqb q 0) && eqb (base_entry b (q - 1)).kind 1

-- from f the root is reached by at most s steps, each from an entry of kind 1 to its folder
unfoldable pub reaches : List ℕ → ℕ → ℕ → ℕ → Bool
reaches b n zero f = eqb f root
reaches b n (suc s) f =
    eqb f root || (is_folder_row b (place_of b n f) && reaches b n s (base_entry b (place_of b n f - 1)).inside)

unfoldable pub is_rooted : List ℕ → ℕ → ℕ → Bool
is_rooted b n i = reaches b n n (base_entry b i).inside

-- no identity twice, and each entry reaches the root through folders [F129]
unfoldable pub ids_fit : List ℕ → ℕ → ℕ → Bool
ids_fit b n m = all_to (n + m) (id_new b n) && all_to n (is_rooted b n)

-- ---- the whole

-- no label twice in a folder stands last [F129]
unfoldable pub sound_base : List ℕ → Bool
sound_base b =
    base_head_fits b
    && (rows_fit b (word b 2) (word b 4) && (ids_fit b (word b 2) (word b 4) && all_to (word b 2) (name_new b)))

-- the held vector: of each unit the records folded and those of the log [F130]
abbrev pub held_on : List ℕ → List ℕ → List ℕ
held_on log base = vector_on (base_vector base) (records_of log)

-- a sound base, a log sound behind its vector, and every unit that either counts is listed [F130] [F131]
unfoldable pub sound_state : List ℕ → List ℕ → Bool
sound_state log base =
    sound_base base && (sound_log_on (base_vector base) log && lists_all (get_or base 0 0) (held_on log base))

-- the tree of the records held: the replay starts from the base [F132]
unfoldable pub tree_of : List ℕ → List ℕ → Tree
tree_of log base = replay_from (base_tree base) (records_of log)
