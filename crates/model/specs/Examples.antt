-- The bench examples of document 01, and some of the same kind, as rows of one table.
-- Document 01, "Bench examples"; document 02, K1 to K3, K7 and K8.
-- Assumes nothing.
use Rattle.std.specs.Prelude.{ℕ, zero, suc, Bool, true, false, cond, not, ◌&&◌, ◌||◌, List, [], ◌∷◌, ◌++◌, leb, eqb, length, take, drop, replicate}
use Rattle.model.specs.Bytes.{two, same_bytes, padded, joined}
use Rattle.model.specs.Vector.{Compared, compare_of, comparison_of, handed_count, blocks_for, vector_bytes}
use Rattle.model.specs.Date.{is_date}
use Rattle.model.specs.Record.{Rec, identity, unit_of, number_of, root, has_stroke, well_formed}
use Rattle.model.specs.Log.{record_fault, sound_after, vector_of, no_counts, lacking}
use Rattle.model.specs.Replay.{Entry, Aside, Tree, label_key, replay, present_ones, is_disputed, trim}
use Rattle.model.specs.Table.{identity_bytes, entry_row, aside_row}
use Rattle.model.specs.Block.{body_bytes, archive_in, sender_in, vector_in}
use Rattle.model.specs.File.{Fault, fault, block_count, header_of, block_at}
use Rattle.model.specs.Merge.{Merged, merged, union, records_clash, unless_any, merge_files, merge_of}
use Rattle.model.specs.Listing.{decimal, label_text, head_line, seen_line, aside_line}

infix 90 ◌·◌
-- the identity unit.number
abbrev pub ◌·◌ : ℕ → ℕ → ℕ
u · n = identity u n

-- ---- a record from its fields

pub record Fields : Type 0 where
  pub self : ℕ
  pub does : ℕ  -- the operation
  pub saw : List ℕ  -- seen of the units 0, 1 and on; 0 of the rest
  pub object : ℕ
  pub folder : ℕ
  pub year : ℕ
  pub month : ℕ
  pub day : ℕ
  pub text : List ℕ  -- the label without its zeros
  pub mark : List ℕ  -- the mark without its last zeros

unfoldable pub encode : Fields → Rec
encode f =
    (unit_of f.self ∷ f.does ∷ two (number_of f.self))
    ++ (vector_bytes f.saw
    ++ (identity_bytes f.object
    ++ (identity_bytes f.folder
    ++ (two f.year ++ ((f.month ∷ f.day ∷ []) ++ (padded 32 f.text ++ padded 16 f.mark))))))

-- a record of a day in March 2025
unfoldable pub march : ℕ → ℕ → ℕ → List ℕ → ℕ → ℕ → List ℕ → List ℕ → Rec
march day o k s object folder t m =
    encode (record {
      self = k;
      does = o;
      saw = s;
      object = object;
      folder = folder;
      year = 2025;
      month = 3;
      day = day;
      text = t;
      mark = m;
    })

-- each is given its day, identity and seen; a make then its folder and label, the others their object
unfoldable pub makes_folder : ℕ → ℕ → List ℕ → ℕ → List ℕ → Rec
makes_folder day k s f t = march day 1 k s root f t []

unfoldable pub makes_trace : ℕ → ℕ → List ℕ → ℕ → List ℕ → Rec
makes_trace day k s f t = march day 2 k s root f t (replicate 16 k)

unfoldable pub stores : ℕ → ℕ → List ℕ → ℕ → Rec
stores day k s o = march day 3 k s o root [] (replicate 16 k)

unfoldable pub removes : ℕ → ℕ → List ℕ → ℕ → Rec
removes day k s o = march day 4 k s o root [] []

unfoldable pub renames : ℕ → ℕ → List ℕ → ℕ → List ℕ → Rec
renames day k s o t = march day 5 k s o root t []

unfoldable pub settles : ℕ → ℕ → List ℕ → ℕ → Rec
settles day k s o = march day 6 k s o root [] []

-- a move is given its object, new folder and label
unfoldable pub moves : ℕ → ℕ → List ℕ → ℕ → ℕ → List ℕ → Rec
moves day k s o f t = march day 7 k s o f t []

-- ---- what a tree shows

-- an entry: its identity, label, last contents record and last place record, and whether it is disputed
abbrev pub Shown : Type 0
Shown = ℕ × List ℕ × ℕ × ℕ × Bool

-- an aside: its record, reason and marked entry, and whether it is open
abbrev pub Standing : Type 0
Standing = ℕ × ℕ × ℕ × Bool

unfoldable pub same_flag : Bool → Bool → Bool
same_flag true b = b
same_flag false b = not b

unfoldable pub shows_entries : List Aside → List Entry → List Shown → Bool
shows_entries s [] [] = true
shows_entries s [] (x ∷ xs) = false
shows_entries s (e ∷ l) [] = false
shows_entries s (e ∷ l) (x ∷ xs) =
    (eqb e.made x.0
    && (same_bytes e.label (padded 32 x.1)
    && (eqb e.contents x.2 && (eqb e.placing x.3 && same_flag (is_disputed e.made s) x.4))))
    && shows_entries s l xs

unfoldable pub shows_asides : List Aside → List Standing → Bool
shows_asides [] [] = true
shows_asides [] (x ∷ xs) = false
shows_asides (a ∷ l) [] = false
shows_asides (a ∷ l) (x ∷ xs) =
    (eqb a.who x.0 && (eqb a.reason x.1 && (eqb a.marked x.2 && same_flag a.is_open x.3)))
    && shows_asides l xs

-- the same in every field
abbrev pub same_entry : Entry → Entry → Bool
same_entry e x =
    eqb e.made x.made
    && (eqb e.kind x.kind
    && (eqb e.inside x.inside
    && (same_bytes e.label x.label
    && (eqb e.contents x.contents
    && (same_bytes e.date x.date && (same_bytes e.mark x.mark && eqb e.placing x.placing))))))

-- these entries in every field, and whether each is disputed
abbrev pub shows_whole : List Aside → List Entry → List (Entry × Bool) → Bool
shows_whole s [] [] = true
shows_whole s [] (x ∷ xs) = false
shows_whole s (e ∷ l) [] = false
shows_whole s (e ∷ l) (x ∷ xs) = (same_entry e x.0 && same_flag (is_disputed e.made s) x.1) && shows_whole s l xs

-- the records are a sound log, and their replay shows these entries and asides
unfoldable pub shows : List Rec → List Shown → List Standing → Bool
shows l es ss =
    sound_after no_counts [] l
    && (shows_entries (replay l).asides (present_ones (replay l).entries) es && shows_asides (replay l).asides ss)

-- ---- the rows

pub data Row : Type 0 where
  -- two vectors, and the answer of their comparison
  vectors : List ℕ → List ℕ → ℕ → Row
  -- two vectors, the answer of their comparison, how many records the first lacks, and how many the second
  behind : List ℕ → List ℕ → ℕ → ℕ → ℕ → Row
  -- the records of a log, an asked vector, and how many records the block has that is handed out
  hands : List Rec → List ℕ → ℕ → Row
  -- how many records are lacked, and how many blocks bring them
  brings : ℕ → ℕ → Row
  -- year, month, day, and whether this is a date
  date : ℕ → ℕ → ℕ → Bool → Row
  -- a record, and whether it is well formed
  formed : Rec → Bool → Row
  -- a label, and what of it counts
  counts : List ℕ → List ℕ → Row
  -- the records of a log, and the entries and asides that it shows
  tree : List Rec → List Shown → List Standing → Row
  -- the records of a log, the entries that it shows in every field, each with whether it is disputed, and its asides
  whole : List Rec → List (Entry × Bool) → List Standing → Row
  -- how many records, and how many blocks their file has
  blocks : ℕ → ℕ → Row
  -- the records of a file before a record, last first, that record, and its fault
  faulty : List Rec → Rec → ℕ → Row
  -- how many records of each unit come before, the records behind them, last first, a record, and its fault
  follows : List ℕ → List Rec → Rec → ℕ → Row
  -- a text of the listing, and its bytes
  prints : List ℕ → List ℕ → Row
  -- the records of two files, and those of both, whichever file comes first
  unites : List Rec → List Rec → List Rec → Row
  -- records of a first file, how many it has in all, those of a second, and the fault of the two
  clashes : List Rec → ℕ → List Rec → Fault → Row
  -- the archive and the records of a file, of another, and the fault of the two
  parts : ℕ → List Rec → ℕ → List Rec → Fault → Row
  -- a fault of the first file, of the second, of the two together; the one that is answered, and the file at fault
  blames : Fault → Fault → Fault → Fault → ℕ → Row
  -- how many bytes are lent for the log and the file, and the number and file at fault when the first file is of no bytes
  lends : ℕ → ℕ → ℕ → ℕ → Row
  -- unit and records of a file of archive 7, of another, and unit and records of the file of both
  joins : ℕ → List Rec → ℕ → List Rec → ℕ → List Rec → Row
  -- two files, the fault that is answered, and the file at fault
  checks : List ℕ → List ℕ → Fault → ℕ → Row
  -- a text, and whether it has a stroke
  strokes : List ℕ → Bool → Row
  -- the records of a log, and how many entries their tree has without removed ones
  leaves : List Rec → ℕ → Row

unfoldable pub says : Compared → ℕ → ℕ → ℕ → Bool
says c n a b = eqb c.answer n && (eqb c.first a && eqb c.second b)

-- the same records in the same order
unfoldable pub same_records : List Rec → List Rec → Bool
same_records [] [] = true
same_records [] (s ∷ m) = false
same_records (r ∷ l) [] = false
same_records (r ∷ l) (s ∷ m) = same_bytes r s && same_records l m

unfoldable pub same_fault : Fault → Fault → Bool
same_fault a b = eqb a.number b.number && eqb a.place b.place

-- a file of one block or two, its sums left out
unfoldable pub unsealed : ℕ → ℕ → List Rec → List ℕ
unsealed archive u l =
    padded 512 (body_bytes (header_of archive u 0 (vector_of l)) (take 6 l))
    ++ cond (leb (length l) 6) [] (padded 512 (body_bytes (header_of archive u 1 (vector_of l)) (drop 6 l)))

-- the labels "A", "B" and "C"
abbrev pub A : List ℕ
A = 65 ∷ []

abbrev pub B : List ℕ
B = 66 ∷ []

abbrev pub C : List ℕ
C = 67 ∷ []

-- the answer names this fault and this file
unfoldable pub answers : Merged → Fault → ℕ → Bool
answers m e w = same_fault (fault m.number m.place) e && eqb m.which w

-- and a refusal leaves the log and the file that were lent, "A" and "B", and counts no block
unfoldable pub keeps : Merged → Fault → ℕ → Bool
keeps m e w = answers m e w && (eqb e.number 0 || (same_bytes m.log A && (same_bytes m.lent B && eqb m.blocks 0)))

-- one block is written, the log begins with these records, and log and file are as long as they are to be
unfoldable pub fills : Merged → List Rec → Bool
fills m l =
    eqb m.blocks 1
    && (same_bytes (take 480 m.log) (padded 480 (joined l)) && (eqb (length m.log) 40960 && eqb (length m.lent) 44032))

-- the file written says this of itself
unfoldable pub heads : List ℕ → ℕ → ℕ → List ℕ → Bool
heads f a u v = eqb (archive_in (block_at f 0)) a && (eqb (sender_in (block_at f 0)) u && same_bytes (vector_in (block_at f 0)) v)

unfoldable pub right : Row → Bool
right (vectors a b n) = eqb (compare_of a b) n
right (behind a b n f s) = says (comparison_of a b) n f s
right (hands l v n) = sound_after no_counts [] l && (eqb (handed_count v (vector_of l)) n && eqb (length (take 6 (lacking v l))) n)
right (brings n k) = eqb (blocks_for n) k
right (whole l es ss) =
    sound_after no_counts [] l
    && (shows_whole (replay l).asides (present_ones (replay l).entries) es && shows_asides (replay l).asides ss)
right (date y m d b) = same_flag (is_date y m d) b
right (formed r b) = same_flag (well_formed r) b
right (strokes t b) = same_flag (has_stroke t) b
right (leaves l n) = eqb (length (trim (replay l)).entries) n
right (counts t k) = same_bytes (label_key t) k
right (tree l es ss) = shows l es ss
right (blocks n k) = eqb (block_count n) k
right (faulty l r n) = eqb (record_fault no_counts l r) n
right (follows v l r n) = eqb (record_fault v l r) n
right (prints t b) = same_bytes t b
right (unites l m u) =
    sound_after no_counts [] l && (sound_after no_counts [] m && (sound_after no_counts [] u && (same_records (union l m) u && same_records (union m l) u)))
right (clashes l n m e) = sound_after no_counts [] l && (sound_after no_counts [] m && same_fault (records_clash l n m) e)
right (parts a l b m e) =
    keeps (merge_files (fault 0 0) (fault 0 0) (unsealed a 0 l) (unsealed b 1 m) A B) e (cond (eqb e.number 0) 0 2)
right (blames a b c e w) = keeps (unless_any a b c A B (merged 0 0 0 1 C C)) e w
right (lends n k e w) = answers (merge_of [] (replicate 512 0) (replicate n 0) (replicate k 0)) (fault e 0) w
right (joins u l w m sender all) =
    heads (merge_files (fault 0 0) (fault 0 0) (unsealed 7 u l) (unsealed 7 w m) A B).lent 7 sender (vector_of all)
    && fills (merge_files (fault 0 0) (fault 0 0) (unsealed 7 u l) (unsealed 7 w m) A B) all
right (checks f g e w) = answers (merge_of f g (replicate 40960 0) (replicate 44032 0)) e w

unfoldable pub all_right : List Row → Bool
all_right [] = true
all_right (r ∷ l) = right r && all_right l

-- ---- the table

-- 0.1, 1.1 and on, of n units: traces "A"
unfoldable pub firsts_to : ℕ → List Rec
firsts_to zero = []
firsts_to (suc n) = firsts_to n ++ (makes_trace 3 (n · 1) [] root A ∷ [])

-- the rows that document 01 stars
unfoldable pub starred : List Row
starred =
    vectors (2 ∷ 1 ∷ 1 ∷ 0 ∷ 0 ∷ 0 ∷ 0 ∷ 0 ∷ []) (1 ∷ 2 ∷ 1 ∷ 0 ∷ 0 ∷ 0 ∷ 0 ∷ 0 ∷ []) 3
    ∷ vectors (2 ∷ 2 ∷ 2 ∷ 0 ∷ 0 ∷ 0 ∷ 0 ∷ 0 ∷ []) (2 ∷ 2 ∷ 2 ∷ 0 ∷ 0 ∷ 0 ∷ 0 ∷ 0 ∷ []) 0
    ∷ vectors (2 ∷ 1 ∷ 0 ∷ 0 ∷ 0 ∷ 0 ∷ 0 ∷ 0 ∷ []) (1 ∷ 1 ∷ 0 ∷ 0 ∷ 0 ∷ 0 ∷ 0 ∷ 0 ∷ []) 1
    ∷ date 2000 2 29 true
    ∷ date 2100 2 29 false
    -- after 0.1 makes a trace: stores 0.2 and 1.1
    ∷ tree (makes_trace 3 (0 · 1) [] root A ∷ stores 4 (0 · 2) (1 ∷ []) (0 · 1) ∷ stores 5 (1 · 1) (1 ∷ []) (0 · 1) ∷ [])
    ((0 · 1, A, 0 · 2, 0 · 1, true) ∷ [])
    ((1 · 1, 17, 0 · 1, true) ∷ [])
    -- 0.2 store, 1.1 remove: the trace stays, with the date and the mark of 0.2
    ∷ whole (makes_trace 3 (0 · 1) [] root A ∷ stores 4 (0 · 2) (1 ∷ []) (0 · 1) ∷ removes 5 (1 · 1) (1 ∷ []) (0 · 1) ∷ [])
    ((record { made = 0 · 1; kind = 2; inside = root; label = padded 32 A; contents = 0 · 2; date = two 2025 ++ (3 ∷ 4 ∷ []); mark = replicate 16 (0 · 2); placing = 0 · 1 }, true) ∷ [])
    ((1 · 1, 17, 0 · 1, true) ∷ [])
    -- 0.2 remove, 1.1 store
    ∷ tree (makes_trace 3 (0 · 1) [] root A ∷ removes 4 (0 · 2) (1 ∷ []) (0 · 1) ∷ stores 5 (1 · 1) (1 ∷ []) (0 · 1) ∷ [])
    []
    ((1 · 1, 12, 0, true) ∷ [])
    -- after 0.1 makes a folder: 0.2 removes it, 1.1 makes inside
    ∷ tree (makes_folder 3 (0 · 1) [] root A ∷ removes 4 (0 · 2) (1 ∷ []) (0 · 1) ∷ makes_trace 5 (1 · 1) (1 ∷ []) (0 · 1) B ∷ [])
    []
    ((1 · 1, 13, 0, true) ∷ [])
    -- 0.2 makes inside, 1.1 removes it
    ∷ tree (makes_folder 3 (0 · 1) [] root A ∷ makes_trace 4 (0 · 2) (1 ∷ []) (0 · 1) B ∷ removes 5 (1 · 1) (1 ∷ []) (0 · 1) ∷ [])
    ((0 · 1, A, 0 · 1, 0 · 1, true) ∷ (0 · 2, B, 0 · 2, 0 · 2, false) ∷ [])
    ((1 · 1, 16, 0 · 1, true) ∷ [])
    -- unit 1 alone made 1.1 "A"; it takes 0.1 "A", of a later day, and now 1.1 stands aside
    ∷ tree (makes_trace 3 (1 · 1) [] root A ∷ []) ((1 · 1, A, 1 · 1, 1 · 1, false) ∷ []) []
    ∷ []

-- more of the rules, one by one
unfoldable pub further : List Row
further =
    -- each lacks what the other has more of a unit, and a lead of one unit makes up for nothing
    behind (2 ∷ 1 ∷ 0 ∷ 0 ∷ 0 ∷ 0 ∷ 0 ∷ 0 ∷ []) (1 ∷ 4 ∷ 0 ∷ 0 ∷ 0 ∷ 0 ∷ 0 ∷ 2 ∷ []) 3 5 1
    ∷ behind (1 ∷ 4 ∷ 0 ∷ 0 ∷ 0 ∷ 0 ∷ 0 ∷ 2 ∷ []) (2 ∷ 1 ∷ 0 ∷ 0 ∷ 0 ∷ 0 ∷ 0 ∷ 0 ∷ []) 3 1 5
    ∷ behind (3 ∷ 1 ∷ 0 ∷ 0 ∷ 0 ∷ 0 ∷ 0 ∷ 0 ∷ []) (1 ∷ 1 ∷ 0 ∷ 0 ∷ 0 ∷ 0 ∷ 0 ∷ 0 ∷ []) 1 0 2
    ∷ behind (2 ∷ 2 ∷ 2 ∷ 0 ∷ 0 ∷ 0 ∷ 0 ∷ 0 ∷ []) (2 ∷ 2 ∷ 2 ∷ 0 ∷ 0 ∷ 0 ∷ 0 ∷ 0 ∷ []) 0 0 0
    -- the greatest distance: more than 16 bits hold
    ∷ behind (replicate 8 0) (replicate 8 65535) 2 524280 0
    ∷ behind (replicate 8 65535) (replicate 8 0) 1 0 524280
    -- a block for a vector that lacks one of unit 0 and is ahead of unit 1; for one that lacks nothing; for one that lacks seven
    ∷ hands (makes_trace 3 (0 · 1) [] root A ∷ stores 4 (0 · 2) (1 ∷ []) (0 · 1) ∷ []) (1 ∷ 5 ∷ 0 ∷ 0 ∷ 0 ∷ 0 ∷ 0 ∷ 0 ∷ []) 1
    ∷ hands (makes_trace 3 (0 · 1) [] root A ∷ []) (1 ∷ 0 ∷ 0 ∷ 0 ∷ 0 ∷ 0 ∷ 0 ∷ 0 ∷ []) 0
    ∷ hands (makes_trace 3 (7 · 1) [] root A ∷ []) (replicate 8 0) 1
    ∷ hands
    (makes_trace 3 (0 · 1) [] root A
    ∷ makes_trace 3 (1 · 1) [] root A
    ∷ makes_trace 3 (2 · 1) [] root A
    ∷ makes_trace 3 (3 · 1) [] root A
    ∷ makes_trace 3 (4 · 1) [] root A
    ∷ makes_trace 3 (5 · 1) [] root A
    ∷ makes_trace 3 (6 · 1) [] root A
    ∷ [])
    (replicate 8 0)
    6
    ∷ brings 0 0
    ∷ brings 1 1
    ∷ brings 6 1
    ∷ brings 7 2
    ∷ brings 512 86
    ∷ date 1989 12 31 false
    ∷ date 1990 1 1 true
    ∷ date 2199 12 31 true
    ∷ date 2200 1 1 false
    ∷ date 2024 2 29 true
    ∷ date 2023 2 29 false
    ∷ date 2025 4 31 false
    ∷ date 2025 13 1 false
    -- 512 records: 86 blocks; none: one block
    ∷ blocks 512 86
    ∷ blocks 6 1
    ∷ blocks 7 2
    ∷ blocks 0 1
    -- a label of 32 bytes; of 33 it is no record
    ∷ formed (march 3 1 (0 · 1) [] root root (replicate 32 65) []) true
    ∷ formed (march 3 1 (0 · 1) [] root root (replicate 32 65) A) false
    -- no label, a label with a space last, with a space first, with the byte 7F
    ∷ formed (march 3 1 (0 · 1) [] root root [] []) false
    ∷ formed (march 3 1 (0 · 1) [] root root (65 ∷ 32 ∷ []) []) false
    ∷ formed (march 3 1 (0 · 1) [] root root (32 ∷ 65 ∷ []) []) false
    ∷ formed (march 3 1 (0 · 1) [] root root (65 ∷ 127 ∷ []) []) false
    -- a label and a mark that are not used
    ∷ formed (march 3 4 (0 · 2) (1 ∷ []) (0 · 1) root A []) false
    ∷ formed (march 3 4 (0 · 2) (1 ∷ []) (0 · 1) root [] A) false
    -- no operation 8, nor 0
    ∷ formed (march 3 8 (0 · 2) (1 ∷ []) (0 · 1) root [] []) false
    -- a move to the root and to a folder; without a label, with a mark, to a folder that was not seen
    ∷ formed (moves 3 (0 · 2) (1 ∷ []) (0 · 1) root A) true
    ∷ formed (moves 3 (0 · 3) (2 ∷ []) (0 · 1) (0 · 2) A) true
    ∷ formed (moves 3 (0 · 2) (1 ∷ []) (0 · 1) root []) false
    ∷ formed (march 3 7 (0 · 2) (1 ∷ []) (0 · 1) root A (replicate 16 1)) false
    ∷ formed (moves 3 (0 · 2) (1 ∷ []) (0 · 1) (1 · 1) A) false
    -- a move does not name the root as object, and 1.0 is no folder; a rename and a settle name no folder; no operation 8
    ∷ formed (moves 3 (0 · 2) (1 ∷ []) root root A) false
    ∷ formed (moves 3 (0 · 2) (1 ∷ []) (0 · 1) (1 · 0) A) false
    ∷ formed (march 3 5 (0 · 2) (1 ∷ []) (0 · 1) (0 · 1) A []) false
    ∷ formed (march 3 6 (0 · 2) (1 ∷ []) (0 · 1) (0 · 1) [] []) false
    ∷ formed (march 3 8 (0 · 2) (1 ∷ []) (0 · 1) root A []) false
    ∷ formed (march 3 0 (0 · 1) [] root root A []) false
    -- a record does not name itself, and not the root as object
    ∷ formed (stores 3 (0 · 2) (1 ∷ []) (0 · 2)) false
    ∷ formed (removes 3 (0 · 2) (1 ∷ []) root) false
    -- the listing of document 01: a folder, and two traces of one label in it
    ∷ tree (makes_folder 3 (0 · 1) [] root A ∷ makes_trace 4 (0 · 2) (1 ∷ []) (0 · 1) B ∷ makes_trace 5 (1 · 1) (1 ∷ []) (0 · 1) B ∷ [])
    ((0 · 1, A, 0 · 1, 0 · 1, false) ∷ (0 · 2, B, 0 · 2, 0 · 2, true) ∷ [])
    ((1 · 1, 15, 0 · 2, true) ∷ [])
    -- a make in a trace, and a store into a folder
    ∷ tree (makes_trace 3 (0 · 1) [] root A ∷ makes_folder 3 (0 · 2) (1 ∷ []) (0 · 1) B ∷ [])
    ((0 · 1, A, 0 · 1, 0 · 1, true) ∷ [])
    ((0 · 2, 14, 0 · 1, true) ∷ [])
    ∷ tree (makes_folder 3 (0 · 1) [] root A ∷ stores 3 (0 · 2) (1 ∷ []) (0 · 1) ∷ [])
    ((0 · 1, A, 0 · 1, 0 · 1, true) ∷ [])
    ((0 · 2, 14, 0 · 1, true) ∷ [])
    -- a rename, and a make under the label that it left
    ∷ tree (makes_trace 3 (0 · 1) [] root A ∷ renames 3 (0 · 2) (1 ∷ []) (0 · 1) B ∷ makes_trace 3 (0 · 3) (2 ∷ []) root A ∷ [])
    ((0 · 1, B, 0 · 1, 0 · 2, false) ∷ (0 · 3, A, 0 · 3, 0 · 3, false) ∷ [])
    []
    -- capitals count as small letters, from A to Z, and no other byte changes
    ∷ counts (65 ∷ 90 ∷ 64 ∷ 91 ∷ 95 ∷ 96 ∷ 123 ∷ 97 ∷ 122 ∷ 48 ∷ 0 ∷ []) (97 ∷ 122 ∷ 64 ∷ 91 ∷ 95 ∷ 96 ∷ 123 ∷ 97 ∷ 122 ∷ 48 ∷ 0 ∷ [])
    ∷ counts (replicate 32 77) (replicate 32 109)
    ∷ counts (92 ∷ 93 ∷ 94 ∷ 124 ∷ 125 ∷ 126 ∷ []) (92 ∷ 93 ∷ 94 ∷ 124 ∷ 125 ∷ 126 ∷ [])
    ∷ counts (192 ∷ 222 ∷ 255 ∷ []) (192 ∷ 222 ∷ 255 ∷ [])
    -- a rename to the entry's own label, in the same bytes or in small letters, fits and is the last place record
    ∷ tree (makes_folder 3 (0 · 1) [] root A ∷ renames 3 (0 · 2) (1 ∷ []) (0 · 1) A ∷ renames 3 (1 · 1) (1 ∷ []) (0 · 1) B ∷ [])
    ((0 · 1, A, 0 · 1, 0 · 2, true) ∷ [])
    ((1 · 1, 17, 0 · 1, true) ∷ [])
    ∷ tree (makes_folder 3 (0 · 1) [] root A ∷ renames 3 (0 · 2) (1 ∷ []) (0 · 1) (97 ∷ []) ∷ renames 3 (1 · 1) (1 ∷ []) (0 · 1) B ∷ [])
    ((0 · 1, 97 ∷ [], 0 · 1, 0 · 2, true) ∷ [])
    ((1 · 1, 17, 0 · 1, true) ∷ [])
    ∷ tree (makes_trace 3 (0 · 1) [] root A ∷ renames 3 (0 · 2) (1 ∷ []) (0 · 1) (97 ∷ []) ∷ removes 3 (1 · 1) (1 ∷ []) (0 · 1) ∷ [])
    ((0 · 1, 97 ∷ [], 0 · 1, 0 · 2, true) ∷ [])
    ((1 · 1, 17, 0 · 1, true) ∷ [])
    -- capitals and small letters are the same from A to Z, and not the signs around them
    ∷ tree (makes_trace 3 (0 · 1) [] root A ∷ makes_trace 3 (0 · 2) (1 ∷ []) root (97 ∷ []) ∷ makes_trace 3 (0 · 3) (2 ∷ []) root (122 ∷ []) ∷ makes_trace 3 (0 · 4) (3 ∷ []) root (90 ∷ []) ∷ [])
    ((0 · 1, A, 0 · 1, 0 · 1, true) ∷ (0 · 3, 122 ∷ [], 0 · 3, 0 · 3, true) ∷ [])
    ((0 · 2, 15, 0 · 1, true) ∷ (0 · 4, 15, 0 · 3, true) ∷ [])
    ∷ tree (makes_trace 3 (0 · 1) [] root (91 ∷ []) ∷ makes_trace 3 (0 · 2) (1 ∷ []) root (123 ∷ []) ∷ makes_trace 3 (0 · 3) (2 ∷ []) root (64 ∷ []) ∷ makes_trace 3 (0 · 4) (3 ∷ []) root (96 ∷ []) ∷ [])
    ((0 · 1, 91 ∷ [], 0 · 1, 0 · 1, false) ∷ (0 · 2, 123 ∷ [], 0 · 2, 0 · 2, false) ∷ (0 · 3, 64 ∷ [], 0 · 3, 0 · 3, false) ∷ (0 · 4, 96 ∷ [], 0 · 4, 0 · 4, false) ∷ [])
    []
    -- a folder's own label does not count in it, and a make there leaves no holder out
    ∷ tree (makes_folder 3 (0 · 1) [] root A ∷ makes_trace 3 (0 · 2) (1 ∷ []) (0 · 1) (97 ∷ []) ∷ makes_trace 3 (0 · 3) (2 ∷ []) (0 · 1) A ∷ [])
    ((0 · 1, A, 0 · 1, 0 · 1, false) ∷ (0 · 2, 97 ∷ [], 0 · 2, 0 · 2, true) ∷ [])
    ((0 · 3, 15, 0 · 2, true) ∷ [])
    -- a rename to another entry's label, in another case
    ∷ tree (makes_trace 3 (0 · 1) [] root A ∷ makes_trace 3 (0 · 2) (1 ∷ []) root B ∷ renames 3 (0 · 3) (2 ∷ []) (0 · 2) (97 ∷ []) ∷ [])
    ((0 · 1, A, 0 · 1, 0 · 1, true) ∷ (0 · 2, B, 0 · 2, 0 · 2, false) ∷ [])
    ((0 · 3, 15, 0 · 1, true) ∷ [])
    -- renamed, stored and renamed again, the object is no holder; 15 marks the holder, not its last records
    ∷ tree (makes_trace 3 (0 · 1) [] root A ∷ renames 3 (0 · 2) (1 ∷ []) (0 · 1) B ∷ stores 3 (0 · 3) (2 ∷ []) (0 · 1) ∷ renames 3 (0 · 4) (3 ∷ []) (0 · 1) (98 ∷ []) ∷ makes_trace 3 (0 · 5) (4 ∷ []) root B ∷ []) ((0 · 1, 98 ∷ [], 0 · 3, 0 · 4, true) ∷ []) ((0 · 5, 15, 0 · 1, true) ∷ [])
    -- a rename in a folder is judged in that folder
    ∷ tree (makes_folder 3 (0 · 1) [] root A ∷ makes_trace 3 (0 · 2) (1 ∷ []) (0 · 1) B ∷ makes_trace 3 (0 · 3) (2 ∷ []) (0 · 1) C ∷ renames 3 (0 · 4) (3 ∷ []) (0 · 3) (98 ∷ []) ∷ renames 3 (0 · 5) (4 ∷ []) (0 · 3) (97 ∷ []) ∷ []) ((0 · 1, A, 0 · 1, 0 · 1, false) ∷ (0 · 2, B, 0 · 2, 0 · 2, true) ∷ (0 · 3, 97 ∷ [], 0 · 3, 0 · 5, false) ∷ []) ((0 · 4, 15, 0 · 2, true) ∷ [])
    -- either label may have the capitals, and a space ends nothing
    ∷ tree (makes_trace 3 (0 · 1) [] root (65 ∷ 32 ∷ 98 ∷ []) ∷ makes_trace 3 (0 · 2) (1 ∷ []) root (97 ∷ 32 ∷ 66 ∷ []) ∷ []) ((0 · 1, 65 ∷ 32 ∷ 98 ∷ [], 0 · 1, 0 · 1, true) ∷ []) ((0 · 2, 15, 0 · 1, true) ∷ [])
    -- what is removed holds no label
    ∷ tree (makes_trace 3 (0 · 1) [] root A ∷ removes 3 (0 · 2) (1 ∷ []) (0 · 1) ∷ makes_trace 3 (0 · 3) (2 ∷ []) root (97 ∷ []) ∷ []) ((0 · 3, 97 ∷ [], 0 · 3, 0 · 3, false) ∷ []) []
    -- all 32 bytes count
    ∷ tree (makes_trace 3 (0 · 1) [] root A ∷ makes_trace 3 (0 · 2) (1 ∷ []) root (65 ∷ 66 ∷ []) ∷ makes_trace 3 (0 · 3) (2 ∷ []) root (replicate 31 65 ++ B) ∷ makes_trace 3 (0 · 4) (3 ∷ []) root (replicate 31 65 ++ C) ∷ makes_trace 3 (0 · 5) (4 ∷ []) root (replicate 31 97 ++ (98 ∷ [])) ∷ []) ((0 · 1, A, 0 · 1, 0 · 1, false) ∷ (0 · 2, 65 ∷ 66 ∷ [], 0 · 2, 0 · 2, false) ∷ (0 · 3, replicate 31 65 ++ B, 0 · 3, 0 · 3, true) ∷ (0 · 4, replicate 31 65 ++ C, 0 · 4, 0 · 4, false) ∷ []) ((0 · 5, 15, 0 · 3, true) ∷ [])
    -- a rename to a held label; a second rename that has not seen the first, to the label that the object has, and to one that another has
    ∷ tree (makes_trace 3 (0 · 1) [] root A ∷ makes_trace 3 (0 · 2) (1 ∷ []) root B ∷ renames 3 (0 · 3) (2 ∷ []) (0 · 1) B ∷ [])
    ((0 · 1, A, 0 · 1, 0 · 1, false) ∷ (0 · 2, B, 0 · 2, 0 · 2, true) ∷ [])
    ((0 · 3, 15, 0 · 2, true) ∷ [])
    ∷ tree (makes_trace 3 (0 · 1) [] root A ∷ renames 3 (0 · 2) (1 ∷ []) (0 · 1) B ∷ renames 3 (1 · 1) (1 ∷ []) (0 · 1) B ∷ [])
    ((0 · 1, B, 0 · 1, 0 · 2, true) ∷ [])
    ((1 · 1, 17, 0 · 1, true) ∷ [])
    ∷ tree
    (makes_trace 3 (0 · 1) [] root A
    ∷ makes_trace 3 (0 · 2) (1 ∷ []) root B
    ∷ renames 3 (0 · 3) (2 ∷ []) (0 · 1) C
    ∷ renames 3 (1 · 1) (2 ∷ []) (0 · 1) (98 ∷ [])
    ∷ [])
    ((0 · 1, C, 0 · 1, 0 · 3, true) ∷ (0 · 2, B, 0 · 2, 0 · 2, false) ∷ [])
    ((1 · 1, 17, 0 · 1, true) ∷ [])
    -- inside a folder too the object is no holder; a folder holds its label against a trace
    ∷ tree (makes_folder 3 (0 · 1) [] root A ∷ makes_trace 3 (0 · 2) (1 ∷ []) (0 · 1) B ∷ renames 3 (0 · 3) (2 ∷ []) (0 · 2) (98 ∷ []) ∷ [])
    ((0 · 1, A, 0 · 1, 0 · 1, false) ∷ (0 · 2, 98 ∷ [], 0 · 2, 0 · 3, false) ∷ [])
    []
    ∷ tree (makes_folder 3 (0 · 1) [] root A ∷ makes_trace 3 (0 · 2) (1 ∷ []) root (97 ∷ []) ∷ [])
    ((0 · 1, A, 0 · 1, 0 · 1, true) ∷ [])
    ((0 · 2, 15, 0 · 1, true) ∷ [])
    -- a move to another folder, under another label
    ∷ tree (makes_folder 3 (0 · 1) [] root A ∷ makes_trace 3 (0 · 2) (1 ∷ []) root B ∷ moves 3 (0 · 3) (2 ∷ []) (0 · 2) (0 · 1) C ∷ makes_trace 3 (0 · 4) (3 ∷ []) (0 · 1) C ∷ makes_trace 3 (0 · 5) (4 ∷ []) root B ∷ [])
    ((0 · 1, A, 0 · 1, 0 · 1, false) ∷ (0 · 2, C, 0 · 2, 0 · 3, true) ∷ (0 · 5, B, 0 · 5, 0 · 5, false) ∷ [])
    ((0 · 4, 15, 0 · 2, true) ∷ [])
    -- a folder into itself and into one below it: 25; a trace into itself: 14; into an absent folder: 13
    ∷ tree (makes_folder 3 (0 · 1) [] root A ∷ makes_folder 3 (0 · 2) (1 ∷ []) (0 · 1) B ∷ moves 3 (0 · 3) (2 ∷ []) (0 · 1) (0 · 1) C ∷ moves 3 (0 · 4) (3 ∷ []) (0 · 1) (0 · 2) C ∷ [])
    ((0 · 1, A, 0 · 1, 0 · 1, true) ∷ (0 · 2, B, 0 · 2, 0 · 2, false) ∷ [])
    ((0 · 3, 25, 0 · 1, true) ∷ (0 · 4, 25, 0 · 1, true) ∷ [])
    ∷ tree (makes_trace 3 (0 · 1) [] root A ∷ moves 3 (0 · 2) (1 ∷ []) (0 · 1) (0 · 1) A ∷ moves 3 (0 · 3) (2 ∷ []) (0 · 1) (0 · 2) A ∷ moves 3 (0 · 4) (3 ∷ []) (0 · 2) root A ∷ [])
    ((0 · 1, A, 0 · 1, 0 · 1, true) ∷ [])
    ((0 · 2, 14, 0 · 1, true) ∷ (0 · 3, 13, 0, true) ∷ (0 · 4, 12, 0, true) ∷ [])
    -- crossing moves of two folders: the later in rank stands aside; an unseen move is 17 before 13
    ∷ tree (makes_folder 3 (0 · 1) [] root A ∷ makes_folder 3 (0 · 2) (1 ∷ []) root B ∷ moves 3 (0 · 3) (2 ∷ []) (0 · 1) (0 · 2) A ∷ moves 3 (1 · 1) (2 ∷ []) (0 · 2) (0 · 1) B ∷ [])
    ((0 · 1, A, 0 · 1, 0 · 3, false) ∷ (0 · 2, B, 0 · 2, 0 · 2, true) ∷ [])
    ((1 · 1, 25, 0 · 2, true) ∷ [])
    ∷ tree (makes_trace 3 (0 · 1) [] root A ∷ removes 3 (0 · 2) (1 ∷ []) (0 · 1) ∷ makes_trace 3 (0 · 3) (2 ∷ []) root A ∷ renames 3 (0 · 4) (3 ∷ []) (0 · 3) B ∷ moves 3 (1 · 1) (3 ∷ []) (0 · 3) (0 · 1) C ∷ [])
    ((0 · 3, B, 0 · 3, 0 · 4, true) ∷ [])
    ((1 · 1, 17, 0 · 3, true) ∷ [])
    -- a folder into a trace below it is 14, an unseen move into itself 17, and 25 comes before 15
    ∷ tree (makes_folder 3 (0 · 1) [] root A ∷ makes_trace 3 (0 · 2) (1 ∷ []) (0 · 1) B ∷ moves 3 (0 · 3) (2 ∷ []) (0 · 1) (0 · 2) A ∷ moves 3 (0 · 4) (3 ∷ []) (0 · 1) (0 · 1) B ∷ [])
    ((0 · 1, A, 0 · 1, 0 · 1, true) ∷ (0 · 2, B, 0 · 2, 0 · 2, true) ∷ [])
    ((0 · 3, 14, 0 · 2, true) ∷ (0 · 4, 25, 0 · 1, true) ∷ [])
    ∷ tree (makes_folder 3 (0 · 1) [] root A ∷ renames 3 (0 · 2) (1 ∷ []) (0 · 1) B ∷ moves 3 (1 · 1) (1 ∷ []) (0 · 1) (0 · 1) A ∷ [])
    ((0 · 1, B, 0 · 1, 0 · 2, true) ∷ [])
    ((1 · 1, 17, 0 · 1, true) ∷ [])
    -- into a folder two steps below it
    ∷ tree (makes_folder 3 (0 · 1) [] root A ∷ makes_folder 3 (0 · 2) (1 ∷ []) (0 · 1) A ∷ makes_folder 3 (0 · 3) (2 ∷ []) (0 · 2) A ∷ moves 3 (0 · 4) (3 ∷ []) (0 · 1) (0 · 3) B ∷ [])
    ((0 · 1, A, 0 · 1, 0 · 1, true) ∷ (0 · 2, A, 0 · 2, 0 · 2, false) ∷ (0 · 3, A, 0 · 3, 0 · 3, false) ∷ [])
    ((0 · 4, 25, 0 · 1, true) ∷ [])
    -- a move in its own folder to its own label, in any case, fits; to another's label it marks the holder
    ∷ tree (makes_trace 3 (0 · 1) [] root A ∷ moves 3 (0 · 2) (1 ∷ []) (0 · 1) root (97 ∷ []) ∷ [])
    ((0 · 1, 97 ∷ [], 0 · 1, 0 · 2, false) ∷ [])
    []
    ∷ tree (makes_trace 3 (0 · 1) [] root A ∷ makes_trace 3 (0 · 2) (1 ∷ []) root B ∷ moves 3 (0 · 3) (2 ∷ []) (0 · 2) root (97 ∷ []) ∷ [])
    ((0 · 1, A, 0 · 1, 0 · 1, true) ∷ (0 · 2, B, 0 · 2, 0 · 2, false) ∷ [])
    ((0 · 3, 15, 0 · 1, true) ∷ [])
    -- a move asks only about the place record: an unseen store does not stop it
    ∷ tree (makes_trace 3 (0 · 1) [] root A ∷ stores 3 (0 · 2) (1 ∷ []) (0 · 1) ∷ moves 3 (1 · 1) (1 ∷ []) (0 · 1) root B ∷ [])
    ((0 · 1, B, 0 · 2, 1 · 1, false) ∷ [])
    []
    -- 17 comes before 14 and before 15
    ∷ tree (makes_folder 3 (0 · 1) [] root A ∷ makes_trace 3 (0 · 2) (1 ∷ []) root B ∷ renames 3 (0 · 3) (2 ∷ []) (0 · 1) C ∷ moves 3 (1 · 1) (2 ∷ []) (0 · 1) (0 · 2) A ∷ moves 3 (2 · 1) (2 ∷ []) (0 · 1) root B ∷ [])
    ((0 · 1, C, 0 · 1, 0 · 3, true) ∷ (0 · 2, B, 0 · 2, 0 · 2, false) ∷ [])
    ((1 · 1, 17, 0 · 1, true) ∷ (2 · 1, 17, 0 · 1, true) ∷ [])
    -- into a folder four steps below it
    ∷ tree (makes_folder 3 (0 · 1) [] root A ∷ makes_folder 3 (0 · 2) (1 ∷ []) (0 · 1) A ∷ makes_folder 3 (0 · 3) (2 ∷ []) (0 · 2) A ∷ makes_folder 3 (0 · 4) (3 ∷ []) (0 · 3) A ∷ makes_folder 3 (0 · 5) (4 ∷ []) (0 · 4) A ∷ moves 3 (0 · 6) (5 ∷ []) (0 · 1) (0 · 5) B ∷ [])
    ((0 · 1, A, 0 · 1, 0 · 1, true) ∷ (0 · 2, A, 0 · 2, 0 · 2, false) ∷ (0 · 3, A, 0 · 3, 0 · 3, false) ∷ (0 · 4, A, 0 · 4, 0 · 4, false) ∷ (0 · 5, A, 0 · 5, 0 · 5, false) ∷ [])
    ((0 · 6, 25, 0 · 1, true) ∷ [])
    -- into a folder that was removed: 13; of an object that was removed: 12, before 13 and 15
    ∷ tree (makes_folder 3 (0 · 1) [] root A ∷ makes_trace 3 (0 · 2) (1 ∷ []) root B ∷ makes_trace 3 (0 · 3) (2 ∷ []) root C ∷ removes 3 (0 · 4) (3 ∷ []) (0 · 1) ∷ moves 3 (0 · 5) (4 ∷ []) (0 · 2) (0 · 1) A ∷ removes 3 (0 · 6) (5 ∷ []) (0 · 2) ∷ moves 3 (0 · 7) (6 ∷ []) (0 · 2) (0 · 1) A ∷ moves 3 (0 · 8) (7 ∷ []) (0 · 2) root C ∷ [])
    ((0 · 3, C, 0 · 3, 0 · 3, false) ∷ [])
    ((0 · 5, 13, 0, true) ∷ (0 · 7, 12, 0, true) ∷ (0 · 8, 12, 0, true) ∷ [])
    -- a label whose holder was removed is free, and so is one that only the old folder has
    ∷ tree (makes_folder 3 (0 · 1) [] root A ∷ makes_trace 3 (0 · 2) (1 ∷ []) (0 · 1) B ∷ makes_trace 3 (0 · 3) (2 ∷ []) root B ∷ makes_trace 3 (0 · 4) (3 ∷ []) root C ∷ removes 3 (0 · 5) (4 ∷ []) (0 · 2) ∷ moves 3 (0 · 6) (5 ∷ []) (0 · 4) (0 · 1) B ∷ [])
    ((0 · 1, A, 0 · 1, 0 · 1, false) ∷ (0 · 3, B, 0 · 3, 0 · 3, false) ∷ (0 · 4, B, 0 · 4, 0 · 6, false) ∷ [])
    []
    -- a move to the own place under the own label, in the same bytes, fits and is the last place record
    ∷ tree (makes_trace 3 (0 · 1) [] root A ∷ moves 3 (0 · 2) (1 ∷ []) (0 · 1) root A ∷ renames 3 (1 · 1) (1 ∷ []) (0 · 1) B ∷ [])
    ((0 · 1, A, 0 · 1, 0 · 2, true) ∷ [])
    ((1 · 1, 17, 0 · 1, true) ∷ [])
    -- a move aside under 25 is settled, and the object is no longer disputed
    ∷ tree (makes_folder 3 (0 · 1) [] root A ∷ moves 3 (0 · 2) (1 ∷ []) (0 · 1) (0 · 1) B ∷ settles 3 (0 · 3) (2 ∷ []) (0 · 2) ∷ [])
    ((0 · 1, A, 0 · 1, 0 · 1, false) ∷ [])
    ((0 · 2, 25, 0 · 1, false) ∷ [])
    -- a move that stood aside is no place record
    ∷ tree (makes_trace 3 (0 · 1) [] root A ∷ moves 3 (0 · 2) (1 ∷ []) (0 · 1) (0 · 1) B ∷ renames 3 (1 · 1) (1 ∷ []) (0 · 1) C ∷ [])
    ((0 · 1, C, 0 · 1, 1 · 1, true) ∷ [])
    ((0 · 2, 14, 0 · 1, true) ∷ [])
    -- a label held in the new folder, in another case; the label of the new folder itself is free in it
    ∷ tree (makes_folder 3 (0 · 1) [] root A ∷ makes_trace 3 (0 · 2) (1 ∷ []) (0 · 1) B ∷ makes_trace 3 (0 · 3) (2 ∷ []) root C ∷ moves 3 (0 · 4) (3 ∷ []) (0 · 3) (0 · 1) (98 ∷ []) ∷ moves 3 (0 · 5) (4 ∷ []) (0 · 3) (0 · 1) A ∷ [])
    ((0 · 1, A, 0 · 1, 0 · 1, false) ∷ (0 · 2, B, 0 · 2, 0 · 2, true) ∷ (0 · 3, A, 0 · 3, 0 · 5, false) ∷ [])
    ((0 · 4, 15, 0 · 2, true) ∷ [])
    -- the row of a moved entry: folder, last contents record, last place record
    ∷ prints
    (take 24 (entry_row 1 (record { made = 0 · 3; kind = 2; inside = 0 · 2; label = padded 32 C; contents = 1 · 4; date = two 2025 ++ (3 ∷ 4 ∷ []); mark = replicate 16 0; placing = 2 · 5 })))
    (2 ∷ 1 ∷ 0 ∷ 0 ∷ 0 ∷ 0 ∷ 3 ∷ 0 ∷ 0 ∷ 0 ∷ 2 ∷ 0 ∷ 1 ∷ 0 ∷ 4 ∷ 0 ∷ 2 ∷ 0 ∷ 5 ∷ 0 ∷ 233 ∷ 7 ∷ 3 ∷ 4 ∷ [])
    -- "aside 1.1 reason 25 marks 0.2 open"
    ∷ prints (aside_line (aside_row (record { who = 1 · 1; reason = 25; marked = 0 · 2; is_open = true })))
    (97 ∷ 115 ∷ 105 ∷ 100 ∷ 101 ∷ 32 ∷ 49 ∷ 46 ∷ 49 ∷ 32 ∷ 114 ∷ 101 ∷ 97 ∷ 115 ∷ 111 ∷ 110 ∷ 32 ∷ 50 ∷ 53 ∷ 32 ∷ 109 ∷ 97 ∷ 114 ∷ 107 ∷ 115 ∷ 32 ∷ 48 ∷ 46 ∷ 50 ∷ 32 ∷ 111 ∷ 112 ∷ 101 ∷ 110 ∷ 10 ∷ [])
    -- a folder moves with what is in it, which is then found under it; and the folder that it left can be removed
    ∷ whole
    (makes_folder 3 (0 · 1) [] root A
    ∷ makes_folder 3 (0 · 2) (1 ∷ []) root B
    ∷ makes_trace 4 (0 · 3) (2 ∷ []) (0 · 1) A
    ∷ moves 5 (0 · 4) (3 ∷ []) (0 · 1) (0 · 2) C
    ∷ moves 5 (0 · 5) (4 ∷ []) (0 · 3) root A
    ∷ removes 5 (0 · 6) (5 ∷ []) (0 · 2)
    ∷ removes 5 (0 · 7) (6 ∷ []) (0 · 1)
    ∷ removes 5 (0 · 8) (7 ∷ []) (0 · 2)
    ∷ [])
    ((record { made = 0 · 3; kind = 2; inside = root; label = padded 32 A; contents = 0 · 3; date = two 2025 ++ (3 ∷ 4 ∷ []); mark = replicate 16 (0 · 3); placing = 0 · 5 }, false) ∷ [])
    ((0 · 6, 16, 0 · 2, true) ∷ [])
    ∷ whole (makes_folder 3 (0 · 1) [] root A ∷ makes_trace 4 (0 · 2) (1 ∷ []) root B ∷ moves 5 (0 · 3) (2 ∷ []) (0 · 2) (0 · 1) C ∷ [])
    ((record { made = 0 · 1; kind = 1; inside = root; label = padded 32 A; contents = 0 · 1; date = two 2025 ++ (3 ∷ 3 ∷ []); mark = replicate 16 0; placing = 0 · 1 }, false)
    ∷ (record { made = 0 · 2; kind = 2; inside = 0 · 1; label = padded 32 C; contents = 0 · 2; date = two 2025 ++ (3 ∷ 4 ∷ []); mark = replicate 16 (0 · 2); placing = 0 · 3 }, false)
    ∷ [])
    []
    -- an unseen move stops a rename, a move and a remove, and no store
    ∷ tree (makes_trace 3 (0 · 1) [] root A ∷ moves 3 (0 · 2) (1 ∷ []) (0 · 1) root B ∷ renames 3 (1 · 1) (1 ∷ []) (0 · 1) C ∷ moves 3 (2 · 1) (1 ∷ []) (0 · 1) root C ∷ removes 3 (3 · 1) (1 ∷ []) (0 · 1) ∷ stores 3 (4 · 1) (1 ∷ []) (0 · 1) ∷ [])
    ((0 · 1, B, 4 · 1, 0 · 2, true) ∷ [])
    ((1 · 1, 17, 0 · 1, true) ∷ (2 · 1, 17, 0 · 1, true) ∷ (3 · 1, 17, 0 · 1, true) ∷ [])
    -- wishes: into itself, a stroke first, one that fits
    -- a store and a rename inside a folder: the folder stays, the store gives date and mark, the rename the label alone
    ∷ whole (makes_folder 3 (0 · 1) [] root A ∷ makes_trace 4 (0 · 2) (1 ∷ []) (0 · 1) B ∷ stores 5 (0 · 3) (2 ∷ []) (0 · 2) ∷ renames 6 (0 · 4) (3 ∷ []) (0 · 2) C ∷ [])
    ((record { made = 0 · 1; kind = 1; inside = root; label = padded 32 A; contents = 0 · 1; date = two 2025 ++ (3 ∷ 3 ∷ []); mark = replicate 16 0; placing = 0 · 1 }, false)
    ∷ (record { made = 0 · 2; kind = 2; inside = 0 · 1; label = padded 32 C; contents = 0 · 3; date = two 2025 ++ (3 ∷ 5 ∷ []); mark = replicate 16 (0 · 3); placing = 0 · 4 }, false)
    ∷ [])
    []
    -- a store asks only about contents, a rename only about the label, a remove about both
    ∷ tree (makes_trace 3 (0 · 1) [] root A ∷ renames 3 (0 · 2) (1 ∷ []) (0 · 1) B ∷ stores 3 (1 · 1) (1 ∷ []) (0 · 1) ∷ [])
    ((0 · 1, B, 1 · 1, 0 · 2, false) ∷ [])
    []
    ∷ tree (makes_trace 3 (0 · 1) [] root A ∷ stores 3 (0 · 2) (1 ∷ []) (0 · 1) ∷ renames 3 (1 · 1) (1 ∷ []) (0 · 1) B ∷ [])
    ((0 · 1, B, 0 · 2, 1 · 1, false) ∷ [])
    []
    ∷ tree (makes_trace 3 (0 · 1) [] root A ∷ renames 3 (0 · 2) (1 ∷ []) (0 · 1) B ∷ removes 3 (1 · 1) (1 ∷ []) (0 · 1) ∷ [])
    ((0 · 1, B, 0 · 1, 0 · 2, true) ∷ [])
    ((1 · 1, 17, 0 · 1, true) ∷ [])
    -- a remove of a folder with entries and an unseen rename: 16 comes before 17
    ∷ tree (makes_folder 3 (0 · 1) [] root A ∷ renames 3 (0 · 2) (1 ∷ []) (0 · 1) C ∷ removes 3 (1 · 1) (1 ∷ []) (0 · 1) ∷ makes_trace 3 (0 · 3) (2 ∷ []) (0 · 1) B ∷ removes 3 (1 · 2) (1 ∷ 1 ∷ []) (0 · 1) ∷ [])
    ((0 · 1, C, 0 · 1, 0 · 2, true) ∷ (0 · 3, B, 0 · 3, 0 · 3, false) ∷ [])
    ((1 · 1, 17, 0 · 1, true) ∷ (1 · 2, 16, 0 · 1, true) ∷ [])
    -- a settle of a record that acted
    ∷ tree (makes_trace 3 (0 · 1) [] root A ∷ settles 3 (0 · 2) (1 ∷ []) (0 · 1) ∷ [])
    ((0 · 1, A, 0 · 1, 0 · 1, false) ∷ [])
    ((0 · 2, 18, 0, true) ∷ [])
    -- a settle, and the entry is no longer disputed
    ∷ tree (makes_trace 3 (0 · 1) [] root A ∷ makes_trace 3 (1 · 1) [] root A ∷ settles 3 (0 · 2) (1 ∷ 1 ∷ []) (1 · 1) ∷ [])
    ((0 · 1, A, 0 · 1, 0 · 1, false) ∷ [])
    ((1 · 1, 15, 0 · 1, false) ∷ [])
    -- a second settle fits and changes nothing; a settle of a settle that fitted stands aside
    ∷ tree (makes_trace 3 (0 · 1) [] root A ∷ makes_trace 3 (1 · 1) [] root A ∷ settles 3 (0 · 2) (1 ∷ 1 ∷ []) (1 · 1) ∷ settles 3 (1 · 2) (2 ∷ 1 ∷ []) (1 · 1) ∷ settles 3 (0 · 3) (2 ∷ 2 ∷ []) (0 · 2) ∷ [])
    ((0 · 1, A, 0 · 1, 0 · 1, false) ∷ [])
    ((1 · 1, 15, 0 · 1, false) ∷ (0 · 3, 18, 0, true) ∷ [])
    -- a settle of a settle that stands aside
    ∷ tree (makes_trace 3 (0 · 1) [] root A ∷ settles 3 (0 · 2) (1 ∷ []) (0 · 1) ∷ settles 3 (0 · 3) (2 ∷ []) (0 · 2) ∷ [])
    ((0 · 1, A, 0 · 1, 0 · 1, false) ∷ [])
    ((0 · 2, 18, 0, false) ∷ [])
    -- of two open asides that mark one entry, one is settled: still disputed
    ∷ tree (makes_trace 3 (0 · 1) [] root A ∷ makes_trace 3 (1 · 1) [] root A ∷ makes_trace 3 (2 · 1) [] root A ∷ settles 3 (0 · 2) (1 ∷ 1 ∷ 1 ∷ []) (1 · 1) ∷ [])
    ((0 · 1, A, 0 · 1, 0 · 1, true) ∷ [])
    ((1 · 1, 15, 0 · 1, false) ∷ (2 · 1, 15, 0 · 1, true) ∷ [])
    -- the marked entry is removed, and still stands in what the aside marks
    ∷ tree (makes_trace 3 (0 · 1) [] root A ∷ makes_trace 3 (1 · 1) [] root A ∷ removes 3 (0 · 2) (1 ∷ 1 ∷ []) (0 · 1) ∷ [])
    []
    ((1 · 1, 15, 0 · 1, true) ∷ [])
    -- 2.1 "A" stands aside beside 0.1 "A"; once 1.1, which ranks between them, renames 0.1 to "C", it acts
    ∷ tree (makes_trace 3 (0 · 1) [] root A ∷ makes_trace 4 (2 · 1) (1 ∷ []) root A ∷ [])
    ((0 · 1, A, 0 · 1, 0 · 1, true) ∷ [])
    ((2 · 1, 15, 0 · 1, true) ∷ [])
    -- in a file: a malformed record that is not next either, one that does not rise, one that is not next, one not closed
    ∷ faulty [] (makes_trace 3 (0 · 2) (1 ∷ []) root (32 ∷ [])) 7
    ∷ faulty (makes_trace 3 (1 · 1) [] root A ∷ []) (makes_trace 3 (0 · 1) [] root B) 20
    ∷ faulty (makes_trace 3 (0 · 1) [] root A ∷ []) (makes_trace 3 (0 · 3) (2 ∷ []) root B) 8
    ∷ faulty (makes_trace 3 (1 · 1) (1 ∷ []) root B ∷ makes_trace 3 (0 · 1) [] root A ∷ []) (makes_trace 3 (2 · 1) (0 ∷ 1 ∷ []) root C) 9
    -- two records of unit 0 and one of unit 1 come before: numbers and seen go on from there, and what those records had seen is not asked
    ∷ follows (2 ∷ 1 ∷ []) [] (makes_trace 3 (0 · 3) (2 ∷ 1 ∷ []) root A) 0
    ∷ follows (2 ∷ 1 ∷ []) [] (makes_trace 3 (0 · 1) [] root A) 8
    ∷ follows (2 ∷ 1 ∷ []) [] (makes_trace 3 (0 · 3) (2 ∷ 2 ∷ []) root A) 8
    ∷ follows (2 ∷ 1 ∷ []) [] (makes_trace 3 (2 · 1) (1 ∷ 1 ∷ []) root C) 0
    ∷ follows (2 ∷ 1 ∷ []) (makes_trace 3 (1 · 2) (2 ∷ 1 ∷ []) root B ∷ []) (makes_trace 3 (2 · 1) (1 ∷ 2 ∷ []) root C) 9
    ∷ follows (2 ∷ 1 ∷ []) (makes_trace 3 (1 · 2) (2 ∷ 1 ∷ []) root B ∷ []) (makes_trace 3 (2 · 1) (2 ∷ 2 ∷ []) root C) 0
    -- a record with a stroke is well formed, is taken, and its entry can be renamed
    ∷ formed (march 3 1 (0 · 1) [] root root (65 ∷ 47 ∷ []) []) true
    -- 0.1 of a later day ranks before 1.1 all the same
    ∷ tree (makes_trace 9 (0 · 1) [] root A ∷ makes_trace 3 (1 · 1) [] root A ∷ []) ((0 · 1, A, 0 · 1, 0 · 1, true) ∷ []) ((1 · 1, 15, 0 · 1, true) ∷ [])
    -- a removed entry is no entry any more
    ∷ leaves (makes_trace 3 (0 · 1) [] root A ∷ makes_trace 3 (0 · 2) (1 ∷ []) root B ∷ removes 3 (0 · 3) (2 ∷ []) (0 · 1) ∷ []) 1
    -- a stroke first, last and of nothing else; the bytes on its two sides and a backslash
    ∷ strokes (47 ∷ 65 ∷ []) true
    ∷ strokes (replicate 31 65 ++ (47 ∷ [])) true
    ∷ strokes (47 ∷ []) true
    ∷ strokes (46 ∷ 48 ∷ 92 ∷ []) false
    -- 0, 10 and 4294967295
    ∷ prints (decimal 0) (48 ∷ [])
    ∷ prints (decimal 10) (49 ∷ 48 ∷ [])
    ∷ prints (decimal 4294967295) (52 ∷ 50 ∷ 57 ∷ 52 ∷ 57 ∷ 54 ∷ 55 ∷ 50 ∷ 57 ∷ 53 ∷ [])
    -- archive 7 unit 0 records 3
    ∷ prints (label_text (padded 32 (65 ∷ 97 ∷ []))) (34 ∷ 65 ∷ 97 ∷ 34 ∷ [])
    ∷ prints (head_line 7 0 3)
    (97 ∷ 114 ∷ 99 ∷ 104 ∷ 105 ∷ 118 ∷ 101 ∷ 32 ∷ 55 ∷ 32 ∷ 117 ∷ 110 ∷ 105 ∷ 116 ∷ 32 ∷ 48 ∷ 32 ∷ 114 ∷ 101 ∷ 99 ∷ 111 ∷ 114 ∷ 100 ∷ 115 ∷ 32 ∷ 51 ∷ 10 ∷ [])
    -- seen 2 1 0 0 0 0 0 0
    ∷ prints (seen_line (2 ∷ 1 ∷ 0 ∷ 0 ∷ 0 ∷ 0 ∷ 0 ∷ 0 ∷ []))
    (115 ∷ 101 ∷ 101 ∷ 110 ∷ 32 ∷ 50 ∷ 32 ∷ 49 ∷ 32 ∷ 48 ∷ 32 ∷ 48 ∷ 32 ∷ 48 ∷ 32 ∷ 48 ∷ 32 ∷ 48 ∷ 32 ∷ 48 ∷ 10 ∷ [])
    ∷ []

-- one file out of two
unfoldable pub merges : List Row
merges =
    -- 0.1 is common; 1.1 ranks behind 0.2, and 2.1 before both
    unites (makes_trace 3 (0 · 1) [] root A ∷ stores 3 (0 · 2) (1 ∷ []) (0 · 1) ∷ [])
    (makes_trace 3 (0 · 1) [] root A ∷ makes_trace 3 (2 · 1) [] root C ∷ makes_trace 3 (1 · 1) (1 ∷ []) root B ∷ [])
    (makes_trace 3 (0 · 1) [] root A ∷ makes_trace 3 (2 · 1) [] root C ∷ stores 3 (0 · 2) (1 ∷ []) (0 · 1) ∷ makes_trace 3 (1 · 1) (1 ∷ []) root B ∷ [])
    ∷ unites [] (firsts_to 2) (firsts_to 2)
    ∷ unites (firsts_to 2) (firsts_to 2) (firsts_to 2)
    -- 7.1 of another day: in the first file it stands first, in the second it is the eighth
    ∷ clashes (makes_trace 3 (7 · 1) [] root A ∷ []) 1 (firsts_to 7 ++ (makes_trace 4 (7 · 1) [] root A ∷ [])) (fault 10 1)
    ∷ clashes (firsts_to 8) 8 (firsts_to 8) (fault 0 0)
    -- the sixth record is the last of block 0, the seventh the first of block 1
    ∷ clashes (makes_trace 3 (5 · 1) [] root A ∷ []) 1 (firsts_to 5 ++ (makes_trace 4 (5 · 1) [] root A ∷ [])) (fault 10 0)
    ∷ clashes (makes_trace 3 (6 · 1) [] root A ∷ []) 1 (firsts_to 6 ++ (makes_trace 4 (6 · 1) [] root A ∷ [])) (fault 10 1)
    ∷ clashes [] 507 (firsts_to 8) (fault 11 0)
    ∷ clashes [] 506 (firsts_to 8) (fault 11 1)
    -- of eight new records the eighth is the 513th behind 505, in the second block; behind 504 all have room
    ∷ clashes [] 505 (firsts_to 8) (fault 11 1)
    ∷ clashes [] 504 (firsts_to 8) (fault 0 0)
    -- common records need no room
    ∷ clashes (firsts_to 2) 512 (firsts_to 2) (fault 0 0)
    ∷ clashes (firsts_to 2) 511 (firsts_to 4) (fault 11 0)
    -- and stand in their blocks all the same
    ∷ clashes (firsts_to 4) 510 (firsts_to 8) (fault 11 1)
    -- one too many, and a clash behind it: 10
    ∷ clashes (makes_trace 3 (0 · 1) [] root A ∷ makes_trace 3 (1 · 1) (1 ∷ []) root A ∷ []) 512
    (makes_trace 3 (0 · 1) [] root A ∷ makes_trace 3 (0 · 2) (1 ∷ []) root B ∷ makes_trace 4 (1 · 1) (1 ∷ []) root A ∷ [])
    (fault 10 0)
    -- another archive, and a clash: 6
    ∷ parts 7 (makes_trace 3 (0 · 1) [] root A ∷ []) 8 (makes_trace 4 (0 · 1) [] root A ∷ []) (fault 6 0)
    ∷ parts 7 (makes_trace 3 (0 · 1) [] root A ∷ []) 7 (makes_trace 4 (0 · 1) [] root A ∷ []) (fault 10 0)
    ∷ parts 7 (firsts_to 1) 7 (firsts_to 2) (fault 0 0)
    -- the place is of the second file
    ∷ parts 7 (makes_trace 3 (7 · 1) [] root A ∷ []) 7 (firsts_to 7 ++ (makes_trace 4 (7 · 1) [] root A ∷ [])) (fault 10 1)
    ∷ parts 7 (firsts_to 7 ++ (makes_trace 4 (7 · 1) [] root A ∷ [])) 7 (makes_trace 3 (7 · 1) [] root A ∷ []) (fault 10 0)
    -- the first file wholly before the second, both before what they are together
    ∷ blames (fault 20 1) (fault 2 0) (fault 6 0) (fault 20 1) 1
    ∷ blames (fault 0 0) (fault 7 3) (fault 6 0) (fault 7 3) 2
    ∷ blames (fault 0 0) (fault 0 0) (fault 10 4) (fault 10 4) 2
    ∷ blames (fault 0 0) (fault 0 0) (fault 0 0) (fault 0 0) 0
    -- 1 names neither file and comes before the first's 2
    ∷ lends 40960 44031 1 0
    ∷ lends 40959 44032 1 0
    ∷ lends 40960 44032 2 1
    -- the first file is checked first: no bytes, or a block that does not begin with the letters
    ∷ checks [] (replicate 512 0) (fault 2 0) 1
    ∷ checks (replicate 512 0) [] (fault 3 0) 1
    -- archive and unit of the first file, the records of both
    ∷ joins 2 (firsts_to 1) 5 (firsts_to 3) 2 (firsts_to 3)
    ∷ joins 5 (firsts_to 3) 2 (firsts_to 1) 5 (firsts_to 3)
    ∷ []

unfoldable pub table : List Row
table = starred ++ (further ++ merges)
