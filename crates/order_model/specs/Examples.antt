-- Examples of another maker's order, as rows of one table.
-- Document 02, K12.
-- Assumes nothing.
use Rattle.std.specs.Prelude.{ℕ, Bool, true, false, cond, not, ◌&&◌, ◌||◌, List, [], ◌∷◌, ◌++◌, eqb, get_or, take, replicate}
use Rattle.model.specs.Bytes.{word, same_bytes}
use Rattle.model.specs.Record.{Rec, root}
use Rattle.model.specs.Log.{no_counts, sound_after, log_bytes}
use Rattle.model.specs.Replay.{Entry, Aside, Tree, empty_tree}
use Rattle.base_model.specs.Base.{empty_base, base_bytes}
use Rattle.model.specs.Examples.{◌·◌, makes_trace, stores, renames, settles, A, B, C}
use Rattle.order_model.specs.Order.{names_given, entry_alike, shown_alike, failed_of, Ordered, order_of}

-- ---- the rows

pub data Example : Type 0 where
  -- the bytes of a list, and the names in it
  gives : List ℕ → List ℕ → Example
  -- the records of a sound log, the names of an order, and the condition that fails first, or 0
  judges : List Rec → List ℕ → ℕ → Example
  -- two trees, and whether they show the same
  sames : Tree → Tree → Bool → Example
  -- two sets of asides, and whether one trace beside them is the same
  besides : List Aside → List Aside → Bool → Example
  -- the records of a log, the bytes of a list, the condition that fails first, and how many entries and asides the tables then count
  leaves : List Rec → List ℕ → ℕ → ℕ → ℕ → Example
  -- the records of a log, the bytes of a list, and the units that made the first entries of our table and of theirs
  shows : List Rec → List ℕ → ℕ → ℕ → Example
  -- the list of units, the base vector, the first byte of a log of zeros, and the number that the empty order gets
  answers : ℕ → List ℕ → ℕ → ℕ → Example
  -- a base vector with all units listed and a log of zeros, the bytes of a list, and the number that refuses it
  refuses : List ℕ → List ℕ → ℕ → Example
  -- how many bytes are lent for our tree and for theirs, and the number then
  lends : ℕ → ℕ → ℕ → Example

-- an entry by its fields that are shown
unfoldable pub entry : ℕ → ℕ → ℕ → List ℕ → List ℕ → List ℕ → Entry
entry k kind f t d m =
    record { made = k; kind = kind; inside = f; label = t; contents = k; date = d; mark = m; placing = k }

unfoldable pub standing : ℕ → ℕ → ℕ → Bool → Aside
standing k n e s = record { who = k; reason = n; marked = e; is_open = s }

unfoldable pub tree : List Entry → List Aside → Tree
tree l s = record { entries = l; asides = s }

unfoldable pub trace_a : Entry
trace_a = entry (0 · 1) 2 root A (1 ∷ []) (7 ∷ [])

-- that trace alone, and asides
unfoldable pub one_trace : List Aside → Tree
one_trace s = tree (trace_a ∷ []) s

-- the same trace with another last contents and last place record
unfoldable pub moved_on : Tree
moved_on =
    tree (record { made = 0 · 1; kind = 2; inside = root; label = A; contents = 0 · 5; date = 1 ∷ []; mark = 7 ∷ []; placing = 0 · 6 } ∷ []) []

unfoldable pub is_answer : Ordered → ℕ → ℕ → Bool
is_answer o n c = eqb o.number n && (eqb o.place 0 && eqb o.failed c)

-- both tables begin with the bytes of 9 that were lent
unfoldable pub are_left : Ordered → Bool
are_left o = same_bytes (take 4 o.ours) (replicate 4 9) && same_bytes (take 4 o.theirs) (replicate 4 9)

-- a table counts so many entries and asides
unfoldable pub counts : List ℕ → ℕ → ℕ → Bool
counts t e a = eqb (word t 0) e && eqb (word t 2) a

-- conditions 1 and 2 leave the tables, 0 and 3 write both
unfoldable pub is_leaving : Ordered → ℕ → ℕ → ℕ → Bool
is_leaving o c e a =
    is_answer o 0 c && cond (eqb c 1 || eqb c 2) (are_left o) (counts o.ours e a && counts o.theirs e a)

-- the first entries of the tables were made by units u and w
unfoldable pub is_showing : Ordered → ℕ → ℕ → Bool
is_showing o u w = eqb (get_or o.ours 8 0) u && eqb (get_or o.theirs 8 0) w

unfoldable pub is_refused : Ordered → ℕ → Bool
is_refused o n = is_answer o n 0 && are_left o

-- what is found is what the row says
unfoldable pub agrees : Bool → Bool → Bool
agrees x b = cond b x (not x)

unfoldable pub right : Example → Bool
right (gives b ks) = same_bytes (names_given b) ks
right (judges l ks c) = sound_after no_counts [] l && eqb (failed_of ks l) c
right (sames t u b) = agrees (shown_alike t u) b && agrees (shown_alike u t) b
right (besides s t b) = agrees (entry_alike s t trace_a trace_a) b
right (leaves l b c e a) = is_leaving (order_of (log_bytes l) empty_base b (replicate 86020 9) (replicate 86020 9)) c e a
right (shows l b u w) = is_showing (order_of (log_bytes l) empty_base b (replicate 86020 9) (replicate 86020 9)) u w
right (answers m v x n) =
    is_answer (order_of (x ∷ replicate 40959 0) (base_bytes (record { list = m; vector = v; tree = empty_tree })) [] (replicate 86020 9) (replicate 86020 9)) n 0
right (refuses v b n) =
    is_refused (order_of (replicate 40960 0) (base_bytes (record { list = 255; vector = v; tree = empty_tree })) b (replicate 86020 9) (replicate 86020 9)) n
right (lends a b n) = is_refused (order_of (1 ∷ replicate 40959 0) empty_base [] (replicate a 9) (replicate b 9)) n

unfoldable pub all_right : List Example → Bool
all_right [] = true
all_right (r ∷ l) = right r && all_right l

-- ---- logs

-- two traces of one label, apart
unfoldable pub clash : List Rec
clash = makes_trace 3 (0 · 1) [] root A ∷ makes_trace 3 (1 · 1) [] root A ∷ []

-- two traces of two labels, apart
unfoldable pub apart : List Rec
apart = makes_trace 3 (0 · 1) [] root A ∷ makes_trace 3 (1 · 1) [] root B ∷ []

-- the second has seen the first
unfoldable pub behind : List Rec
behind = makes_trace 3 (0 · 1) [] root A ∷ makes_trace 3 (1 · 1) (1 ∷ []) root B ∷ []

-- 1.1 stands aside by 0.1, which is then renamed; 0.3 has the label afterwards, and 1.1 is settled
unfoldable pub settled_aside : List Rec
settled_aside =
    makes_trace 3 (0 · 1) [] root A
    ∷ makes_trace 3 (1 · 1) [] root A
    ∷ renames 3 (0 · 2) (1 ∷ []) (0 · 1) B
    ∷ settles 3 (2 · 1) (0 ∷ 1 ∷ []) (1 · 1)
    ∷ makes_trace 3 (0 · 3) (2 ∷ []) root A
    ∷ []

-- ---- the table

unfoldable pub table : List Example
table =
    -- unit, zero, number; a part of a name, a unit above 7 and a set second byte are no record's
    gives [] []
    ∷ gives (0 ∷ 0 ∷ 1 ∷ 0 ∷ 3 ∷ 0 ∷ 2 ∷ 1 ∷ []) (0 · 1 ∷ 3 · 258 ∷ [])
    ∷ gives (0 ∷ 0 ∷ 1 ∷ 0 ∷ 1 ∷ []) (0 · 1 ∷ root ∷ [])
    ∷ gives (1 ∷ 0 ∷ 1 ∷ []) (root ∷ [])
    ∷ gives (7 ∷ 0 ∷ 1 ∷ 0 ∷ []) (7 · 1 ∷ [])
    ∷ gives (8 ∷ 0 ∷ 1 ∷ 0 ∷ []) (root ∷ [])
    ∷ gives (0 ∷ 1 ∷ 1 ∷ 0 ∷ []) (root ∷ [])
    -- the empty order of an empty log
    ∷ judges [] [] 0
    ∷ judges [] (root ∷ []) 1
    -- rank order; the other way round the other trace stands aside
    ∷ judges clash (0 · 1 ∷ 1 · 1 ∷ []) 0
    ∷ judges clash (1 · 1 ∷ 0 · 1 ∷ []) 3
    -- entries in another order are the same entries
    ∷ judges apart (1 · 1 ∷ 0 · 1 ∷ []) 0
    -- a record missing, named twice, in the place of another; a name of no record, here or at all
    ∷ judges apart (0 · 1 ∷ []) 1
    ∷ judges apart (0 · 1 ∷ 1 · 1 ∷ 0 · 1 ∷ []) 1
    ∷ judges apart (0 · 1 ∷ 0 · 1 ∷ []) 1
    ∷ judges apart (0 · 1 ∷ 1 · 1 ∷ 2 · 1 ∷ []) 1
    ∷ judges apart (0 · 1 ∷ 1 · 1 ∷ root ∷ []) 1
    ∷ judges apart (0 · 1 ∷ 1 · 1 ∷ 0 · 2 ∷ []) 1
    -- one that stands before a record it has seen, also of its own unit, also with another between or in front
    ∷ judges behind (0 · 1 ∷ 1 · 1 ∷ []) 0
    ∷ judges behind (1 · 1 ∷ 0 · 1 ∷ []) 2
    ∷ judges (makes_trace 3 (0 · 1) [] root A ∷ makes_trace 3 (0 · 2) (1 ∷ []) root B ∷ []) (0 · 2 ∷ 0 · 1 ∷ []) 2
    ∷ judges (makes_trace 3 (0 · 1) [] root A ∷ makes_trace 3 (2 · 1) [] root C ∷ makes_trace 3 (1 · 1) (1 ∷ []) root B ∷ []) (1 · 1 ∷ 2 · 1 ∷ 0 · 1 ∷ []) 2
    ∷ judges (makes_trace 3 (0 · 1) [] root A ∷ makes_trace 3 (2 · 1) [] root C ∷ makes_trace 3 (1 · 1) (1 ∷ []) root B ∷ []) (2 · 1 ∷ 1 · 1 ∷ 0 · 1 ∷ []) 2
    -- what a record has not seen may follow it
    ∷ judges (makes_trace 3 (0 · 1) [] root A ∷ makes_trace 3 (0 · 2) (1 ∷ []) root B ∷ makes_trace 3 (1 · 1) (1 ∷ []) root C ∷ []) (0 · 1 ∷ 1 · 1 ∷ 0 · 2 ∷ []) 0
    -- the first condition before the second, the second before the third
    ∷ judges behind (1 · 1 ∷ 0 · 1 ∷ 0 · 1 ∷ []) 1
    ∷ judges (makes_trace 3 (0 · 1) [] root A ∷ makes_trace 3 (1 · 1) (1 ∷ []) root A ∷ []) (1 · 1 ∷ 0 · 1 ∷ []) 2
    -- asides are a set
    ∷ judges (makes_trace 3 (0 · 1) [] root A ∷ makes_trace 3 (1 · 1) [] root A ∷ makes_trace 3 (2 · 1) [] root A ∷ []) (0 · 1 ∷ 2 · 1 ∷ 1 · 1 ∷ []) 0
    -- of two stores apart the other one stands aside
    ∷ judges (makes_trace 3 (0 · 1) [] root A ∷ stores 4 (0 · 2) (1 ∷ []) (0 · 1) ∷ stores 5 (1 · 1) (1 ∷ []) (0 · 1) ∷ []) (0 · 1 ∷ 1 · 1 ∷ 0 · 2 ∷ []) 3
    -- 1.1 marks 0.3 in place of 0.1: nothing else differs, and it is settled
    ∷ judges settled_aside (0 · 1 ∷ 1 · 1 ∷ 0 · 2 ∷ 2 · 1 ∷ 0 · 3 ∷ []) 0
    ∷ judges settled_aside (0 · 1 ∷ 0 · 2 ∷ 0 · 3 ∷ 1 · 1 ∷ 2 · 1 ∷ []) 3
    -- each thing that is shown of an entry; the two records behind it are not
    ∷ sames (one_trace []) (one_trace []) true
    ∷ sames (one_trace []) moved_on true
    ∷ sames (one_trace []) (tree [] []) false
    ∷ sames (one_trace []) (tree (entry (1 · 1) 2 root A (1 ∷ []) (7 ∷ []) ∷ []) []) false
    ∷ sames (one_trace []) (tree (entry (0 · 1) 1 root A (1 ∷ []) (7 ∷ []) ∷ []) []) false
    ∷ sames (one_trace []) (tree (entry (0 · 1) 2 (1 · 1) A (1 ∷ []) (7 ∷ []) ∷ []) []) false
    ∷ sames (one_trace []) (tree (entry (0 · 1) 2 root B (1 ∷ []) (7 ∷ []) ∷ []) []) false
    ∷ sames (one_trace []) (tree (entry (0 · 1) 2 root A (2 ∷ []) (7 ∷ []) ∷ []) []) false
    ∷ sames (one_trace []) (tree (entry (0 · 1) 2 root A (1 ∷ []) (8 ∷ []) ∷ []) []) false
    -- to the last byte, capitals and small letters apart, and of every entry
    ∷ sames (one_trace []) (tree (entry (0 · 1) 2 root (97 ∷ []) (1 ∷ []) (7 ∷ []) ∷ []) []) false
    ∷ sames (tree (entry (0 · 1) 2 root (65 ∷ 66 ∷ []) (1 ∷ []) (7 ∷ []) ∷ []) []) (tree (entry (0 · 1) 2 root (65 ∷ 67 ∷ []) (1 ∷ []) (7 ∷ []) ∷ []) []) false
    ∷ sames (tree (entry (0 · 1) 2 root A (1 ∷ 2 ∷ []) (7 ∷ []) ∷ []) []) (tree (entry (0 · 1) 2 root A (1 ∷ 3 ∷ []) (7 ∷ []) ∷ []) []) false
    ∷ sames (tree (entry (0 · 1) 2 root A (1 ∷ []) (7 ∷ 7 ∷ []) ∷ []) []) (tree (entry (0 · 1) 2 root A (1 ∷ []) (7 ∷ 8 ∷ []) ∷ []) []) false
    ∷ sames (tree (trace_a ∷ entry (1 · 1) 2 root B (1 ∷ []) (7 ∷ []) ∷ []) []) (tree (trace_a ∷ entry (1 · 1) 2 root B (1 ∷ []) (8 ∷ []) ∷ []) []) false
    -- a removed entry is not shown
    ∷ sames (tree [] []) (tree (entry (0 · 1) 0 root A (1 ∷ []) (7 ∷ []) ∷ []) []) true
    -- a set has no order
    ∷ sames (one_trace (standing (1 · 1) 15 (0 · 1) true ∷ standing (1 · 2) 15 (0 · 1) false ∷ [])) (one_trace (standing (1 · 2) 15 (0 · 1) false ∷ standing (1 · 1) 15 (0 · 1) true ∷ [])) true
    -- each thing of an aside; with one settled the entry is not disputed
    ∷ sames (one_trace (standing (1 · 1) 15 (0 · 1) true ∷ [])) (one_trace []) false
    ∷ sames (one_trace (standing (1 · 1) 15 root true ∷ [])) (one_trace (standing (1 · 2) 15 root true ∷ [])) false
    ∷ sames (one_trace (standing (1 · 1) 12 root true ∷ [])) (one_trace (standing (1 · 1) 13 root true ∷ [])) false
    ∷ sames (one_trace (standing (1 · 1) 15 (0 · 2) true ∷ [])) (one_trace (standing (1 · 1) 15 (0 · 3) true ∷ [])) false
    ∷ sames (one_trace (standing (1 · 1) 12 root true ∷ [])) (one_trace (standing (1 · 1) 12 root false ∷ [])) false
    ∷ sames (one_trace (standing (1 · 1) 12 root true ∷ standing (1 · 2) 12 root true ∷ [])) (one_trace (standing (1 · 1) 12 root true ∷ standing (1 · 2) 13 root true ∷ [])) false
    -- an aside more, which marks none
    ∷ sames (one_trace (standing (1 · 1) 12 root true ∷ [])) (one_trace []) false
    -- whether it is disputed
    ∷ besides (standing (1 · 1) 15 (0 · 1) true ∷ []) (standing (1 · 2) 17 (0 · 1) true ∷ []) true
    ∷ besides (standing (1 · 1) 15 (0 · 1) true ∷ []) [] false
    ∷ besides (standing (1 · 1) 15 (0 · 1) false ∷ []) (standing (1 · 1) 15 (0 · 1) true ∷ []) false
    -- accepted, or failed by the third: both tables are written; by the first two they are left
    ∷ leaves clash (0 ∷ 0 ∷ 1 ∷ 0 ∷ 1 ∷ 0 ∷ 1 ∷ 0 ∷ []) 0 1 1
    ∷ leaves clash (1 ∷ 0 ∷ 1 ∷ 0 ∷ 0 ∷ 0 ∷ 1 ∷ 0 ∷ []) 3 1 1
    ∷ leaves behind (1 ∷ 0 ∷ 1 ∷ 0 ∷ 0 ∷ 0 ∷ 1 ∷ 0 ∷ []) 2 0 0
    ∷ leaves behind (0 ∷ 0 ∷ 1 ∷ 0 ∷ 1 ∷ 0 ∷ 1 ∷ 0 ∷ 7 ∷ []) 1 0 0
    -- our tree in the first table, that of the order in the second
    ∷ shows clash (1 ∷ 0 ∷ 1 ∷ 0 ∷ 0 ∷ 0 ∷ 1 ∷ 0 ∷ []) 0 1
    -- also where it is accepted
    ∷ shows apart (1 ∷ 0 ∷ 1 ∷ 0 ∷ 0 ∷ 0 ∷ 1 ∷ 0 ∷ []) 0 1
    -- folded records, behind a log that is not sound; a short list alone is none
    ∷ answers 255 (replicate 7 0 ++ (1 ∷ [])) 0 29
    ∷ answers 255 (1 ∷ replicate 7 0) 1 19
    ∷ answers 0 no_counts 0 0
    -- before the conditions, and both tables are left
    ∷ refuses (1 ∷ replicate 7 0) [] 29
    ∷ refuses (1 ∷ replicate 7 0) (7 ∷ []) 29
    -- the lengths first
    ∷ lends 86019 86020 1
    ∷ lends 86021 86020 1
    ∷ lends 86020 86019 1
    ∷ lends 86020 86021 1
    ∷ lends 86020 86020 19
    ∷ []
