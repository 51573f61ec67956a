-- Logs that differ only in the content mark of one record, and trees that differ only in the mark of one entry.
-- Document 02, K9.
-- Assumes nothing.
use Rattle.std.specs.Prelude.{ℕ, zero, suc, ◌+◌, ◌*◌, ◌<◌, ◌≡◌, Bool, cond, ◌&&◌, ◌⊎◌, List, [], ◌∷◌, ltb, leb, eqb, get_or, length, take}
use Rattle.std.proofs.Math.Option.{none, some}
use Rattle.model.specs.Record.{Rec, op, object_of}
use Rattle.model.specs.Replay.{Entry, Tree, fits, aside, is_present, entry_of, judge, replay, is_disputed, present_ones}
use Rattle.tree_laws.specs.Replayed.{trace_of, mapped, mapped_tree, hide_from}

-- ---- two logs

-- the content mark is the bytes of a record from here on, 64 to 79
abbrev pub mark_at : ℕ
mark_at = 64

-- the same bytes but for the content mark
abbrev pub SameButMark : Rec → Rec → Type 0
SameButMark r s = take mark_at r ≡ take mark_at s

-- logs of one length that differ only in the content mark of the record at place i, a make trace or a store
pub record OneMarkApart (i : ℕ) (l m : List Rec) : Type 0 where
  pub as_long : length l ≡ length m
  pub there : i < length l
  pub gives_mark : (op (get_or l i []) ≡ 2) ⊎ (op (get_or l i []) ≡ 3)
  pub but_mark : SameButMark (get_or l i []) (get_or m i [])
  pub elsewhere : (j : ℕ) → j < length l → (j ≡ i → ⊥) → get_or l j [] ≡ get_or m j []

-- ---- two trees

-- an entry with the mark v if it is the entry k, any other as it is
unfoldable pub mark_if : ℕ → List ℕ → Entry → Entry
mark_if k v e =
    record {
      made = e.made;
      kind = e.kind;
      inside = e.inside;
      label = e.label;
      contents = e.contents;
      date = e.date;
      mark = cond (eqb e.made k) v e.mark;
      placing = e.placing;
    }

-- a tree with the mark v for the entry k
unfoldable pub mark_tree : ℕ → List ℕ → Tree → Tree
mark_tree k v t = mapped_tree (mark_if k v) t

-- the same but for the mark of the entry k
pub record SameButMarkOf (k : ℕ) (t u : Tree) : Type 0 where
  -- the same asides, each with its reason, the entry that it marks, open or settled
  pub asides : t.asides ≡ u.asides
  -- the same entries are disputed
  pub disputes : (j : ℕ) → is_disputed j t.asides ≡ is_disputed j u.asides
  -- with one mark for the entry k, whichever it is, the entries are equal, removed ones too
  pub entries : (v : List ℕ) → mapped (mark_if k v) t.entries ≡ mapped (mark_if k v) u.entries
  -- any other entry is the same
  pub others : (j : ℕ) → (j ≡ k → ⊥) → entry_of j t.entries ≡ entry_of j u.entries
  -- and the entry k is, but for its mark
  pub itself : (x : Entry) → entry_of k u.entries ≡ some x → (e : Entry) × (entry_of k t.entries ≡ some e) × (mark_if k x.mark e ≡ x)

-- what two logs show that differ in the mark of the record at place i
pub record StaysSmall (i : ℕ) (l m : List Rec) : Type 0 where
  -- every record fits in both, or stands aside in both under one reason
  pub judged : (j : ℕ) → j < length l → judge (get_or l j []) (replay (take j l)) ≡ judge (get_or m j []) (replay (take j m))
  -- the trees are the same but for the mark of the trace that the record makes or stores on
  pub one : SameButMarkOf (trace_of (get_or l i [])) (replay l) (replay m)
  -- where that record stands aside, they are the same
  pub stands_aside_lem : (n k : ℕ) → judge (get_or l i []) (replay (take i l)) ≡ aside n k → replay l ≡ replay m
  -- and where a later store has fitted on the same trace
  pub stored_later : (j : ℕ) → i < j → j < length l → op (get_or l j []) ≡ 3 → object_of (get_or l j []) ≡ trace_of (get_or l i [])
      → judge (get_or l j []) (replay (take j l)) ≡ fits → replay l ≡ replay m
  -- where that trace is not there, they show the same entries
  pub removed : entry_of (trace_of (get_or l i [])) (replay l).entries ≡ none → present_ones (replay l).entries ≡ present_ones (replay m).entries

-- ---- two tables

-- the row of the entry k in the tree table; where it is not shown, the first row that is not used
unfoldable pub row_of : ℕ → List Entry → ℕ
row_of k [] = zero
row_of k (e ∷ l) = cond (is_present e) (cond (eqb e.made k) zero (suc (row_of k l))) (row_of k l)

-- the mark of a row is its bytes from the one place up to the other
abbrev pub mark_from : ℕ
mark_from = 56

abbrev pub mark_to : ℕ
mark_to = 72

-- the places of the tree table that hold the mark of the row n
unfoldable pub is_mark_place : ℕ → ℕ → Bool
is_mark_place n i = leb (4 + 72 * n + mark_from) i && (ltb i (4 + 72 * n + mark_to) && ltb i 73732)

-- a tree table with zeros for the mark of the row n
unfoldable pub hide_mark : ℕ → List ℕ → List ℕ
hide_mark n b = hide_from (is_mark_place n) 0 b
