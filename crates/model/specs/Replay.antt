-- Replay: the tree and the asides that records leave, taken one by one from any tree on.
-- Assumes nothing.
use Rattle.std.specs.Prelude.{ℕ, zero, suc, ◌+◌, ◌/◌, ◌%◌, Bool, true, false, cond, not, ◌&&◌, ◌||◌, List, [], ◌∷◌, ◌++◌, ltb, leb, eqb, length}
use Rattle.std.proofs.Math.Option.{Option, none, some}
use Rattle.model.specs.Numbers.{no_object, no_folder, wrong_kind, label_held, not_empty, unseen_change, not_aside, into_itself}
use Rattle.model.specs.Bytes.{same_bytes}
use Rattle.model.specs.Record.{Rec, root, seen, op, self_of, object_of, folder_of, date_bytes, label_of, mark_of}

-- Document 01, "Rank and replay".

-- an entry of the tree. One that was removed keeps its row, with kind 0, and is absent
pub record Entry : Type 0 where
  pub made : ℕ  -- its identity, that of its making record
  pub kind : ℕ  -- 1 folder, 2 trace, 0 removed
  pub inside : ℕ  -- the identity of its folder
  pub label : List ℕ  -- that of the last place record
  pub contents : ℕ  -- the last contents record
  pub date : List ℕ  -- the date of that record
  pub mark : List ℕ  -- the content mark of that record
  pub placing : ℕ  -- the last place record

-- a record that stands aside
pub record Aside : Type 0 where
  pub who : ℕ
  pub reason : ℕ
  pub marked : ℕ  -- the entry that the reason marks; 0 for none
  pub is_open : Bool  -- no settle that names it has fitted

-- the entries by rank of their makers, and the asides by rank
pub record Tree : Type 0 where
  pub entries : List Entry
  pub asides : List Aside

-- the root alone
unfoldable pub empty_tree : Tree
empty_tree = record { entries = []; asides = [] }

-- a record fits, or stands aside under a reason that marks an entry
pub data Verdict : Type 0 where
  fits : Verdict
  aside : ℕ → ℕ → Verdict

-- ---- looking up

unfoldable pub is_present : Entry → Bool
is_present e = not (eqb e.kind 0)

-- A to Z as a to z [F21]
unfoldable pub lower : ℕ → ℕ
lower x = cond (leb 65 x && leb x 90) (x + 32) x

-- what of a label counts when two are compared [F21]
unfoldable pub label_key : List ℕ → List ℕ
label_key [] = []
label_key (x ∷ t) = lower x ∷ label_key t

-- labels that differ in A to Z against a to z alone are the same [F21]
unfoldable pub same_label : List ℕ → List ℕ → Bool
same_label a b = same_bytes (label_key a) (label_key b)

-- the entry k, unless it is absent [F19]
unfoldable pub entry_of : ℕ → List Entry → Option Entry
entry_of k [] = none
entry_of k (e ∷ l) = cond (eqb e.made k && is_present e) (some e) (entry_of k l)

unfoldable pub is_in : ℕ → Entry → Bool
is_in f e = is_present e && eqb e.inside f

-- the entry e, which is not k, has the label in the folder f [F116]
unfoldable pub is_holder : ℕ → ℕ → List ℕ → Entry → Bool
is_holder k f t e = is_in f e && (not (eqb e.made k) && same_label e.label t)

-- the holder of a label in the folder f, other than the entry k; the root, which is no entry, leaves none out
unfoldable pub holder_of : ℕ → ℕ → List ℕ → List Entry → Option Entry
holder_of k f t [] = none
holder_of k f t (e ∷ l) = cond (is_holder k f t e) (some e) (holder_of k f t l)

unfoldable pub has_entries : ℕ → List Entry → Bool
has_entries f [] = false
has_entries f (e ∷ l) = is_in f e || has_entries f l

unfoldable pub stands_aside : ℕ → List Aside → Bool
stands_aside k [] = false
stands_aside k (a ∷ l) = eqb a.who k || stands_aside k l

-- the number of the record k is above the count in what r has seen [F20]
unfoldable pub unseen : Rec → ℕ → Bool
unseen r k = ltb (seen r (k % 8)) (k / 8)

-- ---- the reasons: the first that holds, in the order written [F79]
--   Make: folder absent (13), marks none; folder is a trace (14), marks it; label already in that folder (15), marks its holder.
--   Store: object absent (12), marks none; object is a folder (14), marks it; its contents' last record unseen (17), marks it.
--   Remove: absent (12), marks none; folder with entries (16), marks it; last contents or place record unseen (17), marks it.
--   Rename: absent (12), marks none; last place record unseen (17), marks it; label of another in its folder (15), marks the holder.
--   Move: absent (12), marks none; last place record unseen (17), marks it; new folder absent (13), marks none; new folder is a
--   trace (14), marks it; new folder is the object or below it (25), marks the object; label of another there (15), marks the holder.
--   Settle: the named record does not stand aside (18), marks none.
-- `judge` and `effect` are for well formed records: a number that is no operation falls to one end of their chains.

-- the label is free in the folder, or 15 marks its holder
unfoldable pub free_label : Option Entry → Verdict
free_label none = fits
free_label (some h) = aside label_held h.made

-- a verdict, and behind one that fits the next
unfoldable pub and_then : Verdict → Verdict → Verdict
and_then fits v = v
and_then (aside n k) v = aside n k

unfoldable pub is_folder : Option Entry → Verdict
is_folder none = aside no_folder 0
is_folder (some f) = cond (eqb f.kind 1) fits (aside wrong_kind f.made)

-- the folder f is the root, or is there and a folder
unfoldable pub folder_stands : ℕ → List Entry → Verdict
folder_stands f es = cond (eqb f root) fits (is_folder (entry_of f es))

-- [F22]
unfoldable pub judge_make : Rec → List Entry → Verdict
judge_make r es = and_then (folder_stands (folder_of r) es) (free_label (holder_of root (folder_of r) (label_of r) es))

-- [F23]
unfoldable pub judge_store : Rec → Option Entry → Verdict
judge_store r none = aside no_object 0
judge_store r (some e) =
    cond (eqb e.kind 1) (aside wrong_kind e.made)
    (cond (unseen r e.contents) (aside unseen_change e.made) fits)

-- [F24]
unfoldable pub judge_remove : Rec → List Entry → Option Entry → Verdict
judge_remove r es none = aside no_object 0
judge_remove r es (some e) =
    cond (eqb e.kind 1 && has_entries e.made es) (aside not_empty e.made)
    (cond (unseen r e.contents || unseen r e.placing) (aside unseen_change e.made) fits)

-- [F25]
unfoldable pub judge_rename : Rec → List Entry → Option Entry → Verdict
judge_rename r es none = aside no_object 0
judge_rename r es (some e) =
    cond (unseen r e.placing) (aside unseen_change e.made) (free_label (holder_of e.made e.inside (label_of r) es))

-- going up from the identity f, in at most n steps, one comes to the entry k
unfoldable pub comes_to : ℕ → ℕ → ℕ → List Entry → Bool
comes_to zero k f es = false
comes_to (suc n) k f es = eqb f k || elim (entry_of f es) [ none ↦ false | some g ↦ comes_to n k g.inside es ]

-- the folder f is the entry k or lies below it
unfoldable pub is_below : ℕ → ℕ → List Entry → Bool
is_below k f es = comes_to (suc (length es)) k f es

-- where an entry may be put: not at or below itself, and where no other has the label
unfoldable pub judge_place : Rec → List Entry → Entry → Verdict
judge_place r es e =
    cond (is_below e.made (folder_of r) es) (aside into_itself e.made) (free_label (holder_of e.made (folder_of r) (label_of r) es))

-- [F121]
unfoldable pub judge_move : Rec → List Entry → Option Entry → Verdict
judge_move r es none = aside no_object 0
judge_move r es (some e) =
    cond (unseen r e.placing) (aside unseen_change e.made) (and_then (folder_stands (folder_of r) es) (judge_place r es e))

-- [F26]
unfoldable pub judge_settle : Rec → List Aside → Verdict
judge_settle r l = cond (stands_aside (object_of r) l) fits (aside not_aside 0)

-- by operation: 1 make folder, 2 make trace, 3 store, 4 remove, 5 rename, 6 settle, 7 move
unfoldable pub judge : Rec → Tree → Verdict
judge r t =
    cond (leb (op r) 2) (judge_make r t.entries)
    (cond (eqb (op r) 3) (judge_store r (entry_of (object_of r) t.entries))
    (cond (eqb (op r) 4) (judge_remove r t.entries (entry_of (object_of r) t.entries))
    (cond (eqb (op r) 5) (judge_rename r t.entries (entry_of (object_of r) t.entries))
    (cond (eqb (op r) 6) (judge_settle r t.asides)
    (judge_move r t.entries (entry_of (object_of r) t.entries))))))

-- ---- what a record that fits does

unfoldable pub new_entry : Rec → Entry
new_entry r =
    record {
      made = self_of r;
      kind = op r;
      inside = folder_of r;
      label = label_of r;  -- as the make has it [F117]
      contents = self_of r;
      date = date_bytes r;
      mark = mark_of r;
      placing = self_of r;
    }

-- [F17]
unfoldable pub stored : Rec → Entry → Entry
stored r e =
    record {
      made = e.made;
      kind = e.kind;
      inside = e.inside;
      label = e.label;
      contents = self_of r;
      date = date_bytes r;
      mark = mark_of r;
      placing = e.placing;
    }

-- [F18]
unfoldable pub renamed : Rec → Entry → Entry
renamed r e =
    record {
      made = e.made;
      kind = e.kind;
      inside = e.inside;
      label = label_of r;  -- as the rename has it [F117]
      contents = e.contents;
      date = e.date;
      mark = e.mark;
      placing = self_of r;
    }

-- [F121]
unfoldable pub moved : Rec → Entry → Entry
moved r e =
    record {
      made = e.made;
      kind = e.kind;
      inside = folder_of r;
      label = label_of r;
      contents = e.contents;
      date = e.date;
      mark = e.mark;
      placing = self_of r;
    }

unfoldable pub removed : Entry → Entry
removed e =
    record {
      made = e.made;
      kind = 0;
      inside = e.inside;
      label = e.label;
      contents = e.contents;
      date = e.date;
      mark = e.mark;
      placing = e.placing;
    }

-- the entry k is changed
unfoldable pub changed : (Entry → Entry) → ℕ → List Entry → List Entry
changed f k [] = []
changed f k (e ∷ l) = cond (eqb e.made k && is_present e) (f e ∷ l) (e ∷ changed f k l)

-- the aside k is settled [F28]
unfoldable pub settled : ℕ → List Aside → List Aside
settled k [] = []
settled k (a ∷ l) =
    cond (eqb a.who k) (record { who = a.who; reason = a.reason; marked = a.marked; is_open = false } ∷ l) (a ∷ settled k l)

-- [F27]
unfoldable pub effect : Rec → Tree → Tree
effect r t =
    cond (leb (op r) 2) (record { entries = t.entries ++ (new_entry r ∷ []); asides = t.asides })
    (cond (eqb (op r) 3) (record { entries = changed (stored r) (object_of r) t.entries; asides = t.asides })
    (cond (eqb (op r) 4) (record { entries = changed removed (object_of r) t.entries; asides = t.asides })
    (cond (eqb (op r) 5) (record { entries = changed (renamed r) (object_of r) t.entries; asides = t.asides })
    (cond (eqb (op r) 6) (record { entries = t.entries; asides = settled (object_of r) t.asides })
    (record { entries = changed (moved r) (object_of r) t.entries; asides = t.asides })))))

-- ---- the fold

-- a record that fits has its effect; one that stands aside changes the asides alone: it is added to them, open [F80]
unfoldable pub apply : Verdict → Rec → Tree → Tree
apply fits r t = effect r t
apply (aside n k) r t =
    record { entries = t.entries; asides = t.asides ++ (record { who = self_of r; reason = n; marked = k; is_open = true } ∷ []) }

-- a record is judged against what those before it left [F78]
unfoldable pub step : Tree → Rec → Tree
step t r = apply (judge r t) r t

unfoldable pub replay_from : Tree → List Rec → Tree
replay_from t [] = t
replay_from t (r ∷ l) = replay_from (step t r) l

-- records taken as they stand, from the root alone on: nothing is sorted here. The tree of a log is that of its records in rank order, as a sound log has
-- them; another maker's order is replayed so too [F16]
unfoldable pub replay : List Rec → Tree
replay l = replay_from empty_tree l

-- ---- what is shown

-- an entry is disputed while an open aside marks it [F29]
unfoldable pub is_disputed : ℕ → List Aside → Bool
is_disputed k [] = false
is_disputed k (a ∷ l) = (a.is_open && eqb a.marked k) || is_disputed k l

-- the entries that are not absent
unfoldable pub present_ones : List Entry → List Entry
present_ones [] = []
present_ones (e ∷ l) = cond (is_present e) (e ∷ present_ones l) (present_ones l)

unfoldable pub reason_of : Verdict → ℕ
reason_of fits = 0
reason_of (aside n k) = n

-- a tree without the rows of removed entries
unfoldable pub trim : Tree → Tree
trim t = record { entries = present_ones t.entries; asides = t.asides }
