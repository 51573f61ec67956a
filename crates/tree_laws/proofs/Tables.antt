-- The tables of logs that differ only in dates differ only in the bytes of dates.
-- Assumes nothing.
use Prim.Native.Nat.{ℕ, zero, suc, ◌+◌, ◌-◌, ◌*◌, ◌%◌, ◌≤◌, ◌<◌}
use mathlib.Core.Path.{◌≡◌, refl, sym, ap, ◌∙◌}
use mathlib.Core.Bool.{Bool, true, false, cond, ◌&&◌}
use mathlib.Core.Logic.{inl, inr}
use mathlib.Core.List.{List, [], ◌∷◌, ◌++◌}
use native.Mathlib.Omega.{arith}
use lib.Dec.{leb, eqb}
use lib.ListN.{length, replicate, length-append}
use borrow.Author.Tests.{le-leb, lt-leb, lt-ltb, le-ltb}
use Rattle.byte_slice.proofs.Parts.{part_length}
use Rattle.byte_slice.proofs.PutAt.{length-padded}
use Rattle.model.specs.Bytes.{two, padded}
use Rattle.model.specs.Record.{Rec, op, self_of, object_of, label_of, mark_of, date_bytes}
use Rattle.model.specs.Replay.{Entry, Aside, Tree, Verdict, fits, aside, judge, is_present, new_entry, stored, renamed, moved, removed, step, empty_tree, replay_from, replay, present_ones, is_disputed}
use Rattle.model.specs.Table.{identity_bytes, entry_row, entry_rows, aside_rows, table_bytes}
use Rattle.log_laws.specs.Members.{Has as Member}
use Rattle.log_laws.proofs.Members.{All, all_append}
use Rattle.tree_laws.specs.Replayed.{makers, making, makes_fit, mapped, mapped_tree, undated, undated_tree, is_date_place, hide_from, hide_dates}
use Rattle.tree_laws.proofs.Blind.{Telling, blind, length-map, present_map}
use Rattle.tree_laws.proofs.Dates.{forgotten, kept}
use Rattle.tree_laws.proofs.Steps.{cond_elim, effect_elim, step_elim, all_changed, all_present, makers-replay}
use Rattle.tree_laws.proofs.Roots.{length-makers, present_few}

-- ---- hiding

module _ (p : ℕ → Bool) where
  pub hide_append : (i : ℕ) (a b : List ℕ) → hide_from p i (a ++ b) ≡ hide_from p i a ++ hide_from p (i + length a) b
  unfolding hide_from
  hide_append i [] b = let e : i + 0 ≡ i = omega arith in rw e
  hide_append i (x ∷ a) b =
      let e : i + suc (length a) ≡ suc i + length a = omega arith in
      rw e (ap (λ (y : List ℕ). cond (p i) 0 x ∷ y) (hide_append (suc i) a b))

  -- bytes elsewhere stay
  pub hide_keeps : (i : ℕ) (a : List ℕ) → ((j : ℕ) → j < length a → p (i + j) ≡ false) → hide_from p i a ≡ a
  unfolding hide_from
  hide_keeps i [] h = refl
  hide_keeps i (x ∷ a) h =
      let z : i + 0 ≡ i = omega arith in
      let e : p i ≡ false = rw z at (h 0 (omega arith)) in
      rw e (ap (λ (y : List ℕ). x ∷ y) (hide_keeps (suc i) a (λ j k.
      let s : i + suc j ≡ suc i + j = omega arith in
      rw s at (h (suc j) (omega arith)))))

  -- zeros stay
  hide_zeros : (i n : ℕ) → hide_from p i (replicate n 0) ≡ replicate n 0
  unfolding hide_from
  hide_zeros i zero = refl
  hide_zeros i (suc n) = λ k. zero_both (p i) k ∷ hide_zeros (suc i) n k
    where
      zero_both : (b : Bool) → ◌≡◌ {A = ℕ} (cond b 0 0) 0
      zero_both true = refl
      zero_both false = refl

  -- bytes hidden are zeros
  pub hide_all : (i : ℕ) (a : List ℕ) → ((j : ℕ) → j < length a → p (i + j) ≡ true) → hide_from p i a ≡ replicate (length a) 0
  unfolding hide_from
  hide_all i [] h = refl
  hide_all i (x ∷ a) h =
      let z : i + 0 ≡ i = omega arith in
      let e : p i ≡ true = rw z at (h 0 (omega arith)) in
      rw e (ap (λ (y : List ℕ). 0 ∷ y) (hide_all (suc i) a (λ j k.
      let s : i + suc j ≡ suc i + j = omega arith in
      rw s at (h (suc j) (omega arith)))))

-- ---- rows

-- the date, label and mark have their lengths
abbrev pub Filled : Entry → Type 0
Filled e = (length e.date ≡ 4) × (length e.label ≡ 32) × (length e.mark ≡ 16)

pub row-length : (d : ℕ) (e : Entry) → Filled e → length (entry_row d e) ≡ 72
unfolding entry_row identity_bytes
row-length d e (p, q, m) = omega (arith, length-append e.date (e.label ++ e.mark), length-append e.label e.mark)

length_rows : (s : List Aside) (es : List Entry) → length es ≤ 512 → All Filled es → length (entry_rows s es) ≡ 72 * length es
unfolding entry_rows
length_rows s [] h a = refl
length_rows s (e ∷ es) h a =
    let d : ℕ = cond (is_disputed e.made s) 1 0 in
    omega (arith, length-append (entry_row d e) (entry_rows s es), row-length d e a.0, length_rows s es (omega arith) a.1)

-- from the row n on, a row hidden at the places p is the row of its entry as it is told by g
abbrev pub Hides : (ℕ → Bool) → (Entry → Entry) → List Aside → ℕ → List Entry → Type 0
Hides p g s n [] = Unit {0}
Hides p g s n (e ∷ es) =
    let d : ℕ = cond (is_disputed e.made s) 1 0 in
    (hide_from p (4 + 72 * n) (entry_row d e) ≡ entry_row d (g e)) × Hides p g s (suc n) es

-- ---- the whole table

-- no place before the rows of entries, none behind them
pub record Within (p : ℕ → Bool) : Type 0 where
  pub before : (i : ℕ) → i < 4 → p i ≡ false
  pub behind : (i : ℕ) → 73732 ≤ i → p i ≡ false

module _ (p : ℕ → Bool) (d m : Telling) (f : (e : Entry) → Filled e → Filled (blind d m e)) where
  abbrev g : Entry → Entry
  g = blind d m

  rows_hidden : (s : List Aside) (es : List Entry) (n : ℕ) → All Filled es → Hides p g s n es → hide_from p (4 + 72 * n) (entry_rows s es) ≡ entry_rows s (mapped g es)
  unfolding entry_rows mapped blind hide_from
  rows_hidden s [] n a h = refl
  rows_hidden s (e ∷ es) n a h =
      let d : ℕ = cond (is_disputed e.made s) 1 0 in
      let w : 4 + 72 * n + length (entry_row d e) ≡ 4 + 72 * suc n = omega (arith, row-length d e a.0) in
      hide_append p (4 + 72 * n) (entry_row d e) (entry_rows s es)
      ∙ (λ k. h.0 k ++ hide_from p (w k) (entry_rows s es))
      ∙ ap (λ (x : List ℕ). entry_row d (g e) ++ x) (rows_hidden s es (suc n) a.1 h.1)

  filled-map : (es : List Entry) → All Filled es → All Filled (mapped g es)
  unfolding mapped
  filled-map [] a = tt
  filled-map (e ∷ es) a = (f e a.0, filled-map es a.1)

  module _ (s : List Aside) (es : List Entry) (h : length es ≤ 512) (a : All Filled es) where
    entries_hidden : Hides p g s 0 es → hide_from p 4 (padded 73728 (entry_rows s es)) ≡ padded 73728 (entry_rows s (mapped g es))
    unfolding padded
    entries_hidden r =
        let R : List ℕ = entry_rows s es in
        let e : length R ≡ length (entry_rows s (mapped g es)) =
        omega (arith, length_rows s es h a, length-map d m es, length_rows s (mapped g es) (omega (arith, length-map d m es)) (filled-map es a)) in
        hide_append p 4 R (replicate (73728 - length R) 0)
        ∙ (λ k. rows_hidden s es 0 a r k ++ hide_zeros p (4 + length R) (73728 - length R) k)
        ∙ ap (λ (n : ℕ). entry_rows s (mapped g es) ++ replicate (73728 - n) 0) e

    length_entries : length (padded 73728 (entry_rows s es)) ≡ 73728
    length_entries = length-padded 73728 (entry_rows s es) (omega (arith, length_rows s es h a))

  -- hidden at places of the rows of entries alone, a table is that of the tree so told
  pub hidden_table : Within p → (t : Tree) → All Filled t.entries → length (present_ones t.entries) ≤ 512 → Hides p g t.asides 0 (present_ones t.entries)
      → hide_from p 0 (table_bytes t) ≡ table_bytes (mapped_tree g t)
  unfolding table_bytes mapped_tree hide_from
  hidden_table v t a h r =
      let s : List Aside = t.asides in
      let ps : List Entry = present_ones t.entries in
      let b : All Filled ps = all_present Filled t.entries a in
      let P : List ℕ = padded 73728 (entry_rows s ps) in
      let A : List ℕ = padded 12288 (aside_rows s) in
      let u : mapped g ps ≡ present_ones (mapped g t.entries) = sym (present_map d m t.entries) in
      let n : length ps ≡ length (present_ones (mapped g t.entries)) = sym (length-map d m ps) ∙ ap (λ (x : List Entry). length x) u in
      let w : 4 + length P ≡ 73732 = omega (arith, length_entries s ps h b) in
      let q : hide_from p 4 (P ++ A) ≡ padded 73728 (entry_rows s (present_ones (mapped g t.entries))) ++ A =
      hide_append p 4 P A
      ∙ (λ k. entries_hidden s ps h b r k ++ hide_from p (w k) A)
      ∙ (λ k. padded 73728 (entry_rows s (u k)) ++ hide_keeps p 73732 A (λ j _. v.behind (73732 + j) (omega arith)) k) in
      hide_append p 0 (two (length ps) ++ two (length s)) (P ++ A)
      ∙ (λ k. hide_keeps p 0 (two (length ps) ++ two (length s)) (λ j (z : j < 4). v.before (0 + j) (omega arith)) k ++ q k)
      ∙ (λ k. two (n k) ++ (two (length s) ++ (padded 73728 (entry_rows s (present_ones (mapped g t.entries))) ++ A)))

-- ---- dates

in_row : (n c : ℕ) → n < 512 → c < 72 → is_date_place (4 + 72 * n + c) ≡ (leb 20 c && leb c 23)
unfolding is_date_place
in_row n c h k =
    let e : (4 + 72 * n + c - 4) % 72 ≡ c = omega arith in
    rw (le-leb 4 (4 + 72 * n + c) (omega arith), lt-ltb (4 + 72 * n + c) 73732 (omega arith), e)

module _ (n : ℕ) (h : n < 512) where
  before_date : (j : ℕ) → j < 20 → is_date_place (4 + 72 * n + j) ≡ false
  before_date j k = in_row n j h (omega arith) ∙ rw (lt-leb 20 j k)

  at_date : (j : ℕ) → j < 4 → is_date_place (4 + 72 * n + 20 + j) ≡ true
  at_date j k =
      let e : 4 + 72 * n + 20 + j ≡ 4 + 72 * n + (20 + j) = omega arith in
      ap is_date_place e ∙ in_row n (20 + j) h (omega arith) ∙ rw (le-leb 20 (20 + j) (omega arith), le-leb (20 + j) 23 (omega arith))

  behind_date : (j : ℕ) → j < 48 → is_date_place (4 + 72 * n + 20 + 4 + j) ≡ false
  behind_date j k =
      let e : 4 + 72 * n + 20 + 4 + j ≡ 4 + 72 * n + (24 + j) = omega arith in
      ap is_date_place e ∙ in_row n (24 + j) h (omega arith) ∙ rw (le-leb 20 (24 + j) (omega arith), lt-leb (24 + j) 23 (omega arith))

  row-undated : (d : ℕ) (e : Entry) → Filled e → hide_from is_date_place (4 + 72 * n) (entry_row d e) ≡ entry_row d (undated e)
  unfolding entry_row identity_bytes undated
  row-undated d e (p, q, m) =
      let i : ℕ = 4 + 72 * n in
      let f : List ℕ = (e.kind ∷ d ∷ 0 ∷ 0 ∷ []) ++ (identity_bytes e.made ++ (identity_bytes e.inside ++ (identity_bytes e.contents ++ identity_bytes e.placing))) in
      let t : List ℕ = e.label ++ e.mark in
      let w : length t ≡ 48 = omega (arith, length-append e.label e.mark) in
      let a : hide_from is_date_place (i + 20) e.date ≡ replicate 4 0 = hide_all is_date_place (i + 20) e.date (λ j k. at_date j (omega arith)) ∙ rw p in
      let b : hide_from is_date_place (i + 20 + length e.date) t ≡ t = rw p (hide_keeps is_date_place (i + 20 + 4) t (λ j k. behind_date j (omega arith))) in
      hide_append is_date_place i f (e.date ++ t)
      ∙ (λ k. hide_keeps is_date_place i f before_date k ++ hide_append is_date_place (i + 20) e.date t k)
      ∙ (λ k. f ++ (a k ++ b k))

rows_undated : (s : List Aside) (es : List Entry) (n : ℕ) → n + length es ≤ 512 → All Filled es → Hides is_date_place undated s n es
rows_undated s [] n h a = tt
rows_undated s (e ∷ es) n h a = (row-undated n (omega arith) (cond (is_disputed e.made s) 1 0) e a.0, rows_undated s es (suc n) (omega arith) a.1)

date_places : Within is_date_place
unfolding is_date_place
date_places =
    record {
      before = λ i h. rw (lt-leb 4 i h);
      behind = λ i h. rw (le-leb 4 i (omega arith), le-ltb i 73732 h);
    }

pub table_hidden : (t : Tree) → All Filled t.entries → length (present_ones t.entries) ≤ 512 → hide_dates (table_bytes t) ≡ table_bytes (undated_tree t)
unfolding hide_dates undated_tree undated blind forgotten kept
table_hidden t a h =
    hidden_table is_date_place forgotten kept (λ e f. (refl, f.1, f.2)) date_places t a h
    (rows_undated t.asides (present_ones t.entries) 0 (omega arith) (all_present Filled t.entries a))

-- ---- the entries of a log

filled-step : (t : Tree) (r : Rec) → length r ≡ 80 → All Filled t.entries → All Filled (step t r).entries
unfolding new_entry stored renamed moved removed date_bytes label_of mark_of
filled-step t r n a =
    let P : Tree → Type 0 = λ (x : Tree). All Filled x.entries in
    let d : length (date_bytes r) ≡ 4 = part_length r 28 4 (omega arith) in
    let l : length (label_of r) ≡ 32 = part_length r 32 32 (omega arith) in
    let m : length (mark_of r) ≡ 16 = part_length r 64 16 (omega arith) in
    step_elim P t r
    (λ _. effect_elim P r t
    (λ _. all_append Filled t.entries (new_entry r ∷ []) a ((d, l, m), tt))
    (λ _. all_changed Filled (stored r) (object_of r) t.entries (λ e _ f. (d, f.1, m)) a)
    (λ _. all_changed Filled removed (object_of r) t.entries (λ e _ f. f) a)
    (λ _. all_changed Filled (renamed r) (object_of r) t.entries (λ e _ f. (f.0, l, f.2)) a)
    (λ _. a)
    (λ _. all_changed Filled (moved r) (object_of r) t.entries (λ e _ f. (f.0, l, f.2)) a))
    (λ x k _. a)

pub filled-replay : (t : Tree) (l : List Rec) → ((r : Rec) → Member r l → length r ≡ 80) → All Filled t.entries → All Filled (replay_from t l).entries
unfolding replay_from
filled-replay t [] h a = a
filled-replay t (r ∷ l) h a = filled-replay (step t r) l (λ s i. h s (inr i)) (filled-step t r (h r (inl refl)) a)

-- ---- at most one entry for a record

making_few : (v : Verdict) (r : Rec) → length (making v r) ≤ 1
unfolding making
making_few fits r = cond_elim (λ (x : List ℕ). length x ≤ 1) (leb (op r) 2) (self_of r ∷ []) [] (λ _. omega arith) (λ _. omega arith)
making_few (aside n k) r = omega arith

makes_few : (t : Tree) (l : List Rec) → length (makes_fit t l) ≤ length l
unfolding makes_fit
makes_few t [] = omega arith
makes_few t (r ∷ l) = omega (arith, length-append (making (judge r t) r) (makes_fit (step t r) l), making_few (judge r t) r, makes_few (step t r) l)

pub entries_few : (l : List Rec) → length (present_ones (replay l).entries) ≤ length l
unfolding replay empty_tree makers
entries_few l =
    let es : List Entry = (replay_from empty_tree l).entries in
    let q : length (makers es) ≡ length (makes_fit empty_tree l) = ap (λ (x : List ℕ). length x) (makers-replay empty_tree l) in
    omega (arith, present_few es, length-makers es, makes_few empty_tree l)
