-- What rows of a tree table show is what was laid in them.
-- Assumes nothing.
use Prim.Native.Nat.{ℕ, suc, ◌+◌, ◌-◌, ◌*◌, ◌/◌, ◌%◌, ◌≤◌}
use native.Mathlib.Nat.{add-zero, add_assoc}
use native.Mathlib.Omega.{arith}
use mathlib.Core.Path.{◌≡◌, refl, ◌∙◌}
use mathlib.Core.Bool.{Bool, true, false, cond}
use mathlib.Core.List.{List, [], ◌∷◌, ◌++◌, append_assoc}
use lib.Dec.{eqb}
use lib.ListN.{length, take, drop, replicate, length-append, length-replicate}
use lib.Seq.{get_or-append-add, take_at, drop_at}
use Rattle.model.specs.Bytes.{word, part, padded}
use Rattle.model.specs.Record.{identity, identity_at}
use Rattle.model.specs.Replay.{Entry, Aside, Tree}
use Rattle.model.specs.Table.{identity_bytes, entry_row, aside_row, entry_rows, aside_rows, entry_in, aside_in, flagged}
use Rattle.byte_slice.proofs.Parts.{part-behind}
use Rattle.byte_slice.proofs.Words.{word-behind}
use Rattle.tree_table.specs.Rows.{entries_from, asides_from, tree_in, flag_of, Proper, AllProper}

-- ---- behind other bytes

pub identity-behind : (p q : List ℕ) (i : ℕ) → identity_at (p ++ q) (length p + i) ≡ identity_at q i
unfolding identity_at
identity-behind p q i = rw (get_or-append-add p q i 0, add_assoc (length p) i 2, word-behind p q (i + 2))

pub entry-behind : (p q : List ℕ) (i : ℕ) → entry_in (p ++ q) (length p + i) ≡ entry_in q i
unfolding entry_in
entry-behind p q i =
    rw (
      add_assoc (length p) i 4,
      add_assoc (length p) i 8,
      add_assoc (length p) i 12,
      add_assoc (length p) i 16,
      add_assoc (length p) i 20,
      add_assoc (length p) i 24,
      add_assoc (length p) i 56,
      identity-behind p q (i + 4),
      identity-behind p q (i + 8),
      identity-behind p q (i + 12),
      identity-behind p q (i + 16),
      get_or-append-add p q i 0,
      part-behind p q (i + 24) 32,
      part-behind p q (i + 20) 4,
      part-behind p q (i + 56) 16,
    )

pub aside-behind : (p q : List ℕ) (i : ℕ) → aside_in (p ++ q) (length p + i) ≡ aside_in q i
unfolding aside_in
aside-behind p q i =
    rw (
      add_assoc (length p) i 4,
      add_assoc (length p) i 5,
      add_assoc (length p) i 8,
      identity-behind p q i,
      identity-behind p q (i + 8),
      get_or-append-add p q (i + 4) 0,
      get_or-append-add p q (i + 5) 0,
    )

-- ---- one row

identity_back : (k : ℕ) → 8 * (k / 8 % 256 + 256 * (k / 8 / 256)) + k % 8 ≡ k
identity_back k = omega arith

open_back : (o : Bool) → eqb (cond o 1 2) 1 ≡ o
open_back true = refl
open_back false = refl

-- three fields behind one another
module _ (a b c q : List ℕ) (ha : length a ≡ 4) (hb : length b ≡ 32) (hc : length c ≡ 16) where
  first_field : take 4 ((a ++ (b ++ c)) ++ q) ≡ a
  first_field = rw (append_assoc a (b ++ c) q) (take_at a ((b ++ c) ++ q) 4 ha)

  second_field : take 32 (drop 4 ((a ++ (b ++ c)) ++ q)) ≡ b
  second_field = rw (append_assoc a (b ++ c) q, drop_at a ((b ++ c) ++ q) 4 ha, append_assoc b c q) (take_at b (c ++ q) 32 hb)

  third_field : take 16 (drop 36 ((a ++ (b ++ c)) ++ q)) ≡ c
  third_field =
      let n : length (a ++ b) ≡ 36 = omega (arith, length-append a b) in
      rw (← append_assoc a b c, append_assoc (a ++ b) c q, drop_at (a ++ b) (c ++ q) 36 n) (take_at c q 16 hc)

pub row_back : (d : ℕ) (e : Entry) (q : List ℕ) → Proper e → entry_in (entry_row d e ++ q) 0 ≡ e
unfolding entry_in identity_at identity word entry_row identity_bytes part
row_back d e q s =
    let x = first_field e.date e.label e.mark q s.date_long s.label_long s.mark_long in
    let y = second_field e.date e.label e.mark q s.date_long s.label_long s.mark_long in
    let z = third_field e.date e.label e.mark q s.date_long s.label_long s.mark_long in
    rw (x, y, z, identity_back e.made, identity_back e.inside, identity_back e.contents, identity_back e.placing)

pub aside_back : (a : Aside) (q : List ℕ) → aside_in (aside_row a ++ q) 0 ≡ a
unfolding aside_in identity_at identity word aside_row identity_bytes
aside_back a q = rw (identity_back a.who, identity_back a.marked, open_back a.is_open)

-- ---- all rows

pub row-length : (d : ℕ) (e : Entry) → Proper e → length (entry_row d e) ≡ 72
unfolding entry_row identity_bytes
row-length d e s =
    let n4 = s.date_long in
    let n32 = s.label_long in
    let n16 = s.mark_long in
    omega (arith, length-append e.date (e.label ++ e.mark), length-append e.label e.mark)

pub aside_row_length : (a : Aside) → length (aside_row a) ≡ 12
unfolding aside_row identity_bytes
aside_row_length a = refl

pub rows_length : (s : List Aside) (es : List Entry) → AllProper es → length (entry_rows s es) ≡ 72 * length es
unfolding entry_rows
rows_length s [] h = refl
rows_length s (e ∷ l) h =
    let d = flag_of s e in
    omega (arith, length-append (entry_row d e) (entry_rows s l), row-length d e h.0, rows_length s l h.1)

pub aside_rows_length : (l : List Aside) → length (aside_rows l) ≡ 12 * length l
unfolding aside_rows aside_row identity_bytes
aside_rows_length [] = refl
aside_rows_length (a ∷ l) = omega (arith, aside_rows_length l)

pub entries_back : (s : List Aside) (es : List Entry) (p q : List ℕ) (i : ℕ) → length p ≡ 4 + 72 * i → AllProper es
    → entries_from (p ++ (entry_rows s es ++ q)) i (length es) ≡ es
unfolding entries_from entry_rows
entries_back s [] p q i n h = refl
entries_back s (e ∷ l) p q i n h =
    let row = entry_row (flag_of s e) e in
    let rest = entry_rows s l in
    let a : entry_in (p ++ ((row ++ rest) ++ q)) (4 + 72 * i) ≡ e =
    (rw (add-zero (length p), n) at (entry-behind p ((row ++ rest) ++ q) 0))
    ∙ rw (append_assoc row rest q) (row_back (flag_of s e) e (rest ++ q) h.0) in
    let m : length (p ++ row) ≡ 4 + 72 * suc i = omega (arith, length-append p row, row-length (flag_of s e) e h.0) in
    let b = rw (append_assoc p row (rest ++ q), ← append_assoc row rest q) at (entries_back s l (p ++ row) q (suc i) m h.1) in
    λ j. a j ∷ b j

pub asides_back : (l : List Aside) (p q : List ℕ) (i : ℕ) → length p ≡ 73732 + 12 * i → asides_from (p ++ (aside_rows l ++ q)) i (length l) ≡ l
unfolding asides_from aside_rows
asides_back [] p q i n = refl
asides_back (x ∷ l) p q i n =
    let row = aside_row x in
    let rest = aside_rows l in
    let a : aside_in (p ++ ((row ++ rest) ++ q)) (73732 + 12 * i) ≡ x =
    (rw (add-zero (length p), n) at (aside-behind p ((row ++ rest) ++ q) 0)) ∙ rw (append_assoc row rest q) (aside_back x (rest ++ q)) in
    let m : length (p ++ row) ≡ 73732 + 12 * suc i = omega (arith, length-append p row, aside_row_length x) in
    let b = rw (append_assoc p row (rest ++ q), ← append_assoc row rest q) at (asides_back l (p ++ row) q (suc i) m) in
    λ j. a j ∷ b j

-- the tree that a table shows is the tree that was laid in it
pub tree_back : (s : List Aside) (t : Tree) → AllProper t.entries → length t.entries ≤ 1024
    → tree_in (flagged s t.entries t.asides) (length t.entries) (length t.asides) ≡ t
unfolding tree_in flagged padded
tree_back s t h n =
    let R = entry_rows s t.entries in
    let A = aside_rows t.asides in
    let z : List ℕ = replicate (73728 - length R) 0 in
    let y : List ℕ = replicate (12288 - length A) 0 in
    let head : List ℕ = (0 ∷ 0 ∷ 0 ∷ 0 ∷ []) in
    let a = rw (← append_assoc R z (A ++ y)) at (entries_back s t.entries head (z ++ (A ++ y)) 0 refl h) in
    let m : length (head ++ (R ++ z)) ≡ 73732 = omega (arith, rows_length s t.entries h, length-append R z, length-replicate {A = ℕ} (73728 - length R) 0) in
    let b = rw (append_assoc head (R ++ z) (A ++ y)) at (asides_back t.asides (head ++ (R ++ z)) y 0 m) in
    λ i. record { entries = a i; asides = b i }
