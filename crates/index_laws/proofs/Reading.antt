-- The bytes of an index read back, and what halving finds in them.
-- Assumes nothing.
use Prim.Native.Nat.{ℕ, zero, suc, ◌+◌, ◌-◌, ◌*◌, ◌/◌, ◌%◌, ◌≤◌, ◌<◌}
use native.Mathlib.Nat.{add-zero}
use native.Mathlib.Omega.{arith}
use mathlib.Core.Path.{◌≡◌, refl, sym, ap, ◌∙◌}
use mathlib.Core.Logic.{◌⊎◌, inl, inr, ⊎_elim}
use mathlib.Core.Bool.{Bool, true, false, cond, ◌&&◌, ◌||◌}
use mathlib.Core.List.{List, [], ◌∷◌, ◌++◌, append_assoc}
use lib.Dec.{ltb, eqb}
use lib.ListN.{get_or, length, take, drop, replicate, length-append}
use lib.Seq.{drop-cons}
use borrow.Author.Tests.{ltb-true, ltb-false, lt-ltb, le-ltb, eqb-true}
use Rattle.byte_slice.proofs.Numbers.{lt_or_ge, eq_or_ne, bool_cases, and_wrong, and_true, not_both, test_false}
use Rattle.byte_slice.proofs.Parts.{part_front, part-behind, part-whole}
use Rattle.byte_slice.proofs.Words.{word_two}
use Rattle.model.specs.Bytes.{word, two, part, padded}
use Rattle.model.specs.Record.{identity, identity_at}
use Rattle.model.specs.Replay.{Entry, lower, label_key}
use Rattle.record_label.proofs.Same.{key_length}
use Rattle.model.specs.Table.{identity_bytes}
use Rattle.log_laws.proofs.Members.{All, all_at}
use Rattle.tree_laws.specs.Replayed.{Has, makers}
use Rattle.tree_table.proofs.Rows.{identity-behind}
use Rattle.index_model.specs.Index.{index_places, comes_before, folder_key, key_before, entry_before, index_row, index_rows, index_bytes, halve, rows_in, folder_at, label_at, entry_at, row_before, seek, entries_in}
use Rattle.index_laws.proofs.Sorted.{Sorted, Sought, sought, key_trans, key_same, key_not_self, same_keys}

-- ---- rows

-- the label has its length
abbrev pub Long : Entry → Type 0
Long e = length e.label ≡ 32

identity_back : (k : ℕ) → 8 * (k / 8 % 256 + 256 * (k / 8 / 256)) + k % 8 ≡ k
identity_back k = omega arith

identity_first : (k : ℕ) (q : List ℕ) → identity_at (identity_bytes k ++ q) 0 ≡ k
unfolding identity_at identity word identity_bytes
identity_first k q = identity_back k

pub row-long : (e : Entry) → Long e → length (index_row e) ≡ 40
unfolding index_row identity_bytes
row-long e n = omega (arith, length-append e.label (identity_bytes e.made))

pub rows_long : (l : List Entry) → All Long l → length (index_rows l) ≡ 40 * length l
unfolding index_rows
rows_long [] a = refl
rows_long (e ∷ l) a = omega (arith, length-append (index_row e) (index_rows l), row-long e a.0, rows_long l a.1)

-- what row i of some rows shows
record Shows (b : List ℕ) (at : ℕ) (e : Entry) : Type 0 where
  folder : identity_at b at ≡ e.inside
  label : part b (at + 4) 32 ≡ e.label
  entry : identity_at b (at + 36) ≡ e.made

four_more : (e : Entry) → Long e → length (identity_bytes e.inside ++ e.label) ≡ 36
unfolding identity_bytes
four_more e n = omega arith

identity-long : (k : ℕ) → length (identity_bytes k) ≡ 4
unfolding identity_bytes
identity-long k = refl

part-next : (p q : List ℕ) → length p ≡ 4 → part (p ++ q) 4 32 ≡ part q 0 32
part-next p q n = rw (add-zero (length p), n) at (part-behind p q 0 32)

one_row : (e : Entry) (q : List ℕ) → Long e → Shows (index_row e ++ q) 0 e
unfolding index_row
one_row e q n =
    let x = identity_bytes e.inside in
    let y = identity_bytes e.made in
    let a : (x ++ (e.label ++ y)) ++ q ≡ x ++ (e.label ++ (y ++ q)) = rw (append_assoc x (e.label ++ y) q, append_assoc e.label y q) in
    let c : x ++ (e.label ++ (y ++ q)) ≡ (x ++ e.label) ++ (y ++ q) = sym (append_assoc x e.label (y ++ q)) in
    let m : length (x ++ e.label) ≡ 36 = four_more e n in
    record {
      folder = rw a (identity_first e.inside (e.label ++ (y ++ q)));
      label = rw a (part-next x (e.label ++ (y ++ q)) (identity-long e.inside) ∙ part_front e.label (y ++ q) 0 32 (omega arith) ∙ rw (← n) (part-whole e.label));
      entry = rw (a, c) ((rw (add-zero (length (x ++ e.label)), m) at (identity-behind (x ++ e.label) (y ++ q) 0)) ∙ identity_first e.made q);
    }

shows-behind : (p q : List ℕ) (at : ℕ) (e : Entry) → Shows q at e → Shows (p ++ q) (length p + at) e
shows-behind p q at e s =
    let u : length p + at + 4 ≡ length p + (at + 4) = omega arith in
    let v : length p + at + 36 ≡ length p + (at + 36) = omega arith in
    record {
      folder = identity-behind p q at ∙ s.folder;
      label = rw u (part-behind p q (at + 4) 32 ∙ s.label);
      entry = rw v (identity-behind p q (at + 36) ∙ s.entry);
    }

rows_show : (l : List Entry) (q : List ℕ) (i : ℕ) (d : Entry) → i < length l → All Long l → Shows (index_rows l ++ q) (40 * i) (get_or l i d)
unfolding index_rows
rows_show [] q i d h a = absurd (omega arith)
rows_show (e ∷ l) q zero d h a = rw (append_assoc (index_row e) (index_rows l) q) (one_row e (index_rows l ++ q) a.0)
rows_show (e ∷ l) q (suc i) d h a =
    let n : 40 * suc i ≡ length (index_row e) + 40 * i = omega (arith, row-long e a.0) in
    rw (append_assoc (index_row e) (index_rows l) q, n) (shows-behind (index_row e) (index_rows l ++ q) (40 * i) (get_or l i d) (rows_show l q i d (omega arith) a.1))

-- ---- an index of entries

module _ (l : List Entry) (few : length l ≤ index_places) (long : All Long l) where
  pub rows_counted : rows_in (index_bytes l) ≡ length l
  unfolding rows_in index_bytes
  rows_counted = omega (arith, word_two (length l) (0 ∷ 0 ∷ padded 40960 (index_rows l)))

  module _ (i : ℕ) (d : Entry) (h : i < length l) where
    shown : Shows (index_bytes l) (4 + 40 * i) (get_or l i d)
    unfolding index_bytes padded
    shown = shows-behind (two (length l) ++ (0 ∷ 0 ∷ [])) (index_rows l ++ replicate (40960 - length (index_rows l)) 0) (40 * i) (get_or l i d) (rows_show l (replicate (40960 - length (index_rows l)) 0) i d h long)

    pub folder_back : folder_at (index_bytes l) i ≡ (get_or l i d).inside
    unfolding folder_at
    folder_back = shown.folder

    pub label_back : label_at (index_bytes l) i ≡ (get_or l i d).label
    unfolding label_at
    label_back = shown.label

    pub entry_back : entry_at (index_bytes l) i ≡ (get_or l i d).made
    unfolding entry_at
    entry_back = shown.entry

    pub before_back : (f : ℕ) (t : List ℕ) → row_before (index_bytes l) f t i ≡ key_before (folder_key (get_or l i d).inside) (get_or l i d).label f t
    unfolding row_before
    before_back f t = rw (folder_back, label_back)

  pub entries_back : (d : Entry) (i n : ℕ) → i + n ≤ length l → entries_in (index_bytes l) i n ≡ makers (take n (drop i l))
  unfolding entries_in makers
  entries_back d i zero h = refl
  entries_back d i (suc n) h = rw (drop-cons l i d (omega arith), entry_back i d (omega arith), entries_back d (suc i) n (omega arith))

-- ---- entries in order, by place

pub has_at : (l : List Entry) (i : ℕ) (d : Entry) → i < length l → Has (get_or l i d) l
has_at [] i d h = absurd (omega arith)
has_at (e ∷ l) zero d h = inl refl
has_at (e ∷ l) (suc i) d h = inr (has_at l i d (omega arith))

pub place_of : (l : List Entry) (x d : Entry) → Has x l → (i : ℕ) × (i < length l) × (get_or l i d ≡ x)
place_of [] x d h = absurd h
place_of (e ∷ l) x d (inl q) = (0, omega arith, sym q)
place_of (e ∷ l) x d (inr h) = let (i, k, q) = place_of l x d h in (suc i, omega arith, q)

pub entry_not_self : (x : Entry) → entry_before x x ≡ false
unfolding entry_before
entry_not_self x = key_not_self (folder_key x.inside) x.label

pub entry_keys : (y x : Entry) → entry_before y x ≡ false → key_before (folder_key y.inside) y.label (folder_key x.inside) x.label ≡ false
unfolding entry_before
entry_keys y x e = e

pub sorted_at : (l : List Entry) → Sorted l → (i j : ℕ) (d : Entry) → i ≤ j → j < length l → entry_before (get_or l j d) (get_or l i d) ≡ false
sorted_at [] s i j d h k = absurd (omega arith)
sorted_at (e ∷ l) s zero zero d h k = entry_not_self e
sorted_at (e ∷ l) s zero (suc j) d h k = s.0 (get_or l j d) (has_at l j d (omega arith))
sorted_at (e ∷ l) s (suc i) zero d h k = absurd (omega arith)
sorted_at (e ∷ l) s (suc i) (suc j) d h k = sorted_at l s.1 i j d (omega arith) (omega arith)

-- what comes before a key, and not before another, has that other before the key
pub key_monotone : (g : ℕ) (s : List ℕ) (f : ℕ) (t : List ℕ) (h : ℕ) (r : List ℕ) → key_before g s f t ≡ true → key_before g s h r ≡ false → key_before h r f t ≡ true
key_monotone g s f t h r p q =
    ⊎_elim
    (λ c. c)
    (λ (c : key_before h r f t ≡ false).
    absurd
    (⊎_elim
    (λ (e : key_before f t h r ≡ true). not_both (key_before g s h r) (key_trans g s f t h r p e) q)
    (λ (e : key_before f t h r ≡ false).
    let (u, v) = key_same h r f t c e in
    not_both (key_before g s h r) (same_keys g s f t h r (sym u) (sym v) p) q)
    (bool_cases (key_before f t h r))))
    (bool_cases (key_before h r f t))

module _ (l : List Entry) (few : length l ≤ index_places) (long : All Long l) (sorted : Sorted l) (d : Entry) where
  pub rows_rise : (f : ℕ) (t : List ℕ) (i j : ℕ) → i ≤ j → j < length l → row_before (index_bytes l) f t j ≡ true → row_before (index_bytes l) f t i ≡ true
  rows_rise f t i j h k p =
      let x = get_or l i d in
      let y = get_or l j d in
      before_back l few long i d (omega arith) f t
      ∙ key_monotone (folder_key y.inside) y.label f t (folder_key x.inside) x.label
      (sym (before_back l few long j d k f t) ∙ p)
      (entry_keys y x (sorted_at l sorted i j d h k))

  -- seeking finds the first row that does not come before the key
  pub seek_finds : (f : ℕ) (t : List ℕ) → Sought (row_before (index_bytes l) f t) 0 (length l) (seek (index_bytes l) f t)
  unfolding seek
  seek_finds f t =
      rw (rows_counted l few long)
      (sought (row_before (index_bytes l) f t) 11 0 (length l) (λ i j _ y z. rows_rise f t i j y z) (omega arith) (omega arith))

-- ---- keys of folders

pub key_one : (a b : ℕ) → a < 4294967296 → b < 4294967296 → folder_key a ≡ folder_key b → a ≡ b
unfolding folder_key
key_one a b h k e = omega arith

-- no text of 32 bytes comes before 32 zeros
before-zeros : (s : List ℕ) (n : ℕ) → n ≤ length s → comes_before s (replicate n 0) ≡ false
unfolding comes_before
before-zeros [] zero h = refl
before-zeros [] (suc n) h = absurd (omega arith)
before-zeros (x ∷ s) zero h = refl
before-zeros (x ∷ s) (suc n) h = rw (le-ltb x 0 (omega arith), before-zeros s n (omega arith), and_wrong (eqb x 0))

-- zeros are no letters
key_zeros : (n : ℕ) → label_key (replicate n 0) ≡ replicate n 0
unfolding label_key lower
key_zeros zero = refl
key_zeros (suc n) = ap (λ (t : List ℕ). 0 ∷ t) (key_zeros n)

pub key_blank : (f : ℕ) (s : List ℕ) (g : ℕ) → length s ≡ 32 → key_before f s g (replicate 32 0) ≡ ltb f g
unfolding key_before
key_blank f s g n =
    rw (key_zeros 32, before-zeros (label_key s) 32 (omega (arith, key_length s)), and_wrong (eqb f g)) (or_right (ltb f g))
  where
    or_right : (a : Bool) → (a || false) ≡ a
    or_right true = refl
    or_right false = refl
