-- What each way out of a call returns and leaves, over plain values.
-- Assumes nothing.
use Prim.Native.Nat.{ℕ, zero, suc, ◌+◌, ◌-◌, ◌*◌, ◌/◌, ◌%◌, ◌≤◌, ◌<◌}
use native.Mathlib.Omega.{arith}
use mathlib.Core.Path.{◌≡◌, refl, sym, ap, ◌∙◌}
use mathlib.Core.Logic.{⊎_elim}
use mathlib.Core.Bool.{Bool, true, false, ◌&&◌}
use mathlib.Core.List.{List, [], ◌++◌}
use lib.Dec.{ltb, leb, eqb}
use lib.ListN.{length, replicate}
use borrow.Author.Tests.{ltb-true, eqb-true, eq-eqb, ne_eqb, le-leb, lt-leb}
use Rattle.byte_slice.proofs.Numbers.{bool_cases}
use Rattle.byte_slice.proofs.PutAt.{put_more, put_whole}
use Rattle.model.specs.Bytes.{two, put_at}
use Rattle.model.specs.Record.{identity}
use Rattle.index_model.specs.Index.{folder_key, halve, row_before, rows_in, seek, first_in, end_in, Found, found, Range, range, range_of, find_of}
use Rattle.sab_words.specs.Words.{packed}
use Rattle.sab_words.specs.Called.{called, wrong_buffer}
use Rattle.sab_index.specs.Told.{folder_asked, found_word, range_bytes, told_range, listed_of}

-- ---- the folder asked

module _ (u n : ℕ) where
  pub far_unit : 7 < u → 4294967295 ≡ folder_asked u n
  unfolding folder_asked
  far_unit h = rw (lt-leb u 7 h)

  pub far_number : u ≤ 7 → 65535 < n → 4294967295 ≡ folder_asked u n
  unfolding folder_asked
  far_number h k = rw (le-leb u 7 h, lt-leb n 65535 k)

  pub near : u ≤ 7 → n ≤ 65535 → 8 * n + u ≡ folder_asked u n
  unfolding folder_asked identity
  near h k = rw (le-leb u 7 h, le-leb n 65535 k)

-- ---- looking up

pub finds : (b : List ℕ) (f g : ℕ) (t : List ℕ) (n e : ℕ) {x y r : ℕ} → f ≡ g → found n e ≡ find_of b f t → x ≡ e % 8 → y ≡ e / 8 % 65536 → r ≡ packed n x y → r ≡ found_word (find_of b g t)
unfolding found_word found
finds b f g t n e i q p s w = rw (← i, ← q, w, p, s)

-- ---- listing

halve_within : (p : ℕ → Bool) (n lo hi : ℕ) → lo ≤ hi → halve p n lo hi ≤ hi
unfolding halve
halve_within p zero lo hi h = h
halve_within p (suc n) lo hi h =
    let mid : ℕ = lo + (hi - lo) / 2 in
    ⊎_elim
    (λ (a : ltb lo hi ≡ true).
    let k : lo < hi = ltb-true lo hi a in
    ⊎_elim
    (λ (b : p mid ≡ true). rw (a, b) (halve_within p n (mid + 1) hi (omega arith)))
    (λ (b : p mid ≡ false). rw (a, b) (let w : halve p n lo mid ≤ mid = halve_within p n lo mid (omega arith) in omega arith))
    (bool_cases (p mid)))
    (λ (a : ltb lo hi ≡ false). rw a h)
    (bool_cases (ltb lo hi))

rows_few : (b : List ℕ) (f : ℕ) (t : List ℕ) → seek b f t ≤ 1024
unfolding seek rows_in
rows_few b f t = let w : halve (row_before b f t) 11 0 (rows_in b) ≤ rows_in b = halve_within (row_before b f t) 11 0 (rows_in b) (omega arith) in omega arith

range_few : (b : List ℕ) (f : ℕ) → ((range_of b f).first ≤ 1024) × ((range_of b f).count ≤ 1024)
unfolding range_of range first_in end_in
range_few b f =
    ⊎_elim
    (λ (a : eqb (length b) 40964 ≡ true).
    let x : seek b (folder_key f) (replicate 32 0) ≤ 1024 = rows_few b (folder_key f) (replicate 32 0) in
    let y : seek b (folder_key f + 1) (replicate 32 0) ≤ 1024 = rows_few b (folder_key f + 1) (replicate 32 0) in
    rw a (x, omega arith))
    (λ (a : eqb (length b) 40964 ≡ false). rw a (omega arith, omega arith))
    (bool_cases (eqb (length b) 40964))

module _ (b : List ℕ) (f n x k : ℕ) (e : range n x k ≡ range_of b f) where
  pub first_few : x ≤ 1024
  unfolding range
  first_few = let q : x ≡ (range_of b f).first = ap (λ (o : Range). o.first) e in omega (arith, (range_few b f).0)

  pub count_few : k ≤ 1024
  unfolding range
  count_few = let q : k ≡ (range_of b f).count = ap (λ (o : Range). o.count) e in omega (arith, (range_few b f).1)

pub tells_range : (d : List ℕ) (a k : ℕ) {x y : List ℕ} {m n r : ℕ} → length d ≡ 4 → m ≡ a → n ≡ k → x ≡ put_at d 0 (two m) → y ≡ put_at x 2 (two n) → r ≡ packed 0 0 n
    → called r [] y ≡ told_range d (range 0 a k)
unfolding told_range range range_bytes
tells_range d a k h i j p q w =
    let t : put_at (put_at d 0 (two a)) 2 (two k) ≡ put_at d 0 (two a ++ two k) = put_more d 0 (two a) (two k) (omega arith) in
    rw (w, q, p, i, j, t, put_whole d (two a ++ two k) (omega arith))

module _ (b d : List ℕ) (g : ℕ) {r : ℕ} where
  pub lent_wrong : (length d ≡ 4 → ⊥) → r ≡ packed 1 0 0 → called r [] d ≡ listed_of b g d
  unfolding listed_of wrong_buffer
  lent_wrong h w = rw (ne_eqb (length d) 4 h, w)

  module _ (f n x k : ℕ) (h : length d ≡ 4) (i : f ≡ g) (e : range n x k ≡ range_of b f) where
    pub list_refused : (n ≡ 0 → ⊥) → r ≡ packed n 0 0 → called r [] d ≡ listed_of b g d
    unfolding listed_of told_range range
    list_refused z w = rw (eq-eqb (length d) 4 h, ← i, ← e, ne_eqb n 0 z, w)

    pub lists : {y : List ℕ} → n ≡ 0 → called r [] y ≡ told_range d (range 0 x k) → called r [] y ≡ listed_of b g d
    unfolding listed_of
    lists z w = rw (eq-eqb (length d) 4 h, ← i, ← e, z) w
