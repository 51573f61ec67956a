-- A base that keeps its layout comes back from its rows; a sound base keeps it.
-- Assumes nothing.
use Prim.Native.Nat.{ℕ, zero, suc, ◌+◌, ◌-◌, ◌*◌, ◌≤◌, ◌<◌}
use native.Mathlib.Omega.{arith}
use mathlib.Core.Path.{◌≡◌, refl, sym, ap, ◌∙◌}
use mathlib.Core.Logic.{◌⊎◌, inl, inr, ⊎_elim}
use mathlib.Core.Bool.{true}
use mathlib.Core.List.{List, [], ◌++◌, append_assoc}
use lib.ListN.{get_or, length, take, drop, replicate, length-append, length-take, length-drop, length-replicate, replicate-append-replicate}
use lib.Seq.{take_at, take-add, take_all, drop_at}
use borrow.Author.Tests.{le-leb}
use Rattle.model.specs.Bytes.{word, blank, part, padded}
use Rattle.model.specs.Vector.{blocks_for}
use Rattle.model.specs.Record.{Rec}
use Rattle.base_model.specs.Base.{rest_blank, sound_base}
use Rattle.base_laws.proofs.Plain.{all_of}
use Rattle.base_laws.proofs.Trees.{sound_tells}
use Rattle.byte_slice.proofs.Numbers.{and_true}
use Rattle.byte_slice.proofs.Parts.{part_length, part_none, part-drop}
use Rattle.byte_slice.proofs.Compare.{blank-eq, blank-zeros, blank-take, blank_part}
use Rattle.byte_slice.proofs.Words.{word-part, word_front}
use Rattle.byte_slice.proofs.PutAt.{length-padded, put-padded, padded-nil}
use Rattle.block_laws.proofs.Fields.{Sized}
use Rattle.run_laws.proofs.Runs.{enough}
use Rattle.sab2_model.specs.Rows.{row_count, rows_said, row_start, row_long, base_row, base_rows_from, base_rows, base_to, base_from, tail_blank, rows_hold_for, rows_hold}
use Rattle.sab2_row_laws.specs.LaidOut.{LaidOut}
use Rattle.sab2_row_laws.proofs.Starts.{Head, Entry, Aside, row_cases, row_short, row_inside, rows_apart, gap_cases}
use Rattle.sab2_row_laws.proofs.Rows.{get_d_rows_from, length_rows_from, padded_front}

-- ---- a sound base of its length keeps its layout

pub sound_laid : (b : List ℕ) → length b ≡ 43032 → sound_base b ≡ true → LaidOut b
unfolding rest_blank part
sound_laid b h e =
    let s = sound_tells b e in
    let (x, y) = and_true (blank (part b (24 + 72 * word b 2) (36864 - 72 * word b 2))) (blank (part b (36888 + 12 * word b 4) (6144 - 12 * word b 4))) s.rest in
    record { long = h; entries = s.few_entries; asides = s.few_asides; behind_entries = x; behind_asides = rest b (word b 4) h s.few_asides y }
  where
    rest : (b : List ℕ) (a : ℕ) → length b ≡ 43032 → a ≤ 512 → blank (part b (36888 + 12 * a) (6144 - 12 * a)) ≡ true → blank (drop (36888 + 12 * a) b) ≡ true
    rest b a h k e =
        let n : length (drop (36888 + 12 * a) b) ≤ 6144 - 12 * a = omega (arith, length-drop (36888 + 12 * a) b) in
        rw (take_all (6144 - 12 * a) (drop (36888 + 12 * a) b) n) at e

-- ---- a base, by way of its rows

-- zeros may be left to the padding
pad_gap : (N : ℕ) (b : List ℕ) (x y : ℕ) → length b ≡ N → x ≤ N → x ≤ y → blank (part b x (y - x)) ≡ true → padded N (take y b) ≡ padded N (take x b)
unfolding padded part
pad_gap N b x y n h k t =
    let s : y ≡ x + (y - x) = omega arith in
    let m : ℕ = length (take (y - x) (drop x b)) in
    let M : m ≤ N - x = omega (arith, length-take (y - x) (drop x b), length-drop x b) in
    let o : take (y - x) (drop x b) ≡ replicate m 0 = blank-eq (take (y - x) (drop x b)) t in
    let l : length (take x b) ≡ x = omega (arith, length-take x b) in
    let L : length (take x b ++ replicate m 0) ≡ x + m = omega (arith, length-append (take x b) (replicate m 0), length-replicate {A = ℕ} m 0) in
    let q : m + (N - (x + m)) ≡ N - x = omega arith in
    let w : take y b ≡ take x b ++ replicate m 0 = ap (λ (i : ℕ). take i b) s ∙ take-add x (y - x) b ∙ ap (λ (i : List ℕ). take x b ++ i) o in
    (λ i. w i ++ replicate (N - length (w i)) 0)
    ∙ rw (L, l, append_assoc (take x b) (replicate m 0), replicate-append-replicate {A = ℕ} m (N - (x + m)) 0, q)

start_of_head : (e : ℕ) → row_start e 0 ≡ 0
unfolding row_start
start_of_head e = refl

long_of_head : (e a : ℕ) → row_long e a 0 ≡ 24
unfolding row_long
long_of_head e a = refl

count_is : (e a : ℕ) → row_count e a ≡ suc (e + blocks_for a)
unfolding row_count
count_is e a = refl

some_rows : (e a : ℕ) → 0 < row_count e a
unfolding row_count
some_rows e a = omega arith

all_sized : (b : List ℕ) → ((i : ℕ) → length (base_row b i) ≡ 80) → (n i : ℕ) → Sized (base_rows_from b i n)
unfolding base_rows_from
all_sized b h zero i = tt
all_sized b h (suc n) i = (h i, all_sized b h n (suc i))

grown : (b : List ℕ) (s l : ℕ) → take (s + l) b ≡ take s b ++ part b s l
unfolding part
grown b s l = take-add s l b

module _ (b : List ℕ) (B : LaidOut b) where
  abbrev e : ℕ
  e = word b 2

  abbrev a : ℕ
  a = word b 4

  abbrev rows : List Rec
  rows = base_rows b

  pub row_count_lem : length (base_rows b) ≡ row_count (word b 2) (word b 4)
  unfolding base_rows
  row_count_lem = length_rows_from b 0 (row_count e a)

  row_is_lem : (i : ℕ) → i < row_count e a → get_or rows i [] ≡ base_row b i
  unfolding base_rows
  row_is_lem i h = let q : 0 + i ≡ i = omega arith in get_d_rows_from b 0 (row_count e a) i h ∙ ap (base_row b) q

  inside : (i : ℕ) → i < row_count e a → row_start e i + row_long e a i ≤ 43032
  inside i h = row_inside e a i B.entries B.asides h

  bytes_long : (i : ℕ) → i < row_count e a → length (part b (row_start e i) (row_long e a i)) ≡ row_long e a i
  bytes_long i h = part_length b (row_start e i) (row_long e a i) (omega (arith, inside i h, B.long))

  row_front : (i : ℕ) → i < row_count e a → take (row_long e a i) (get_or rows i []) ≡ part b (row_start e i) (row_long e a i)
  unfolding base_row padded
  row_front i h =
      rw (row_is_lem i h) (take_at (part b (row_start e i) (row_long e a i)) _ (row_long e a i) (bytes_long i h))

  -- between two rows, and behind the last, a base is zero
  gap_blank : (i : ℕ) → blank (part b (row_start e i + row_long e a i) (row_start e (suc i) - (row_start e i + row_long e a i))) ≡ true
  gap_blank i =
      ⊎_elim
      (λ (h : row_start e (suc i) ≡ row_start e i + row_long e a i). nothing _ _ (omega arith))
      (λ (h : ((row_start e i + row_long e a i ≡ 24 + 72 * e) × (row_start e (suc i) ≡ 36888)) ⊎ (36888 + 12 * a ≤ row_start e i + row_long e a i)).
      ⊎_elim
      (λ (k : (row_start e i + row_long e a i ≡ 24 + 72 * e) × (row_start e (suc i) ≡ 36888)). jump _ _ k.0 (omega (arith, B.entries)))
      (λ (k : 36888 + 12 * a ≤ row_start e i + row_long e a i). rest _ _ k)
      h)
      (gap_cases e a i)
    where
      nothing : (x y : ℕ) → y ≡ 0 → blank (part b x y) ≡ true
      nothing x y h = rw (h, part_none b x) (blank-zeros 0)

      jump : (x y : ℕ) → x ≡ 24 + 72 * e → y ≡ 36864 - 72 * e → blank (part b x y) ≡ true
      jump x y g h = rw (g, h) B.behind_entries

      rest : (x y : ℕ) → 36888 + 12 * a ≤ x → blank (part b x y) ≡ true
      rest x y h =
          let s : 36888 + 12 * a + (x - (36888 + 12 * a)) ≡ x = omega arith in
          ap blank (sym (part-drop b (36888 + 12 * a) (x - (36888 + 12 * a)) y ∙ ap (λ (i : ℕ). part b i y) s)) ∙ blank_part (drop (36888 + 12 * a) b) (x - (36888 + 12 * a)) y B.behind_asides

  -- as the first n rows leave it
  base_front : (n : ℕ) → n ≤ row_count e a → base_to rows e a n ≡ padded 43032 (take (row_start e n) b)
  unfolding base_to
  base_front zero h = rw (start_of_head e) (sym (padded-nil 43032))
  base_front (suc n) h =
      let s : ℕ = row_start e n in
      let l : ℕ = row_long e a n in
      let w : s + l ≤ 43032 = inside n (omega arith) in
      let m : length (take s b) ≡ s = omega (arith, length-take s b, B.long) in
      let g : take s b ++ part b s l ≡ take (s + l) b = sym (grown b s l) in
      rw (base_front n (omega arith), row_front n (omega arith))
      ((rw m at (put-padded 43032 (take s b) (part b s l)))
      ∙ ap (padded 43032) g
      ∙ sym (pad_gap 43032 b (s + l) (row_start e (suc n)) B.long w (rows_apart e a n (suc n) B.entries (omega arith)) (gap_blank n)))

  -- the head row is in front
  head_word : (i : ℕ) → i + 1 < 24 → word (get_or rows 0 []) i ≡ word b i
  unfolding base_row padded
  head_word i h =
      let q : 0 < row_count e a = some_rows e a in
      let m : length (part b 0 24) ≡ 24 = part_length b 0 24 (omega (arith, B.long)) in
      let t : 0 + i ≡ i = omega arith in
      rw (row_is_lem 0 q, start_of_head e, long_of_head e a) (word_front (part b 0 24) _ i (omega arith) ∙ word-part b 0 24 i h ∙ ap (word b) t)

  pub rows_said_lem : rows_said (get_or (base_rows b) 0 []) ≡ length (base_rows b)
  unfolding rows_said
  rows_said_lem = rw (head_word 2 (omega arith), head_word 4 (omega arith)) (sym row_count_lem)

  pub few_rows : length (base_rows b) ≤ 599
  unfolding row_count blocks_for
  few_rows = omega (arith, row_count_lem, B.entries, B.asides)

  row-long : (i : ℕ) → length (base_row b i) ≡ 80
  unfolding base_row part
  row-long i =
      length-padded 80 (part b (row_start e i) (row_long e a i)) (omega (arith, length-take (row_long e a i) (drop (row_start e i) b), row_short e a i))

  pub rows_sized : Sized (base_rows b)
  unfolding base_rows
  rows_sized = all_sized b row-long (row_count e a) 0

  tail : (i : ℕ) → i < row_count e a → blank (drop (row_long e a i) (base_row b i)) ≡ true
  unfolding base_row padded
  tail i k = rw (drop_at (part b (row_start e i) (row_long e a i)) _ (row_long e a i) (bytes_long i k)) (blank-zeros (80 - length (part b (row_start e i) (row_long e a i))))

  pub rows_hold_lem : rows_hold (base_rows b) ≡ true
  unfolding rows_hold rows_hold_for tail_blank
  rows_hold_lem =
      rw (head_word 2 (omega arith), head_word 4 (omega arith), le-leb e 512 B.entries, le-leb a 512 B.asides, row_count_lem)
      (all_of (row_count e a) (tail_blank rows e a) (λ i h. rw (row_is_lem i h) (tail i h)))

  behind_last : 36888 + 12 * a ≤ row_start e (row_count e a)
  behind_last = go (row_cases e a (row_count e a))
    where
      k : (row_count e a ≡ suc (e + blocks_for a)) × (a ≤ 6 * blocks_for a)
      k = (count_is e a, enough a)

      go : Head e a (row_count e a) ⊎ (Entry e a (row_count e a) ⊎ Aside e a (row_count e a)) → 36888 + 12 * a ≤ row_start e (row_count e a)
      go (inl x) = absurd (omega (arith, k))
      go (inr (inl x)) = absurd (omega (arith, k))
      go (inr (inr x)) = omega (arith, k)

  whole : padded 43032 (take (row_start e (row_count e a)) b) ≡ b
  unfolding part
  whole =
      let s : ℕ = row_start e (row_count e a) in
      let x : ℕ = 36888 + 12 * a in
      let h : x ≤ 43032 = omega (arith, B.asides) in
      pad_gap 43032 b x s B.long h behind_last (blank-take (s - x) (drop x b) B.behind_asides)
      ∙ padded_front b x 43032 B.long h B.behind_asides

  -- the base that its rows leave is that base
  pub base_of_rows : base_from (base_rows b) ≡ b
  unfolding base_from
  base_of_rows = rw (head_word 2 (omega arith), head_word 4 (omega arith), row_count_lem) (base_front (row_count e a) (omega arith) ∙ whole)
