-- A block in which no fault is found is the writing of what it says, whatever its four letters.
-- Assumes nothing.
use Prim.Native.Nat.{ℕ, zero, suc, ◌+◌, ◌-◌, ◌*◌, ◌/◌, ◌%◌, ◌≤◌, ◌<◌}
use native.Mathlib.Omega.{arith}
use mathlib.Core.Path.{◌≡◌, sym, ap, ◌∙◌}
use mathlib.Core.Logic.{⊎_elim}
use mathlib.Core.Bool.{true}
use mathlib.Core.List.{List, [], ◌∷◌, ◌++◌}
use lib.ListN.{get_or, length, take, drop, replicate, get_or-eq_default}
use lib.Seq.{get_or-drop}
use Rattle.model.specs.Bytes.{word, long, two, four, part, blank, padded, joined}
use Rattle.model.specs.Vector.{vector_at, count_bytes, vector_bytes}
use Rattle.run_model.specs.Runs.{head_as, body_as, block_as, block_fault_as}
use Rattle.model.specs.Block.{Header, sealed, first_to, second_to, count_in, sender_in, archive_in, place_in, vector_in, record_at, records_from, block_records}
use Rattle.byte_slice.proofs.Numbers.{lt_or_ge}
use Rattle.byte_slice.proofs.Parts.{part_length, get_d_part, part-cons, part_none, part_split, part_start, part-whole}
use Rattle.byte_slice.proofs.Compare.{same_eq, blank-eq}
use Rattle.byte_slice.proofs.Words.{word_bound, four-two}
use Rattle.run_laws.proofs.Records.{length-records_from}
use Rattle.vector.proofs.InBytes.{vector_at_get_d}
use Rattle.block_laws.proofs.Sums.{first_take, second_take}
use Rattle.block_laws.proofs.Faults.{three_passed, stored_sums, stored_header}

-- ---- bytes

abbrev pub Bytes : List ℕ → Type 0
Bytes b = (j : ℕ) → get_or b j 0 < 256

pub bytes_part : (b : List ℕ) (at n : ℕ) → at + n ≤ length b → Bytes b → Bytes (part b at n)
bytes_part b at n h g j =
    ⊎_elim
    (λ (k : j < n). rw (get_d_part b at n j k) (g (at + j)))
    (λ (k : n ≤ j). rw (get_or-eq_default (part b at n) 0 {n = j} (omega (arith, part_length b at n h))) (omega arith))
    (lt_or_ge j n)

pub bytes_drop : (b : List ℕ) (at : ℕ) → Bytes b → Bytes (drop at b)
bytes_drop b at g j = rw (get_or-drop at b j 0) (g (at + j))

module _ (b : List ℕ) (g : Bytes b) where
  two_back : (i : ℕ) → i + 2 ≤ length b → two (word b i) ≡ part b i 2
  unfolding word
  two_back i h =
      let x : get_or b i 0 < 256 = g i in
      let p : (get_or b i 0 + 256 * get_or b (i + 1) 0) % 256 ≡ get_or b i 0 = omega arith in
      let q : (get_or b i 0 + 256 * get_or b (i + 1) 0) / 256 ≡ get_or b (i + 1) 0 = omega arith in
      rw (part-cons b i 1 (omega arith), part-cons b (i + 1) 0 (omega arith), part_none b (i + 1 + 1), p, q)

  four_back : (i : ℕ) → i + 4 ≤ length b → four (long b i) ≡ part b i 4
  unfolding long
  four_back i h =
      let w : word b i < 65536 = word_bound b i g in
      let p : (word b i + 65536 * word b (i + 2)) % 65536 ≡ word b i = omega arith in
      let q : (word b i + 65536 * word b (i + 2)) / 65536 ≡ word b (i + 2) = omega arith in
      sym (four-two (word b i + 65536 * word b (i + 2)))
      ∙ (λ k. two (p k) ++ two (q k))
      ∙ (λ k. two_back i (omega arith) k ++ two_back (i + 2) (omega arith) k)
      ∙ sym (part_split b i 2 2)

  counts_back : (at n : ℕ) → n ≤ 8 → at + 2 * n ≤ length b → count_bytes (vector_at b at) n ≡ part b at (2 * n)
  unfolding count_bytes
  counts_back at zero k h = sym (part_none b at)
  counts_back at (suc n) k h =
      let e : 2 * suc n ≡ 2 * n + 2 = omega arith in
      rw (e, part_split b at (2 * n) 2, vector_at_get_d b at n (omega arith), two_back (at + 2 * n) (omega arith))
      (ap (λ (x : List ℕ). x ++ part b (at + 2 * n) 2) (counts_back at n (omega arith) (omega arith)))

  vector_bytes_back : (at : ℕ) → at + 16 ≤ length b → vector_bytes (vector_at b at) ≡ part b at 16
  unfolding vector_bytes
  vector_bytes_back at h = counts_back at 8 (omega arith) h

-- ---- records

records_joined : (b : List ℕ) (n i : ℕ) → joined (records_from b i n) ≡ part b (28 + 80 * i) (80 * n)
unfolding joined records_from record_at
records_joined b zero i = sym (part_none b (28 + 80 * i))
records_joined b (suc n) i =
    let e : 80 * suc n ≡ 80 + 80 * n = omega arith in
    let q : 28 + 80 * suc i ≡ 28 + 80 * i + 80 = omega arith in
    rw (e, part_split b (28 + 80 * i) 80 (80 * n)) (ap (λ (x : List ℕ). part b (28 + 80 * i) 80 ++ x) (records_joined b n (suc i) ∙ rw q))

-- ---- the block

-- what a block's header says
unfoldable pub header_in : List ℕ → Header
header_in b = record { archive = archive_in b; sender = sender_in b; place = place_in b; vector = vector_in b }

module _ (t b : List ℕ) (n : length b ≡ 512) (g : Bytes b) (e : block_fault_as t b ≡ 0) where
  few : count_in b ≤ 6
  few = (stored_header b (three_passed t b e).2).1

  unused : blank (part b (28 + 80 * count_in b) (480 - 80 * count_in b)) ≡ true
  unused = (stored_header b (three_passed t b e).2).2

  length_records : length (block_records b) ≡ count_in b
  unfolding block_records
  length_records = length-records_from b 0 (count_in b)

  head_back : head_as t (header_in b) (length (block_records b)) ≡ part b 0 28
  unfolding head_as header_in archive_in sender_in place_in vector_in count_in
  head_back =
      let pair : get_or b 8 0 ∷ get_or b 9 0 ∷ [] ≡ part b 8 2 = sym (part-cons b 8 1 (omega arith) ∙ rw (part-cons b 9 0 (omega arith), part_none b 10)) in
      let l : t ≡ part b 0 4 = sym (part_start b 4 ∙ same_eq (take 4 b) t (three_passed t b e).0) in
      rw length_records
      ((λ k. l k ++ (four_back b g 4 (omega arith) k ++ (pair k ++ (two_back b g 10 (omega arith) k ++ vector_bytes_back b g 12 (omega arith) k))))
      ∙ sym (part_split b 0 4 24 ∙ rw (part_split b 4 4 20, part_split b 8 2 18, part_split b 10 2 16)))

  places_back : padded 480 (joined (block_records b)) ≡ part b 28 480
  unfolding padded block_records
  places_back =
      let c : ℕ = count_in b in
      let r : List ℕ = part b 28 (80 * c) in
      let j : joined (records_from b 0 c) ≡ r = records_joined b c 0 in
      let m : length r ≡ 80 * c = part_length b 28 (80 * c) (omega (arith, few)) in
      let o : part b (28 + 80 * c) (480 - 80 * c) ≡ replicate (480 - 80 * c) 0 =
      blank-eq (part b (28 + 80 * c) (480 - 80 * c)) unused ∙ ap (λ (x : ℕ). replicate x 0) (part_length b (28 + 80 * c) (480 - 80 * c) (omega (arith, few))) in
      let y : 80 * c + (480 - 80 * c) ≡ 480 = omega (arith, few) in
      rw (j, m, sym o) (sym (part_split b 28 (80 * c) (480 - 80 * c)) ∙ ap (part b 28) y)

  body_back : body_as t (header_in b) (block_records b) ≡ part b 0 508
  unfolding body_as
  body_back = (λ k. head_back k ++ places_back k) ∙ sym (part_split b 0 28 480)

  -- such a block is what writing its own header and records gives
  pub block_again : block_as t (header_in b) (block_records b) ≡ b
  unfolding block_as sealed
  block_again =
      let (p, q) = stored_sums b (three_passed t b e).1 in
      let f : first_to (part b 0 508) 254 ≡ word b 508 = rw (part_start b 508) (first_take b 254 508 (omega arith) ∙ sym p) in
      let s : second_to (part b 0 508) 254 ≡ word b 510 = rw (part_start b 508) (second_take b 254 508 (omega arith) ∙ sym q) in
      rw body_back
      ((λ k. part b 0 508 ++ (two (f k) ++ two (s k)))
      ∙ (λ k. part b 0 508 ++ (two_back b g 508 (omega arith) k ++ two_back b g 510 (omega arith) k))
      ∙ sym (part_split b 0 508 4 ∙ rw (part_split b 508 2 2))
      ∙ ap (part b 0) (sym n)
      ∙ part-whole b)
