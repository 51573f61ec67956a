-- A sound base is the bytes of what it holds.
-- Assumes nothing.
use Prim.Native.Nat.{ℕ, zero, suc, ◌+◌, ◌-◌, ◌*◌, ◌/◌, ◌%◌, ◌≤◌, ◌<◌}
use native.Mathlib.Omega.{arith}
use mathlib.Core.Path.{◌≡◌, refl, sym, ap, ◌∙◌}
use mathlib.Core.Logic.{◌⊎◌, ⊎_elim}
use mathlib.Core.Bool.{true, cond, ◌&&◌, ◌||◌}
use mathlib.Core.List.{List, [], ◌∷◌, ◌++◌}
use lib.Dec.{leb, eqb}
use lib.ListN.{get_or, length, replicate}
use borrow.Author.Tests.{eqb-true, leb-true}
use Rattle.model.specs.Bytes.{word, two, blank, part, padded}
use Rattle.model.specs.Vector.{vector_bytes}
use Rattle.model.specs.Record.{identity, identity_at}
use Rattle.model.specs.Replay.{is_disputed}
use Rattle.model.specs.Table.{identity_bytes, entry_row, aside_row, entry_rows, aside_rows, entry_in, aside_in}
use Rattle.base_model.specs.Base.{base_bytes, base_in, base_tree, base_vector, base_entry, base_aside, base_entries, base_asides, names_in, names_or_none, row_kind_fits, row_names_fit, entry_fits, reason_fits, aside_fits, entry_row_fits, aside_row_fits, rest_blank, sound_base}
use Rattle.byte_slice.proofs.Numbers.{and_true, or_true}
use Rattle.byte_slice.proofs.Parts.{get_d_part, part_length, part-cons, part_none, part_split, part-whole}
use Rattle.byte_slice.proofs.Compare.{blank_get_d, blank-eq}
use Rattle.byte_slice.proofs.Words.{two-word}
use Rattle.vector.proofs.InBytes.{vector_bytes_back_lem}
use Rattle.base_laws.proofs.Numbered.{entries_count, asides_count}
use Rattle.base_laws.proofs.Plain.{all_at}
use Rattle.base_laws.proofs.Rows.{entry_tests}
use Rattle.base_laws.proofs.Trees.{Sound, sound_tells}

id_bytes : (u w : ℕ) → u ≤ 7 → identity_bytes (8 * w + u) ≡ u ∷ 0 ∷ two w
unfolding identity_bytes
id_bytes u w h =
    let p : (8 * w + u) % 8 ≡ u = omega arith in
    let q : (8 * w + u) / 8 ≡ w = omega arith in
    rw (p, q)

word_none : (s : List ℕ) (at : ℕ) → word s at ≡ 0 → (get_or s at 0 ≡ 0) × (get_or s (at + 1) 0 ≡ 0)
unfolding word
word_none s at e = (omega (arith, e), omega (arith, e))

state_back : (n : ℕ) → (eqb n 1 || eqb n 2) ≡ true → cond (eqb n 1) 1 2 ≡ n
state_back n e =
    ⊎_elim
    (λ (p : eqb n 1 ≡ true). rw p (sym (eqb-true n 1 p)))
    (λ (p : eqb n 2 ≡ true). let q : n ≡ 2 = eqb-true n 2 p in rw q)
    (or_true (eqb n 1) (eqb n 2) e)

module _ (b : List ℕ) where
  cut : (at m n c : ℕ) → at + m ≡ c → part b at (m + n) ≡ part b at m ++ part b c n
  cut at m n c e = rw e at (part_split b at m n)

  two-cons : (at : ℕ) → at + 2 ≤ length b → part b at 2 ≡ get_or b at 0 ∷ get_or b (at + 1) 0 ∷ []
  two-cons at h = part-cons b at 1 (omega arith) ∙ rw (part-cons b (at + 1) 0 (omega arith), part_none b (at + 1 + 1))

  four-cons : (at : ℕ) → at + 4 ≤ length b → part b at 4 ≡ get_or b at 0 ∷ get_or b (at + 1) 0 ∷ part b (at + 2) 2
  four-cons at h =
      let y : at + 1 + 1 ≡ at + 2 = omega arith in
      part-cons b at 3 (omega arith) ∙ rw (part-cons b (at + 1) 2 (omega arith), y)

module _ (b : List ℕ) (bytes : (j : ℕ) → get_or b j 0 < 256) where
  -- ---- identities

  four_again : (at : ℕ) → at + 4 ≤ length b → get_or b at 0 ≤ 7 → get_or b (at + 1) 0 ≡ 0 → identity_bytes (identity_at b at) ≡ part b at 4
  unfolding identity_at identity
  four_again at h u z =
      let t = two-word b (at + 2) (bytes (at + 2)) (omega arith) in
      id_bytes (get_or b at 0) (word b (at + 2)) u
      ∙ ((λ i. get_or b at 0 ∷ sym z i ∷ t i) ∙ sym (four-cons b at h))

  named_again : (v : List ℕ) (at : ℕ) → at + 4 ≤ length b → names_in v b at ≡ true → identity_bytes (identity_at b at) ≡ part b at 4
  unfolding names_in
  named_again v at h e =
      let u = get_or b at 0 in
      let w = word b (at + 2) in
      let (p, f) = and_true (leb u 7) (eqb (get_or b (at + 1) 0) 0 && (leb 1 w && leb w (get_or v u 0))) e in
      let (q, _) = and_true (eqb (get_or b (at + 1) 0) 0) (leb 1 w && leb w (get_or v u 0)) f in
      four_again at h (leb-true u 7 p) (eqb-true (get_or b (at + 1) 0) 0 q)

  none_again : (v : List ℕ) (at : ℕ) → at + 4 ≤ length b → names_or_none v b at ≡ true → identity_bytes (identity_at b at) ≡ part b at 4
  unfolding names_or_none
  none_again v at h e =
      ⊎_elim
      (λ (z : blank (part b at 4) ≡ true).
      let z0 : get_or b (at + 0) 0 ≡ 0 = sym (get_d_part b at 4 0 (omega arith)) ∙ blank_get_d (part b at 4) 0 z in
      let z1 : get_or b (at + 1) 0 ≡ 0 = sym (get_d_part b at 4 1 (omega arith)) ∙ blank_get_d (part b at 4) 1 z in
      let p : at + 0 ≡ at = omega arith in
      let y0 : get_or b at 0 ≡ 0 = rw p at z0 in
      four_again at h (omega arith) z1)
      (λ (n : names_in v b at ≡ true). named_again v at h n)
      (or_true (blank (part b at 4)) (names_in v b at) e)

  -- ---- rows

  kind_again : (at : ℕ) → at + 4 ≤ length b → row_kind_fits b at ≡ true → get_or b at 0 ∷ 0 ∷ 0 ∷ 0 ∷ [] ≡ part b at 4
  unfolding row_kind_fits
  kind_again at h e =
      let (_, f) = and_true (eqb (get_or b at 0) 1 || eqb (get_or b at 0) 2) (eqb (get_or b (at + 1) 0) 0 && eqb (word b (at + 2)) 0) e in
      let (p, q) = and_true (eqb (get_or b (at + 1) 0) 0) (eqb (word b (at + 2)) 0) f in
      let z1 : get_or b (at + 1) 0 ≡ 0 = eqb-true (get_or b (at + 1) 0) 0 p in
      let (z2, z3) = word_none b (at + 2) (eqb-true (word b (at + 2)) 0 q) in
      sym (four-cons b at h ∙ rw (two-cons b (at + 2) (omega arith), z1, z2, z3))

  entry_cut : (at : ℕ) → part b at 72
      ≡ part b at 4 ++ (part b (at + 4) 4 ++ (part b (at + 8) 4 ++ (part b (at + 12) 4 ++ (part b (at + 16) 4 ++ (part b (at + 20) 4 ++ (part b (at + 24) 32 ++ part b (at + 56) 16))))))
  entry_cut at =
      let s0 = cut b at 4 68 (at + 4) refl in
      let s4 = cut b (at + 4) 4 64 (at + 8) (omega arith) in
      let s8 = cut b (at + 8) 4 60 (at + 12) (omega arith) in
      let s12 = cut b (at + 12) 4 56 (at + 16) (omega arith) in
      let s16 = cut b (at + 16) 4 52 (at + 20) (omega arith) in
      let s20 = cut b (at + 20) 4 48 (at + 24) (omega arith) in
      let s24 = cut b (at + 24) 32 16 (at + 56) (omega arith) in
      s0 ∙ rw (s4, s8, s12, s16, s20, s24)

  entry_again : (v : List ℕ) (at : ℕ) → at + 72 ≤ length b → entry_fits v b at ≡ true → entry_row 0 (entry_in b at) ≡ part b at 72
  unfolding entry_row entry_in row_names_fit
  entry_again v at h e =
      let t = entry_tests v b at e in
      let (n4, f) = and_true (names_in v b (at + 4)) (names_or_none v b (at + 8) && (names_in v b (at + 12) && names_in v b (at + 16))) t.names_fit in
      let (n8, g) = and_true (names_or_none v b (at + 8)) (names_in v b (at + 12) && names_in v b (at + 16)) f in
      let (n12, n16) = and_true (names_in v b (at + 12)) (names_in v b (at + 16)) g in
      let k = kind_again at (omega arith) t.kind_fits in
      let i4 = named_again v (at + 4) (omega arith) n4 in
      let i8 = none_again v (at + 8) (omega arith) n8 in
      let i12 = named_again v (at + 12) (omega arith) n12 in
      let i16 = named_again v (at + 16) (omega arith) n16 in
      (λ i. k i ++ (i4 i ++ (i8 i ++ (i12 i ++ (i16 i ++ (part b (at + 20) 4 ++ (part b (at + 24) 32 ++ part b (at + 56) 16)))))))
      ∙ sym (entry_cut at)

  aside_cut : (at : ℕ) → part b at 12 ≡ part b at 4 ++ (part b (at + 4) 4 ++ part b (at + 8) 4)
  aside_cut at = let s0 = cut b at 4 8 (at + 4) refl in let s4 = cut b (at + 4) 4 4 (at + 8) (omega arith) in s0 ∙ rw s4

  state_again : (at : ℕ) → at + 12 ≤ length b → reason_fits b at ≡ true
      → get_or b (at + 4) 0 ∷ cond (eqb (get_or b (at + 5) 0) 1) 1 2 ∷ 0 ∷ 0 ∷ [] ≡ part b (at + 4) 4
  unfolding reason_fits
  state_again at h e =
      let r = get_or b (at + 4) 0 in
      let s = get_or b (at + 5) 0 in
      let (_, f) = and_true ((leb 12 r && leb r 18) || eqb r 25) ((eqb s 1 || eqb s 2) && eqb (word b (at + 6)) 0) e in
      let (p, q) = and_true (eqb s 1 || eqb s 2) (eqb (word b (at + 6)) 0) f in
      let (z6, z7) = word_none b (at + 6) (eqb-true (word b (at + 6)) 0 q) in
      let x : at + 4 + 1 ≡ at + 5 = omega arith in
      let y : at + 4 + 2 ≡ at + 6 = omega arith in
      let c : part b (at + 4) 4 ≡ r ∷ s ∷ 0 ∷ 0 ∷ [] = four-cons b (at + 4) (omega arith) ∙ rw (x, y, two-cons b (at + 6) (omega arith), z6, z7) in
      rw (state_back s p) (sym c)

  aside_again : (v : List ℕ) (at : ℕ) → at + 12 ≤ length b → aside_fits v b at ≡ true → aside_row (aside_in b at) ≡ part b at 12
  unfolding aside_row aside_in aside_fits
  aside_again v at h e =
      let (n, f) = and_true (names_in v b at) (reason_fits b at && names_or_none v b (at + 8)) e in
      let (r, m) = and_true (reason_fits b at) (names_or_none v b (at + 8)) f in
      let i0 = named_again v at (omega arith) n in
      let i4 = state_again at h r in
      let i8 = none_again v (at + 8) (omega arith) m in
      (λ i. i0 i ++ (i4 i ++ i8 i)) ∙ sym (aside_cut at)

  -- ---- all rows

  rows_again : (i n : ℕ) → 24 + 72 * (i + n) ≤ length b → ((j : ℕ) → i ≤ j → j < i + n → entry_row_fits b j ≡ true)
      → entry_rows [] (base_entries b i n) ≡ part b (24 + 72 * i) (72 * n)
  unfolding entry_rows base_entries is_disputed base_entry entry_row_fits
  rows_again i zero h f = sym (part_none b (24 + 72 * i))
  rows_again i (suc n) h f =
      let a = entry_again (base_vector b) (24 + 72 * i) (omega arith) (f i (omega arith) (omega arith)) in
      let r = rows_again (suc i) n (omega arith) (λ j g l. f j (omega arith) (omega arith)) in
      let y : 72 * suc n ≡ 72 + 72 * n = omega arith in
      let z : 24 + 72 * i + 72 ≡ 24 + 72 * suc i = omega arith in
      (λ k. a k ++ r k) ∙ rw y (sym (cut b (24 + 72 * i) 72 (72 * n) (24 + 72 * suc i) z))

  notes_again : (i n : ℕ) → 36888 + 12 * (i + n) ≤ length b → ((j : ℕ) → i ≤ j → j < i + n → aside_row_fits b j ≡ true)
      → aside_rows (base_asides b i n) ≡ part b (36888 + 12 * i) (12 * n)
  unfolding aside_rows base_asides base_aside aside_row_fits
  notes_again i zero h f = sym (part_none b (36888 + 12 * i))
  notes_again i (suc n) h f =
      let a = aside_again (base_vector b) (36888 + 12 * i) (omega arith) (f i (omega arith) (omega arith)) in
      let r = notes_again (suc i) n (omega arith) (λ j g l. f j (omega arith) (omega arith)) in
      let y : 12 * suc n ≡ 12 + 12 * n = omega arith in
      let z : 36888 + 12 * i + 12 ≡ 36888 + 12 * suc i = omega arith in
      (λ k. a k ++ r k) ∙ rw y (sym (cut b (36888 + 12 * i) 12 (12 * n) (36888 + 12 * suc i) z))

  -- what fills k of w bytes, with zeros behind it
  fill_again : (s : List ℕ) (at k w : ℕ) → at + w ≤ length b → k ≤ w → s ≡ part b at k → blank (part b (at + k) (w - k)) ≡ true → padded w s ≡ part b at w
  unfolding padded
  fill_again s at k w h l e z =
      let m : length s ≡ k = ap (λ (x : List ℕ). length x) e ∙ part_length b at k (omega arith) in
      let y : k + (w - k) ≡ w = omega arith in
      let q : length (part b (at + k) (w - k)) ≡ w - k = part_length b (at + k) (w - k) (omega arith) in
      let r : part b (at + k) (w - k) ≡ replicate (w - k) 0 = blank-eq (part b (at + k) (w - k)) z ∙ rw q in
      rw (m, e, ← r, ← part_split b at k (w - k), y)

  -- ---- the whole

  whole_cut : length b ≡ 43032
      → b ≡ part b 0 4 ++ (part b 4 2 ++ (part b 6 2 ++ (part b 8 16 ++ (part b 24 36864 ++ part b 36888 6144))))
  whole_cut h =
      let c0 = cut b 0 4 43028 4 refl in
      let c4 = cut b 4 2 43026 6 refl in
      let c6 = cut b 6 2 43024 8 refl in
      let c8 = cut b 8 16 43008 24 refl in
      let c24 = cut b 24 36864 6144 36888 refl in
      sym (rw h at (part-whole b)) ∙ (c0 ∙ rw (c4, c6, c8, c24))

  module _ (len : length b ≡ 43032) (s : Sound b) where
    head_again : get_or b 0 0 ∷ 0 ∷ two (length (base_entries b 0 (word b 2))) ≡ part b 0 4
    head_again =
        let t = ap (λ (k : ℕ). two k) (entries_count b 0 (word b 2)) ∙ two-word b 2 (bytes 2) (omega arith) in
        (λ i. get_or b 0 0 ∷ sym s.zero_byte i ∷ t i) ∙ sym (four-cons b 0 (omega arith))

    count_again : two (length (base_asides b 0 (word b 4))) ≡ part b 4 2
    count_again = ap (λ (k : ℕ). two k) (asides_count b 0 (word b 4)) ∙ two-word b 4 (bytes 4) (omega arith)

    zeros_again : 0 ∷ 0 ∷ [] ≡ part b 6 2
    zeros_again = let (z6, z7) = word_none b 6 s.zero_word in sym (two-cons b 6 (omega arith) ∙ rw (z6, z7))

    vector_again : vector_bytes (base_vector b) ≡ part b 8 16
    unfolding base_vector
    vector_again = vector_bytes_back_lem b 8 (omega arith) bytes

    entries_again : padded 36864 (entry_rows [] (base_entries b 0 (word b 2))) ≡ part b 24 36864
    unfolding rest_blank
    entries_again =
        let n = word b 2 in
        let m = word b 4 in
        let few = s.few_entries in
        let (z, _) = and_true (blank (part b (24 + 72 * n) (36864 - 72 * n))) (blank (part b (36888 + 12 * m) (6144 - 12 * m))) s.rest in
        let r = rows_again 0 n (omega arith) (λ j g l. all_at n (entry_row_fits b) s.entries_pass j (omega arith)) in
        fill_again (entry_rows [] (base_entries b 0 n)) 24 (72 * n) 36864 (omega arith) (omega arith) r z

    asides_again : padded 6144 (aside_rows (base_asides b 0 (word b 4))) ≡ part b 36888 6144
    unfolding rest_blank
    asides_again =
        let n = word b 2 in
        let m = word b 4 in
        let few = s.few_asides in
        let (_, z) = and_true (blank (part b (24 + 72 * n) (36864 - 72 * n))) (blank (part b (36888 + 12 * m) (6144 - 12 * m))) s.rest in
        let r = notes_again 0 m (omega arith) (λ j g l. all_at m (aside_row_fits b) s.asides_pass j (omega arith)) in
        fill_again (aside_rows (base_asides b 0 m)) 36888 (12 * m) 6144 (omega arith) (omega arith) r z

    pub all_again : base_bytes (base_in b) ≡ b
    unfolding base_bytes base_in base_tree
    all_again =
        (λ i. head_again i ++ (count_again i ++ (zeros_again i ++ (vector_again i ++ (entries_again i ++ asides_again i)))))
        ∙ sym (whole_cut len)

pub base_again : (b : List ℕ) → length b ≡ 43032 → ((j : ℕ) → get_or b j 0 < 256) → sound_base b ≡ true → base_bytes (base_in b) ≡ b
base_again b len bytes e = all_again b bytes len (sound_tells b e)
