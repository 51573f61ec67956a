-- A vector in bytes: written and read back.
-- Assumes nothing.
use Prim.Native.Nat.{ℕ, zero, suc, ◌+◌, ◌*◌, ◌≤◌, ◌<◌}
use native.Mathlib.Nat.{add-zero, add_assoc}
use native.Mathlib.Numerals.{add-one}
use native.Mathlib.Omega.{arith}
use mathlib.Core.Path.{◌≡◌, refl, sym, ◌∙◌}
use mathlib.Core.Logic.{⊎_elim}
use mathlib.Core.List.{List, [], ◌∷◌, ◌++◌}
use lib.ListN.{get_or, length, get_or-append, length-append}
use lib.Seq.{get_or_at, ext_get_or}
use Rattle.model.specs.Bytes.{word, two, part, put_at}
use Rattle.model.specs.Vector.{counts_at, vector_at, count_bytes, vector_bytes}
use Rattle.byte_slice.proofs.Numbers.{lt_or_ge}
use Rattle.byte_slice.proofs.Parts.{part_none, part_split}
use Rattle.byte_slice.proofs.PutAt.{put_more}
use Rattle.byte_slice.proofs.Words.{word_bound, word_two, two-word, word-part, word_front, word-behind, word_put_before, word_put_inside, word_put_after}

-- ---- the counts that stand at a place

pub counts_at-length : (b : List ℕ) (at n : ℕ) → length (counts_at b at n) ≡ n
unfolding counts_at
counts_at-length b at zero = refl
counts_at-length b at (suc n) = omega (arith, length-append (counts_at b at n) (word b (at + 2 * n) ∷ []), counts_at-length b at n)

pub counts_at_get_d : (b : List ℕ) (at n u : ℕ) → u < n → get_or (counts_at b at n) u 0 ≡ word b (at + 2 * u)
unfolding counts_at
counts_at_get_d b at zero u h = absurd (omega arith)
counts_at_get_d b at (suc n) u h =
    let l = counts_at-length b at n in
    let w = word b (at + 2 * n) in
    ⊎_elim
    (λ k. get_or-append (counts_at b at n) (w ∷ []) 0 u (omega arith) ∙ counts_at_get_d b at n u k)
    (λ k. let m : u ≡ n = omega arith in rw m (get_or_at (counts_at b at n) w [] 0 n l))
    (lt_or_ge u n)

pub vector_at-length : (b : List ℕ) (at : ℕ) → length (vector_at b at) ≡ 8
unfolding vector_at
vector_at-length b at = counts_at-length b at 8

pub vector_at_get_d : (b : List ℕ) (at u : ℕ) → u < 8 → get_or (vector_at b at) u 0 ≡ word b (at + 2 * u)
unfolding vector_at
vector_at_get_d b at u h = counts_at_get_d b at 8 u h

-- the eight words written out
pub vector_at_flat : (b : List ℕ) (at : ℕ) → word b at ∷ word b (at + 2) ∷ word b (at + 4) ∷ word b (at + 6) ∷ word b (at + 8) ∷ word b (at + 10) ∷ word b (at + 12) ∷ word b (at + 14) ∷ [] ≡ vector_at b at
unfolding vector_at counts_at
vector_at_flat b at = rw add-zero

pub vector_at_bound : (b : List ℕ) (at u : ℕ) → ((j : ℕ) → get_or b j 0 < 256) → u < 8 → get_or (vector_at b at) u 0 < 65536
vector_at_bound b at u h k = rw (vector_at_get_d b at u k) (word_bound b (at + 2 * u) h)

-- ---- the same vector at two places

-- a list of eight counts is the vector at a place if it has the words there
pub is_vector_at : (v b : List ℕ) (at : ℕ) → length v ≡ 8 → ((u : ℕ) → u < 8 → get_or v u 0 ≡ word b (at + 2 * u)) → v ≡ vector_at b at
is_vector_at v b at n h = ext_get_or 0 v (vector_at b at) (n ∙ sym (vector_at-length b at)) (λ u k. h u (omega arith) ∙ sym (vector_at_get_d b at u (omega arith)))

pub vector_at_same : (a b : List ℕ) (i j : ℕ) → ((u : ℕ) → u < 8 → word a (i + 2 * u) ≡ word b (j + 2 * u)) → vector_at a i ≡ vector_at b j
vector_at_same a b i j h = is_vector_at (vector_at a i) b j (vector_at-length a i) (λ u k. vector_at_get_d a i u k ∙ h u k)

pub vector_at-part : (s : List ℕ) (at n i : ℕ) → i + 16 ≤ n → vector_at (part s at n) i ≡ vector_at s (at + i)
vector_at-part s at n i h =
    vector_at_same (part s at n) s i (at + i) (λ u k. word-part s at n (i + 2 * u) (omega arith) ∙ rw (add_assoc at i (2 * u)))

pub vector_at_front : (p q : List ℕ) (i : ℕ) → i + 16 ≤ length p → vector_at (p ++ q) i ≡ vector_at p i
vector_at_front p q i h = vector_at_same (p ++ q) p i i (λ u k. word_front p q (i + 2 * u) (omega arith))

pub vector_at-behind : (p q : List ℕ) (i : ℕ) → vector_at (p ++ q) (length p + i) ≡ vector_at q i
vector_at-behind p q i =
    vector_at_same (p ++ q) q (length p + i) i (λ u k. rw (add_assoc (length p) i (2 * u)) (word-behind p q (i + 2 * u)))

pub vector_at_put_before : (d : List ℕ) (at : ℕ) (s : List ℕ) (i : ℕ) → i + 16 ≤ at → at ≤ length d → vector_at (put_at d at s) i ≡ vector_at d i
vector_at_put_before d at s i h g = vector_at_same (put_at d at s) d i i (λ u k. word_put_before d at s (i + 2 * u) (omega arith) g)

pub vector_at_put_after : (d : List ℕ) (at : ℕ) (s : List ℕ) (i : ℕ) → at + length s ≤ i → at ≤ length d → vector_at (put_at d at s) i ≡ vector_at d i
vector_at_put_after d at s i h g = vector_at_same (put_at d at s) d i i (λ u k. word_put_after d at s (i + 2 * u) (omega arith) g)

-- ---- the bytes of a vector

pub count_bytes-length : (v : List ℕ) (n : ℕ) → length (count_bytes v n) ≡ 2 * n
unfolding count_bytes
count_bytes-length v zero = refl
count_bytes-length v (suc n) = omega (arith, length-append (count_bytes v n) (two (get_or v n 0)), count_bytes-length v n)

pub vector_bytes-length : (v : List ℕ) → length (vector_bytes v) ≡ 16
unfolding vector_bytes
vector_bytes-length v = count_bytes-length v 8

pub count_bytes-word : (v : List ℕ) (n u : ℕ) → u < n → word (count_bytes v n) (2 * u) ≡ get_or v u 0
unfolding count_bytes
count_bytes-word v zero u h = absurd (omega arith)
count_bytes-word v (suc n) u h =
    let l = count_bytes-length v n in
    ⊎_elim
    (λ k. word_front (count_bytes v n) (two (get_or v n 0)) (2 * u) (omega arith) ∙ count_bytes-word v n u k)
    (λ k.
    let m : u ≡ n = omega arith in
    rw (m, ← l, ← add-zero (length (count_bytes v n))) (word-behind (count_bytes v n) (two (get_or v n 0)) 0 ∙ word_two (get_or v n 0) []))
    (lt_or_ge u n)

pub vector_bytes-word : (v : List ℕ) (u : ℕ) → u < 8 → word (vector_bytes v) (2 * u) ≡ get_or v u 0
unfolding vector_bytes
vector_bytes-word v u h = count_bytes-word v 8 u h

-- what was written is read back
pub vector_back : (p v r : List ℕ) → length v ≡ 8 → vector_at (p ++ (vector_bytes v ++ r)) (length p) ≡ v
vector_back p v r n =
    let l = vector_bytes-length v in
    sym (is_vector_at v (p ++ (vector_bytes v ++ r)) (length p) n (λ u k.
    sym (word-behind p (vector_bytes v ++ r) (2 * u) ∙ word_front (vector_bytes v) r (2 * u) (omega arith) ∙ vector_bytes-word v u k)))

pub vector_put_back : (d : List ℕ) (at : ℕ) (v : List ℕ) → length v ≡ 8 → at + 16 ≤ length d → vector_at (put_at d at (vector_bytes v)) at ≡ v
vector_put_back d at v n h =
    let l = vector_bytes-length v in
    sym (is_vector_at v (put_at d at (vector_bytes v)) at n (λ u k.
    sym (word_put_inside d at (vector_bytes v) (2 * u) (omega arith) (omega arith) ∙ vector_bytes-word v u k)))

-- what was read is what stands there
count_bytes_back : (b : List ℕ) (at n : ℕ) → n ≤ 8 → at + 16 ≤ length b → ((j : ℕ) → get_or b j 0 < 256) → count_bytes (vector_at b at) n ≡ part b at (2 * n)
unfolding count_bytes
count_bytes_back b at zero k h s = sym (part_none b at)
count_bytes_back b at (suc n) k h s =
    let e : 2 * suc n ≡ 2 * n + 2 = omega arith in
    rw (count_bytes_back b at n (omega arith) h s, vector_at_get_d b at n (omega arith), two-word b (at + 2 * n) (s (at + 2 * n)) (omega arith), e)
    (sym (part_split b at (2 * n) 2))

pub vector_bytes_back_lem : (b : List ℕ) (at : ℕ) → at + 16 ≤ length b → ((j : ℕ) → get_or b j 0 < 256) → vector_bytes (vector_at b at) ≡ part b at 16
unfolding vector_bytes
vector_bytes_back_lem b at h s = count_bytes_back b at 8 (omega arith) h s

-- ---- what the loop of `put_vector` is asked

pub vector_more : (d : List ℕ) (at : ℕ) (v : List ℕ) (n : ℕ) → at + 2 * n ≤ length d
    → put_at (put_at d at (count_bytes v n)) (at + 2 * n) (two (get_or v n 0)) ≡ put_at d at (count_bytes v (n + 1))
unfolding count_bytes
vector_more d at v n h =
    let e = count_bytes-length v n in
    rw add-one (rw e at (put_more d at (count_bytes v n) (two (get_or v n 0)) (omega arith)))
