-- Parts of lists: n elements from a place on.
-- Assumes nothing.
use Prim.Native.Nat.{ℕ, zero, suc, ◌+◌, ◌-◌, ◌≤◌, ◌<◌}
use native.Mathlib.Numerals.{add-one}
use native.Mathlib.Nat.{sub-zero}
use native.Mathlib.Omega.{arith}
use mathlib.Core.Path.{◌≡◌, refl, sym, ap, ◌∙◌}
use mathlib.Core.List.{List, [], ◌∷◌, ◌++◌, append-nil}
use lib.ListN.{get_or, length, take, drop, replicate, take-append-drop, length-take, length-drop}
use lib.Seq.{take-nil, drop-cons, take-suc, take-length, drop-length, take-take, take-add, take_at, take-append-le, drop-append-le, drop-append-add, drop-append_seam, drop-drop, get_or-take, get_or-drop}
use Rattle.model.specs.Bytes.{part}

-- a part that was lent
pub part_is : (s : List ℕ) (at n : ℕ) → take (at + n - at) (drop at s) ≡ part s at n
unfolding part
part_is s at n = let e : at + n - at ≡ n = omega arith in rw e

pub lent_length : (s : List ℕ) (at n : ℕ) → at + n ≤ length s → length (take (at + n - at) (drop at s)) ≡ n
lent_length s at n h = simp (length-take, length-drop) (omega arith)

pub part_length : (s : List ℕ) (at n : ℕ) → at + n ≤ length s → length (part s at n) ≡ n
unfolding part
part_length s at n h = simp (length-take, length-drop) (omega arith)

pub get_d_part : (s : List ℕ) (at n i : ℕ) → i < n → get_or (part s at n) i 0 ≡ get_or s (at + i) 0
unfolding part
get_d_part s at n i h = get_or-take n (drop at s) i 0 h ∙ get_or-drop at s i 0

pub drop-take : (i n : ℕ) (l : List ℕ) → drop i (take n l) ≡ take (n - i) (drop i l)
drop-take zero n l = rw sub-zero
drop-take (suc i) zero l = let e : 0 - suc i ≡ 0 = omega arith in rw e
drop-take (suc i) (suc n) [] = sym (take-nil (suc n - suc i))
drop-take (suc i) (suc n) (x ∷ l) = let e : suc n - suc i ≡ n - i = omega arith in rw e (drop-take i n l)

-- a part of a part, of a front, and of what is left behind a front
pub part-part : (s : List ℕ) (at n i m : ℕ) → i + m ≤ n → part (part s at n) i m ≡ part s (at + i) m
unfolding part
part-part s at n i m h = rw (drop-take i n (drop at s), take-take m (n - i) (drop i (drop at s)) (omega arith), drop-drop i at s)

pub part-take : (s : List ℕ) (k at n : ℕ) → at + n ≤ k → part (take k s) at n ≡ part s at n
unfolding part
part-take s k at n h = rw (drop-take at k s, take-take n (k - at) (drop at s) (omega arith))

pub part-drop : (s : List ℕ) (k at n : ℕ) → part (drop k s) at n ≡ part s (k + at) n
unfolding part
part-drop s k at n = rw (drop-drop at k s)

-- one element and what is left behind it
pub drop_more : (s : List ℕ) (at : ℕ) → at < length s → drop at s ≡ get_or s at 0 ∷ drop (at + 1) s
drop_more s at h = rw add-one (drop-cons s at 0 h)

-- parts of lists laid end to end
pub part_front : (p q : List ℕ) (at n : ℕ) → at + n ≤ length p → part (p ++ q) at n ≡ part p at n
unfolding part
part_front p q at n h =
    let e : n ≤ length (drop at p) = simp length-drop (omega arith) in
    rw (drop-append-le at p q (omega arith), take-append-le n (drop at p) q e)

pub part-behind : (p q : List ℕ) (at n : ℕ) → part (p ++ q) (length p + at) n ≡ part q at n
unfolding part
part-behind p q at n = rw (drop-append-add p q at)

pub part_middle : (p q r : List ℕ) → part (p ++ (q ++ r)) (length p) (length q) ≡ q
unfolding part
part_middle p q r = rw (drop-append_seam p (q ++ r)) (take_at q r (length q) refl)

-- a list is what stands before a part, the part, and what stands behind it
pub part_around : (s : List ℕ) (at n : ℕ) → take at s ++ (part s at n ++ drop (at + n) s) ≡ s
unfolding part
part_around s at n = rw (← drop-drop n at s, take-append-drop n (drop at s), take-append-drop at s)

pub part_split : (s : List ℕ) (at m n : ℕ) → part s at (m + n) ≡ part s at m ++ part s (at + m) n
unfolding part
part_split s at m n = rw (take-add m n (drop at s), drop-drop m at s)

pub part-cons : (s : List ℕ) (at n : ℕ) → at < length s → part s at (suc n) ≡ get_or s at 0 ∷ part s (at + 1) n
unfolding part
part-cons s at n h = rw (drop-cons s at 0 h, add-one)

pub part_snoc : (s : List ℕ) (at n : ℕ) → at + n < length s → part s at (n + 1) ≡ part s at n ++ (get_or s (at + n) 0 ∷ [])
unfolding part
part_snoc s at n h =
    let e : n < length (drop at s) = simp length-drop (omega arith) in
    rw (add-one, take-suc (drop at s) n 0 e, get_or-drop at s n 0)

pub part_none : (s : List ℕ) (at : ℕ) → part s at 0 ≡ []
unfolding part
part_none s at = refl

pub part-whole : (s : List ℕ) → part s 0 (length s) ≡ s
unfolding part
part-whole s = take-length s

pub part_start : (s : List ℕ) (n : ℕ) → part s 0 n ≡ take n s
unfolding part
part_start s n = refl

-- a list that was filled from the front up to its end
pub filled : (d : List ℕ) (v i : ℕ) → i ≡ length d → replicate i v ++ drop i d ≡ replicate (length d) v
filled d v i h = rw (h, drop-length, append-nil)

-- parts of a run of one element
pub drop-replicate : (i n v : ℕ) → drop i (replicate n v) ≡ replicate (n - i) v
drop-replicate zero n v = rw sub-zero
drop-replicate (suc i) zero v = let e : 0 - suc i ≡ 0 = omega arith in rw e
drop-replicate (suc i) (suc n) v = let e : suc n - suc i ≡ n - i = omega arith in rw e (drop-replicate i n v)

pub take-replicate : (i n v : ℕ) → i ≤ n → take i (replicate n v) ≡ replicate i v
take-replicate zero n v h = refl
take-replicate (suc i) zero v h = absurd (omega arith)
take-replicate (suc i) (suc n) v h = ap (λ (l : List ℕ). v ∷ l) (take-replicate i n v (omega arith))

pub part-replicate : (k v at n : ℕ) → at + n ≤ k → part (replicate k v) at n ≡ replicate n v
unfolding part
part-replicate k v at n h = rw (drop-replicate at k v) (take-replicate n (k - at) v (omega arith))
