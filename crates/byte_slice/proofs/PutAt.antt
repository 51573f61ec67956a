-- What a writing leaves: put_at d at s is d with the bytes s in the place of as many from a place on.
-- Assumes nothing.
use Prim.Native.Nat.{ℕ, suc, ◌+◌, ◌-◌, ◌≤◌, ◌<◌}
use native.Mathlib.Numerals.{add-one}
use native.Mathlib.Nat.{zero-add, add-zero, add_assoc, sub-zero}
use native.Mathlib.Omega.{arith}
use mathlib.Core.Path.{◌≡◌, sym, ap₂, ◌∙◌}
use mathlib.Core.List.{List, [], ◌∷◌, ◌++◌, append_assoc, append-nil}
use lib.ListN.{get_or, get_or-append, take-append-drop, length, take, drop, set, replicate, length-append, length-take, length-drop, length-replicate}
use borrow.Rule.Slice.PartMut.{put_mid, Post-is}
use lib.Seq.{take-suc, set_at, set_split, length-take-le, get_or-take, get_or-drop, take-append-le, drop-append-le, take-append-add, take-take, drop_at, take_at, drop-append-add, take-append_seam, drop-append_seam, drop-drop, paste, sets, sets-eq, take-length, drop-length}
use Rattle.model.specs.Bytes.{part, put_at, padded}
use Rattle.byte_slice.proofs.Parts.{part_length, part-cons, part_around, part_front, part-take, part-drop, drop-replicate}

-- ---- a writing, as code leaves it

-- a loop that copies byte by byte
pub paste_put : (d : List ℕ) (at : ℕ) (s : List ℕ) → paste d at s (length s) ≡ put_at d at s
unfolding put_at
paste_put d at s = rw (take-length, append_assoc)

-- a run of stores
pub sets_put : (d : List ℕ) (at : ℕ) (s : List ℕ) → at + length s ≤ length d → sets d at s ≡ put_at d at s
unfolding put_at
sets_put d at s h = sets-eq s d at h ∙ append_assoc (take at d) s (drop (at + length s) d)

-- one store
pub set-put : (d : List ℕ) (at v : ℕ) → at < length d → set d at v ≡ put_at d at (v ∷ [])
unfolding put_at
set-put d at v h = rw (set_split d at v h, add-one)

-- a part of n bytes that was lent to be changed has come back, with ys in it
pub mid_put : (a n : ℕ) (xs ys : List ℕ) → length ys ≡ n → put_mid a (a + n - a) xs ys ≡ put_at xs a ys
unfolding put_at
mid_put a n xs ys e = rw (Post-is a (a + n) xs (omega arith), e)

-- ---- the whole, nothing, and the length

pub put_whole : (d s : List ℕ) → length s ≡ length d → put_at d 0 s ≡ s
unfolding put_at
put_whole d s e = rw (zero-add, e, drop-length, append-nil)

pub put-nil : (d : List ℕ) (at : ℕ) → put_at d at [] ≡ d
unfolding put_at
put-nil d at = rw (add-zero, take-append-drop)

-- a part is written where it stands
pub put_same : (d : List ℕ) (at n : ℕ) → at + n ≤ length d → put_at d at (part d at n) ≡ d
unfolding put_at
put_same d at n h = rw (part_length d at n h) (part_around d at n)

pub length-put : (d : List ℕ) (at : ℕ) (s : List ℕ) → at + length s ≤ length d → length (put_at d at s) ≡ length d
unfolding put_at
length-put d at s h = simp (length-append, length-take, length-drop) (omega arith)

-- ---- one writing after another

-- what is written behind what was written is written with it
pub put_more : (d : List ℕ) (at : ℕ) (s t : List ℕ) → at + length s ≤ length d → put_at (put_at d at s) (at + length s) t ≡ put_at d at (s ++ t)
unfolding put_at
put_more d at s t h =
    let p = take at d ++ s in
    let r = drop (at + length s) d in
    let lp : length p ≡ at + length s = simp (length-append, length-take) (omega arith) in
    let f : take (at + length s) (p ++ r) ≡ p = take_at p r (at + length s) lp in
    let g : drop (at + length s + length t) (p ++ r) ≡ drop (at + length s + length t) d = (rw lp at (drop-append-add p r (length t))) ∙ drop-drop (length t) (at + length s) d in
    rw (← append_assoc (take at d) s r, f, g, append_assoc (take at d) s, append_assoc s t, length-append s t, ← add_assoc at (length s) (length t))

-- an element is written before what was written
pub put-before : (d : List ℕ) (k : ℕ) (s : List ℕ) (v : ℕ) → k + 1 + length s ≤ length d → set (put_at d (k + 1) s) k v ≡ put_at d k (v ∷ s)
unfolding put_at
put-before d k s v h =
    let r = s ++ drop (k + 1 + length s) d in
    let e : take (k + 1) d ++ r ≡ take k d ++ get_or d k 0 ∷ r = rw (add-one, take-suc d k 0 (omega arith), append_assoc) in
    let n : k + 1 + length s ≡ k + suc (length s) = omega arith in
    rw (e, set_at (take k d) (get_or d k 0) r v k (length-take-le k d (omega arith)), n)

-- what is written before what was written is written with it
pub put_front : (d : List ℕ) (at : ℕ) (s t : List ℕ) → at + length s + length t ≤ length d → put_at (put_at d (at + length s) t) at s ≡ put_at d at (s ++ t)
unfolding put_at
put_front d at s t h =
    let p = take (at + length s) d in
    let r = t ++ drop (at + length s + length t) d in
    let lp : length p ≡ at + length s = length-take-le (at + length s) d (omega arith) in
    let f : take at (p ++ r) ≡ take at d = take-append-le at p r (omega arith) ∙ take-take at (at + length s) d (omega arith) in
    let g : drop (at + length s) (p ++ r) ≡ r = drop_at p r (at + length s) lp in
    let n : at + length s + length t ≡ at + length (s ++ t) = simp length-append (omega arith) in
    rw (f, g, n, append_assoc s t)

-- ---- what a writing leaves before, inside and behind

pub take_put : (d : List ℕ) (at : ℕ) (s : List ℕ) → at ≤ length d → take at (put_at d at s) ≡ take at d
unfolding put_at
take_put d at s h = take_at (take at d) (s ++ drop (at + length s) d) at (length-take-le at d h)

pub drop_put_at : (d : List ℕ) (at : ℕ) (s : List ℕ) → at ≤ length d → drop at (put_at d at s) ≡ s ++ drop (at + length s) d
unfolding put_at
drop_put_at d at s h = drop_at (take at d) (s ++ drop (at + length s) d) at (length-take-le at d h)

pub drop-put : (d : List ℕ) (at : ℕ) (s : List ℕ) → at ≤ length d → drop (at + length s) (put_at d at s) ≡ drop (at + length s) d
drop-put d at s h = sym (drop-drop (length s) at (put_at d at s)) ∙ rw (drop_put_at d at s h) (drop-append_seam s (drop (at + length s) d))

pub get_d_before : (d : List ℕ) (at : ℕ) (s : List ℕ) (i : ℕ) → i < at → at ≤ length d → get_or (put_at d at s) i 0 ≡ get_or d i 0
unfolding put_at
get_d_before d at s i h g =
    let n = length-take-le at d g in
    rw (get_or-append (take at d) (s ++ drop (at + length s) d) 0 i (omega arith), get_or-take at d i 0 h)

pub get_d_inside : (d : List ℕ) (at : ℕ) (s : List ℕ) (i : ℕ) → i < length s → at ≤ length d → get_or (put_at d at s) (at + i) 0 ≡ get_or s i 0
get_d_inside d at s i h g =
    sym (get_or-drop at (put_at d at s) i 0) ∙ rw (drop_put_at d at s g) (get_or-append s (drop (at + length s) d) 0 i h)

pub get_d_after : (d : List ℕ) (at : ℕ) (s : List ℕ) (i : ℕ) → at + length s ≤ i → at ≤ length d → get_or (put_at d at s) i 0 ≡ get_or d i 0
get_d_after d at s i h g =
    let e : i ≡ at + length s + (i - (at + length s)) = omega arith in
    let l = sym (get_or-drop (at + length s) (put_at d at s) (i - (at + length s)) 0) in
    let r = get_or-drop (at + length s) d (i - (at + length s)) 0 in
    rw e (l ∙ rw (drop-put d at s g) r)

pub part-put : (d : List ℕ) (at : ℕ) (s : List ℕ) → at ≤ length d → part (put_at d at s) at (length s) ≡ s
unfolding part
part-put d at s h = rw (drop_put_at d at s h) (take-append_seam s (drop (at + length s) d))

pub part_put_before : (d : List ℕ) (at : ℕ) (s : List ℕ) (i n : ℕ) → i + n ≤ at → at ≤ length d → part (put_at d at s) i n ≡ part d i n
part_put_before d at s i n h g =
    sym (part-take (put_at d at s) at i n h) ∙ rw (take_put d at s g) (part-take d at i n h)

pub part_put_inside : (d : List ℕ) (at : ℕ) (s : List ℕ) (i n : ℕ) → i + n ≤ length s → at ≤ length d → part (put_at d at s) (at + i) n ≡ part s i n
part_put_inside d at s i n h g =
    sym (part-drop (put_at d at s) at i n) ∙ rw (drop_put_at d at s g) (part_front s (drop (at + length s) d) i n h)

pub part_put_after : (d : List ℕ) (at : ℕ) (s : List ℕ) (i n : ℕ) → at + length s ≤ i → at ≤ length d → part (put_at d at s) i n ≡ part d i n
part_put_after d at s i n h g =
    let e : i ≡ at + length s + (i - (at + length s)) = omega arith in
    let l = sym (part-drop (put_at d at s) (at + length s) (i - (at + length s)) n) in
    let r = part-drop d (at + length s) (i - (at + length s)) n in
    rw e (l ∙ rw (drop-put d at s g) r)

-- lists that agree before and behind the writing
pub put-alike : (m d : List ℕ) (at : ℕ) (s : List ℕ) → take at m ≡ take at d → drop (at + length s) m ≡ drop (at + length s) d → put_at m at s ≡ put_at d at s
unfolding put_at
put-alike m d at s p q = rw (p, q)

-- what is written over what was written
pub put_again : (d : List ℕ) (at : ℕ) (s t : List ℕ) → at ≤ length d → length s ≡ length t → put_at (put_at d at s) at t ≡ put_at d at t
put_again d at s t h e = put-alike (put_at d at s) d at t (take_put d at s h) (rw e at (drop-put d at s h))

-- ---- a writing into one of two lists laid end to end

pub put_in_front : (p q : List ℕ) (at : ℕ) (s : List ℕ) → at + length s ≤ length p → put_at (p ++ q) at s ≡ put_at p at s ++ q
unfolding put_at
put_in_front p q at s h =
    rw (take-append-le at p q (omega arith), drop-append-le (at + length s) p q h, append_assoc (take at p), append_assoc s)

pub put_in_back : (p q : List ℕ) (at : ℕ) (s : List ℕ) → put_at (p ++ q) (length p + at) s ≡ p ++ put_at q at s
unfolding put_at
put_in_back p q at s =
    rw (take-append-add p q at, add_assoc (length p) at (length s), drop-append-add p q (at + length s), append_assoc p)

-- ---- growth: what is written behind a front joins the front

pub put_grows : (d p s : List ℕ) → length p ≤ length d → put_at (p ++ drop (length p) d) (length p) s ≡ (p ++ s) ++ drop (length (p ++ s)) d
unfolding put_at
put_grows d p s h =
    rw (take-append_seam p (drop (length p) d), drop-append-add p (drop (length p) d) (length s), drop-drop (length s) (length p) d, length-append p s, append_assoc p s)

pub length-padded : (n : ℕ) (s : List ℕ) → length s ≤ n → length (padded n s) ≡ n
unfolding padded
length-padded n s h = omega (arith, length-append s (replicate (n - length s) 0), length-replicate {A = ℕ} (n - length s) 0)

pub put-padded : (n : ℕ) (p s : List ℕ) → put_at (padded n p) (length p) s ≡ padded n (p ++ s)
unfolding put_at padded
put-padded n p s =
    let e : n - length p - length s ≡ n - length (p ++ s) = omega (arith, length-append p s) in
    rw (take-append_seam p (replicate (n - length p) 0), drop-append-add p (replicate (n - length p) 0) (length s), drop-replicate (length s) (n - length p) 0, e, append_assoc p s)

pub padded-nil : (n : ℕ) → padded n [] ≡ replicate n 0
unfolding padded
padded-nil n = rw sub-zero

-- ---- moving up

-- one more byte is moved up
pub moved : (d l : List ℕ) (i to by : ℕ) → 0 < i → i ≤ to → to + by ≤ length d → 0 < by → l ≡ put_at d (i + by) (part d i (to - i))
    → set l (i - 1 + by) (get_or l (i - 1) 0) ≡ put_at d (i - 1 + by) (part d (i - 1) (to - (i - 1)))
moved d l i to by pos h room up e =
    let j = i - 1 in
    let n : i + by ≡ j + by + 1 = omega arith in
    let k : i ≡ j + 1 = omega arith in
    let t : to - j ≡ suc (to - (j + 1)) = omega arith in
    let f : l ≡ put_at d (j + by + 1) (part d (j + 1) (to - (j + 1))) = e ∙ ap₂ (λ (a b : ℕ). put_at d a (part d b (to - b))) n k in
    let m = part_length d (j + 1) (to - (j + 1)) (omega arith) in
    rw (f, get_d_before d (j + by + 1) (part d (j + 1) (to - (j + 1))) j (omega arith) (omega arith))
    (rw (put-before d (j + by) (part d (j + 1) (to - (j + 1))) (get_or d j 0) (omega arith), t, part-cons d j (to - (j + 1)) (omega arith)))
