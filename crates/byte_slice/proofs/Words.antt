-- Numbers of 16 and 32 bits in bytes.
-- Assumes nothing.
use Prim.Native.Nat.{ℕ, ◌+◌, ◌*◌, ◌/◌, ◌%◌, ◌≤◌, ◌<◌}
use native.Mathlib.Nat.{add-zero, add_assoc}
use native.Mathlib.Omega.{arith}
use mathlib.Core.Path.{◌≡◌, ap, ◌∙◌}
use mathlib.Core.List.{List, ◌++◌}
use lib.ListN.{get_or, length, take, drop, get_or-append}
use lib.Seq.{get_or-append-add, get_or-take, get_or-drop}
use Rattle.model.specs.Bytes.{word, long, two, four, part, put_at}
use Rattle.byte_slice.proofs.Parts.{get_d_part, part-cons, part_none}
use Rattle.byte_slice.proofs.PutAt.{get_d_before, get_d_inside, get_d_after, put_more}

-- ---- the number is read back

pub word_two : (n : ℕ) (r : List ℕ) → word (two n ++ r) 0 ≡ n
unfolding word
word_two n r = omega arith

pub long-four : (n : ℕ) (r : List ℕ) → long (four n ++ r) 0 ≡ n
unfolding long word
long-four n r = omega arith

-- the bytes of the number at a place are those that stand there
pub two-word : (s : List ℕ) (i : ℕ) → get_or s i 0 < 256 → i + 1 < length s → two (word s i) ≡ part s i 2
unfolding word
two-word s i b h =
    let x = get_or s i 0 in
    let y = get_or s (i + 1) 0 in
    let q : (x + 256 * y) / 256 ≡ y = omega arith in
    let r : (x + 256 * y) % 256 ≡ x = omega arith in
    rw (q, r, part-cons s i 1 (omega arith), part-cons s (i + 1) 0 h, part_none)

-- the bytes of a 32-bit number are those of its two halves
pub four-two : (n : ℕ) → two (n % 65536) ++ two (n / 65536) ≡ four n
four-two n =
    let p : n / 256 ≡ 256 * (n / 65536) + n % 65536 / 256 = omega arith in
    let q : n / 256 / 256 ≡ n / 65536 = omega arith in
    let a : n % 65536 % 256 ≡ n % 256 = omega arith in
    let b : n % 65536 / 256 ≡ n / 256 % 256 = omega arith in
    let c : n / 65536 / 256 ≡ n / 16777216 = omega arith in
    rw (a, b, c)

pub put_halves : (d m e : List ℕ) (at n : ℕ) → at + 4 ≤ length d → m ≡ put_at d at (two (n % 65536)) → e ≡ put_at m (at + 2) (two (n / 65536)) → e ≡ put_at d at (four n)
put_halves d m e at n h p q = q ∙ rw p (put_more d at (two (n % 65536)) (two (n / 65536)) (omega arith) ∙ ap (put_at d at) (four-two n))

-- ---- bounds

pub word_bound : (s : List ℕ) (i : ℕ) → ((j : ℕ) → get_or s j 0 < 256) → word s i < 65536
unfolding word
word_bound s i h = omega (arith, h i, h (i + 1))

pub long_bound : (s : List ℕ) (i : ℕ) → ((j : ℕ) → get_or s j 0 < 256) → long s i < 4294967296
unfolding long
long_bound s i h = omega (arith, word_bound s i h, word_bound s (i + 2) h)

-- ---- a number that stands in a part, a front, a back, or a writing

-- two places that hold the same two bytes hold the same number
pub word_same : (a b : List ℕ) (i j : ℕ) → get_or a i 0 ≡ get_or b j 0 → get_or a (i + 1) 0 ≡ get_or b (j + 1) 0 → word a i ≡ word b j
unfolding word
word_same a b i j e f = rw (e, f)

pub word-part : (s : List ℕ) (at n i : ℕ) → i + 1 < n → word (part s at n) i ≡ word s (at + i)
word-part s at n i h =
    word_same (part s at n) s i (at + i) (get_d_part s at n i (omega arith)) (get_d_part s at n (i + 1) h ∙ rw (add_assoc at i 1))

pub word-take : (n : ℕ) (s : List ℕ) (i : ℕ) → i + 1 < n → word (take n s) i ≡ word s i
word-take n s i h = word_same (take n s) s i i (get_or-take n s i 0 (omega arith)) (get_or-take n s (i + 1) 0 h)

pub word-drop : (n : ℕ) (s : List ℕ) (i : ℕ) → word (drop n s) i ≡ word s (n + i)
word-drop n s i = word_same (drop n s) s i (n + i) (get_or-drop n s i 0) (get_or-drop n s (i + 1) 0 ∙ rw (add_assoc n i 1))

pub word_front : (p q : List ℕ) (i : ℕ) → i + 1 < length p → word (p ++ q) i ≡ word p i
word_front p q i h = word_same (p ++ q) p i i (get_or-append p q 0 i (omega arith)) (get_or-append p q 0 (i + 1) h)

pub word-behind : (p q : List ℕ) (i : ℕ) → word (p ++ q) (length p + i) ≡ word q i
word-behind p q i =
    word_same (p ++ q) q (length p + i) i (get_or-append-add p q i 0) (rw (add_assoc (length p) i 1) (get_or-append-add p q (i + 1) 0))

pub word_at : (p : List ℕ) (n : ℕ) (r : List ℕ) → word (p ++ (two n ++ r)) (length p) ≡ n
word_at p n r = (rw add-zero at (word-behind p (two n ++ r) 0)) ∙ word_two n r

pub word_put_before : (d : List ℕ) (at : ℕ) (s : List ℕ) (i : ℕ) → i + 1 < at → at ≤ length d → word (put_at d at s) i ≡ word d i
word_put_before d at s i h g = word_same (put_at d at s) d i i (get_d_before d at s i (omega arith) g) (get_d_before d at s (i + 1) h g)

pub word_put_inside : (d : List ℕ) (at : ℕ) (s : List ℕ) (i : ℕ) → i + 1 < length s → at ≤ length d → word (put_at d at s) (at + i) ≡ word s i
word_put_inside d at s i h g =
    word_same (put_at d at s) s (at + i) i (get_d_inside d at s i (omega arith) g) (rw (add_assoc at i 1) (get_d_inside d at s (i + 1) h g))

pub word_put_after : (d : List ℕ) (at : ℕ) (s : List ℕ) (i : ℕ) → at + length s ≤ i → at ≤ length d → word (put_at d at s) i ≡ word d i
word_put_after d at s i h g = word_same (put_at d at s) d i i (get_d_after d at s i h g) (get_d_after d at s (i + 1) (omega arith) g)

pub long_same : (a b : List ℕ) (i j : ℕ) → word a i ≡ word b j → word a (i + 2) ≡ word b (j + 2) → long a i ≡ long b j
unfolding long
long_same a b i j e f = rw (e, f)

pub long-part : (s : List ℕ) (at n i : ℕ) → i + 3 < n → long (part s at n) i ≡ long s (at + i)
long-part s at n i h =
    long_same (part s at n) s i (at + i) (word-part s at n i (omega arith)) (word-part s at n (i + 2) (omega arith) ∙ rw (add_assoc at i 2))

pub long_front : (p q : List ℕ) (i : ℕ) → i + 3 < length p → long (p ++ q) i ≡ long p i
long_front p q i h = long_same (p ++ q) p i i (word_front p q i (omega arith)) (word_front p q (i + 2) (omega arith))

pub long-behind : (p q : List ℕ) (i : ℕ) → long (p ++ q) (length p + i) ≡ long q i
long-behind p q i =
    long_same (p ++ q) q (length p + i) i (word-behind p q i) (rw (add_assoc (length p) i 2) (word-behind p q (i + 2)))

pub long-at : (p : List ℕ) (n : ℕ) (r : List ℕ) → long (p ++ (four n ++ r)) (length p) ≡ n
long-at p n r = (rw add-zero at (long-behind p (four n ++ r) 0)) ∙ long-four n r
