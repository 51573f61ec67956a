-- What the calls write is bytes, where what they are given is.
-- Assumes nothing.
use Prim.Native.Nat.{ℕ, zero, suc, ◌+◌, ◌-◌, ◌*◌, ◌≤◌, ◌<◌}
use native.Mathlib.Omega.{arith}
use mathlib.Core.Path.{◌≡◌, refl, subst}
use mathlib.Core.Logic.{inl, inr, ⊎_elim}
use mathlib.Core.Bool.{true}
use mathlib.Core.List.{List, [], ◌∷◌, ◌++◌}
use lib.Dec.{ltb}
use lib.ListN.{length, get_or, take, drop, replicate}
use borrow.Author.Tests.{ltb-true, lt-ltb}
use Rattle.model.specs.Bytes.{two, four, blank, part, padded, joined}
use Rattle.model.specs.Vector.{count_bytes, vector_bytes}
use Rattle.model.specs.Record.{Rec}
use Rattle.model.specs.Log.{count_on, vector_on, vector_of, records_in, records_of, log_bytes}
use Rattle.model.specs.Block.{first_to, second_to, head_bytes, body_bytes, sealed, block_of, count_in, record_at, records_from, block_records}
use Rattle.model.specs.File.{header_of, file_block, file_to, file_of, block_count}
use Rattle.base_model.specs.Base.{base_vector}
use Rattle.byte_slice.proofs.Numbers.{lt_or_ge, and_true, true_and, cond_cases}
use Rattle.vector.proofs.InBytes.{vector_at_bound}
use Rattle.record.proofs.Ranks.{num_bound}
use Rattle.log_laws.specs.Members.{Has}
use Rattle.log_laws.specs.Sound.{SoundOn}
use Rattle.log_laws.proofs.Members.{All, all_append, all_drop, has_take, has_drop}
use Rattle.log_laws.proofs.Counts.{find_held_on}
use Rattle.log_laws.proofs.Tests.{vector_on_get_d, vector_of_get_d}
use Rattle.log_admit.proofs.Counts.{count_few}
use Rattle.encoding_laws.proofs.Files.{six, few_blocks}
use Rattle.machine.specs.Callable.{all_below}

abbrev pub Below : ℕ → List ℕ → Type 0
Below n b = All (λ (x : ℕ). x < n) b

-- every record of a list is bytes
abbrev pub Recs : List Rec → Type 0
Recs l = (r : Rec) → Has r l → Below 256 r

pub below_from : (n : ℕ) (b : List ℕ) → all_below n b ≡ true → Below n b
unfolding all_below
below_from n [] e = tt
below_from n (x ∷ b) e = let (p, q) = and_true (ltb x n) (all_below n b) e in (ltb-true x n p, below_from n b q)

pub below_test : (n : ℕ) (b : List ℕ) → Below n b → all_below n b ≡ true
unfolding all_below
below_test n [] h = refl
below_test n (x ∷ b) h = true_and (ltb x n) (all_below n b) (lt-ltb x n h.0) (below_test n b h.1)

-- ---- parts and pieces

pub below-take : (n k : ℕ) (b : List ℕ) → Below n b → Below n (take k b)
below-take n zero b h = tt
below-take n (suc k) [] h = tt
below-take n (suc k) (x ∷ b) h = (h.0, below-take n k b h.1)

pub below-append : (a b : List ℕ) → Below 256 a → Below 256 b → Below 256 (a ++ b)
below-append a b h k = all_append (λ (x : ℕ). x < 256) a b h k

pub below-drop : (k : ℕ) (b : List ℕ) → Below 256 b → Below 256 (drop k b)
below-drop k b h = all_drop (λ (x : ℕ). x < 256) k b h

pub below-part : (b : List ℕ) (at n : ℕ) → Below 256 b → Below 256 (part b at n)
unfolding part
below-part b at n h = below-take 256 n (drop at b) (below-drop at b h)

pub zeros-below : (n : ℕ) → Below 256 (replicate n 0)
zeros-below zero = tt
zeros-below (suc n) = (omega arith, zeros-below n)

pub two-below : (n : ℕ) → n < 65536 → Below 256 (two n)
two-below n h = (omega arith, (omega arith, tt))

pub padded-below : (n : ℕ) (b : List ℕ) → Below 256 b → Below 256 (padded n b)
unfolding padded
padded-below n b h = below-append b (replicate (n - length b) 0) h (zeros-below (n - length b))

joined-below : (l : List Rec) → Recs l → Below 256 (joined l)
unfolding joined
joined-below [] h = tt
joined-below (r ∷ l) h = below-append r (joined l) (h r (inl refl)) (joined-below l (λ s i. h s (inr i)))

pub log_below : (l : List Rec) → Recs l → Below 256 (log_bytes l)
unfolding log_bytes
log_below l h = padded-below 40960 (joined l) (joined-below l h)

-- the records of a log are parts of it
in_below : (n : ℕ) (b : List ℕ) → Below 256 b → Recs (records_in n b)
unfolding records_in
in_below zero b h r i = absurd i
in_below (suc n) b h r i =
    ⊎_elim
    (λ c. absurd (subst (Has r) c.1 i))
    (λ c.
    ⊎_elim
    (λ (q : r ≡ take 80 b). rw q (below-take 256 80 b h))
    (λ j. in_below n (drop 80 b) (below-drop 80 b h) r j)
    (subst (Has r) c.1 i))
    (cond_cases (blank (take 80 b)) [] (take 80 b ∷ records_in n (drop 80 b)))

pub records_below : (b : List ℕ) → Below 256 b → Recs (records_of b)
unfolding records_of
records_below b h = in_below 512 b h

-- and those of a block
from_below : (b : List ℕ) (i n : ℕ) → Below 256 b → Recs (records_from b i n)
unfolding records_from record_at
from_below b i zero h r j = absurd j
from_below b i (suc n) h r (inl q) = rw q (below-part b (28 + 80 * i) 80 h)
from_below b i (suc n) h r (inr j) = from_below b (suc i) n h r j

pub block_records_below : (b : List ℕ) → Below 256 b → Recs (block_records b)
unfolding block_records
block_records_below b h = from_below b 0 (count_in b) h

-- ---- vectors

-- eight counts of 16 bits
abbrev pub Small : List ℕ → Type 0
Small v = (u : ℕ) → u < 8 → get_or v u 0 < 65536

counts-below : (v : List ℕ) (n : ℕ) → ((u : ℕ) → u < n → get_or v u 0 < 65536) → Below 256 (count_bytes v n)
unfolding count_bytes
counts-below v zero h = tt
counts-below v (suc n) h = below-append (count_bytes v n) (two (get_or v n 0)) (counts-below v n (λ u k. h u (omega arith))) (two-below (get_or v n 0) (h n (omega arith)))

pub vector_below : (v : List ℕ) → Small v → Below 256 (vector_bytes v)
unfolding vector_bytes
vector_below v h = counts-below v 8 h

-- of at most 512 records
pub few_small : (l : List Rec) → length l ≤ 512 → Small (vector_of l)
few_small l k u b = omega (arith, vector_of_get_d l u b, count_few u l)

pub below_at : (b : List ℕ) → Below 256 b → (j : ℕ) → get_or b j 0 < 256
below_at [] h j = omega arith
below_at (x ∷ b) h zero = h.0
below_at (x ∷ b) h (suc j) = below_at b h.1 j

-- of a base
pub base_small : (b : List ℕ) → Below 256 b → Small (base_vector b)
unfolding base_vector
base_small b h u k = vector_at_bound b 8 u (below_at b h) k

-- of the records behind it, whose numbers are of 16 bits
pub held_small : (v : List ℕ) (l : List Rec) → SoundOn v l → Small v → Recs l → Small (vector_on v l)
held_small v l h low r u k =
    let e = vector_on_get_d v l u k in
    ⊎_elim
    (λ (c : get_or v u 0 < count_on v u l).
    let (s, i, _, q) = find_held_on v l u (count_on v u l) h c (omega arith) in
    omega (arith, num_bound s (below_at s (r s i))))
    (λ c. omega (arith, low u k))
    (lt_or_ge (get_or v u 0) (count_on v u l))

-- ---- blocks and files

first_below : (b : List ℕ) (n : ℕ) → first_to b n < 65536
unfolding first_to
first_below b zero = omega arith
first_below b (suc n) = omega arith

second_below : (b : List ℕ) (n : ℕ) → second_to b n < 65536
unfolding second_to
second_below b zero = omega arith
second_below b (suc n) = omega arith

pub block_below : (archive u place : ℕ) (v : List ℕ) (rs : List Rec) → archive < 4294967296 → u ≤ 7 → place < 65536 → Small v → length rs ≤ 6 → Recs rs
    → Below 256 (block_of (header_of archive u place v) rs)
unfolding block_of sealed body_bytes head_bytes header_of
block_below archive u place v rs a b c k n h =
    let body : List ℕ = body_bytes (header_of archive u place v) rs in
    let letters : Below 256 (83 ∷ 65 ∷ 66 ∷ 49 ∷ []) = (omega arith, (omega arith, (omega arith, (omega arith, tt)))) in
    let number : Below 256 (four archive) = (omega arith, (omega arith, (omega arith, (omega arith, tt)))) in
    let rest : Below 256 (two place ++ vector_bytes v) = below-append (two place) (vector_bytes v) (two-below place c) (vector_below v k) in
    let head : Below 256 (head_bytes (header_of archive u place v) (length rs)) =
    below-append (83 ∷ 65 ∷ 66 ∷ 49 ∷ []) (four archive ++ ((u ∷ length rs ∷ []) ++ (two place ++ vector_bytes v))) letters
    (below-append (four archive) ((u ∷ length rs ∷ []) ++ (two place ++ vector_bytes v)) number (omega arith, (omega arith, rest))) in
    below-append body (two (first_to body 254) ++ two (second_to body 254))
    (below-append (head_bytes (header_of archive u place v) (length rs)) (padded 480 (joined rs)) head (padded-below 480 (joined rs) (joined-below rs h)))
    (below-append (two (first_to body 254)) (two (second_to body 254)) (two-below (first_to body 254) (first_below body 254)) (two-below (second_to body 254) (second_below body 254)))

file_to_below : (archive u : ℕ) (l : List Rec) (n : ℕ) → archive < 4294967296 → u ≤ 7 → length l ≤ 512 → n ≤ 86 → Recs l → Below 256 (file_to archive u l n)
unfolding file_to file_block
file_to_below archive u l zero a b k c h = tt
file_to_below archive u l (suc n) a b k c h =
    let rs : List Rec = take 6 (drop (6 * n) l) in
    below-append (file_to archive u l n) (block_of (header_of archive u n (vector_of l)) rs) (file_to_below archive u l n a b k (omega arith) h)
    (block_below archive u n (vector_of l) rs a b (omega arith) (few_small l k) (six (drop (6 * n) l)) (λ r i. h r (has_drop (6 * n) l r (has_take 6 (drop (6 * n) l) r i))))

pub file_below : (archive u : ℕ) (l : List Rec) → archive < 4294967296 → u ≤ 7 → length l ≤ 512 → Recs l → Below 256 (padded 44032 (file_of archive u l))
unfolding file_of
file_below archive u l a b k h =
    padded-below 44032 (file_to archive u l (block_count (length l))) (file_to_below archive u l (block_count (length l)) a b k (few_blocks (length l) k) h)
