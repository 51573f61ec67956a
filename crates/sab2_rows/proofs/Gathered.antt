-- Rows of a base gathered one behind another.
-- Assumes nothing.
use Prim.Native.Nat.{ℕ, zero, suc, ◌+◌, ◌-◌, ◌*◌, ◌≤◌, ◌<◌}
use native.Mathlib.Numerals.{add-one}
use native.Mathlib.Omega.{arith}
use mathlib.Core.Path.{◌≡◌, refl, sym, ap, ◌∙◌}
use mathlib.Core.List.{List, [], ◌∷◌, ◌++◌, append_assoc, append-nil}
use lib.ListN.{length, take, drop, replicate, length-append, length-take, length-replicate}
use Rattle.model.specs.Bytes.{word, part, padded, put_at, joined}
use Rattle.model.specs.Record.{Rec}
use Rattle.byte_slice.proofs.Parts.{part_is}
use Rattle.byte_slice.proofs.PutAt.{put-padded, padded-nil, length-padded}
use Rattle.block_laws.proofs.Fields.{Sized, length-joined, joined-append}
use Rattle.sab2_model.specs.Rows.{row_count, row_start, row_long, base_row, base_rows_from, base_rows}
use Rattle.sab2_rows.proofs.Places.{row_short}

-- ---- the rows of a base

pub length_rows : (b : List ℕ) (i n : ℕ) → length (base_rows_from b i n) ≡ n
unfolding base_rows_from
length_rows b i zero = refl
length_rows b i (suc n) = ap suc (length_rows b (suc i) n)

part_short : (b : List ℕ) (at n : ℕ) → length (part b at n) ≤ n
unfolding part
part_short b at n = omega (arith, length-take n (drop at b))

row-length : (b : List ℕ) (i : ℕ) → length (base_row b i) ≡ 80
unfolding base_row
row-length b i =
    length-padded 80 (part b (row_start (word b 2) i) (row_long (word b 2) (word b 4) i))
    (omega (arith, part_short b (row_start (word b 2) i) (row_long (word b 2) (word b 4) i), row_short (word b 2) (word b 4) i))

pub rows_sized : (b : List ℕ) (i n : ℕ) → Sized (base_rows_from b i n)
unfolding base_rows_from
rows_sized b i zero = tt
rows_sized b i (suc n) = (row-length b i, rows_sized b (suc i) n)

-- one row more
rows_more : (b : List ℕ) (i n : ℕ) → base_rows_from b i (suc n) ≡ base_rows_from b i n ++ (base_row b (i + n) ∷ [])
unfolding base_rows_from
rows_more b i zero = let e : i + 0 ≡ i = omega arith in rw e
rows_more b i (suc n) = let e : i + suc n ≡ suc i + n = omega arith in rw e (ap (λ (l : List Rec). base_row b i ∷ l) (rows_more b (suc i) n))

drop_rows : (b : List ℕ) (i n j : ℕ) → j ≤ n → drop j (base_rows_from b i n) ≡ base_rows_from b (i + j) (n - j)
unfolding base_rows_from
drop_rows b i n zero h =
    let e : i + 0 ≡ i = omega arith in
    let d : n - 0 ≡ n = omega arith in
    rw (e, d)
drop_rows b i zero (suc j) h = absurd (omega arith)
drop_rows b i (suc n) (suc j) h =
    let e : i + suc j ≡ suc i + j = omega arith in
    let d : suc n - suc j ≡ n - j = omega arith in
    rw (e, d) (drop_rows b (suc i) n j (omega arith))

take_rows : (b : List ℕ) (i n j : ℕ) → j ≤ n → take j (base_rows_from b i n) ≡ base_rows_from b i j
unfolding base_rows_from
take_rows b i n zero h = refl
take_rows b i zero (suc j) h = absurd (omega arith)
take_rows b i (suc n) (suc j) h = ap (λ (l : List Rec). base_row b i ∷ l) (take_rows b (suc i) n j (omega arith))

-- the n rows from row i on
pub rows_part : (b : List ℕ) (i n : ℕ) → i + n ≤ row_count (word b 2) (word b 4) → take n (drop i (base_rows b)) ≡ base_rows_from b i n
unfolding base_rows
rows_part b i n h =
    rw (drop_rows b 0 (row_count (word b 2) (word b 4)) i (omega arith))
    (take_rows b (0 + i) (row_count (word b 2) (word b 4) - i) n (omega arith) ∙ (let e : 0 + i ≡ i = omega arith in rw e))

-- ---- gathered in a buffer of zeros

zeros_more : (m n : ℕ) → ◌++◌ {A = ℕ} (replicate m 0) (replicate n 0) ≡ replicate (m + n) 0
zeros_more zero n = let e : 0 + n ≡ n = omega arith in rw e
zeros_more (suc m) n = let e : suc m + n ≡ suc (m + n) = omega arith in rw e (ap (λ (l : List ℕ). 0 ∷ l) (zeros_more m n))

-- zeros in the middle are zeros at the end
pub padded_inner : (n m : ℕ) (p s : List ℕ) → length s ≤ m → length p + m ≤ n → padded n (p ++ padded m s) ≡ padded n (p ++ s)
unfolding padded
padded_inner n m p s h g =
    let z : List ℕ = replicate (m - length s) 0 in
    let ls : length (p ++ s) ≡ length p + length s = length-append p s in
    let lz : length (p ++ (s ++ z)) ≡ length p + m = omega (arith, length-append p (s ++ z), length-append s z, length-replicate {A = ℕ} (m - length s) 0) in
    let a : p ++ (s ++ z) ≡ (p ++ s) ++ z = sym (append_assoc p s z) in
    let k : m - length s + (n - (length p + m)) ≡ n - (length p + length s) = omega arith in
    rw (lz, ls, a, append_assoc (p ++ s) z (replicate (n - (length p + m)) 0), zeros_more (m - length s) (n - (length p + m)), k)

pub padded_twice : (n : ℕ) (s : List ℕ) → length s ≤ n → padded n (padded n s) ≡ padded n s
padded_twice n s h = padded_inner n n [] s h (omega arith)

pub none_gathered : (b : List ℕ) (i : ℕ) → replicate 480 0 ≡ padded 480 (joined (base_rows_from b i 0))
unfolding joined base_rows_from
none_gathered b i = sym (padded-nil 480)

pub one_gathered : (b : List ℕ) (i j m : ℕ) {e a p n : ℕ} {d o : List ℕ} → j < m → m ≤ 6 → e ≡ word b 2 → a ≡ word b 4 → p ≡ row_start e (i + j) → n ≡ row_long e a (i + j)
    → d ≡ padded 480 (joined (base_rows_from b i j)) → o ≡ put_at d (80 * j) (take (p + n - p) (drop p b)) → o ≡ padded 480 (joined (base_rows_from b i (j + 1)))
unfolding base_row joined
one_gathered b i j m {e} {a} {p} {n} some few he ha hp hn hd ho =
    let l : List Rec = base_rows_from b i j in
    let s : List ℕ = part b p n in
    let lj : length (joined l) ≡ 80 * j = length-joined l (rows_sized b i j) ∙ rw (length_rows b i j) in
    let short : length s ≤ 80 = omega (arith, part_short b p n, row_short e a (i + j)) in
    let put : put_at (padded 480 (joined l)) (80 * j) s ≡ padded 480 (joined l ++ s) = rw lj at (put-padded 480 (joined l) s) in
    let row : base_row b (i + j) ≡ padded 80 s = rw (hp, hn, he, ha) in
    let more : joined (base_rows_from b i (suc j)) ≡ joined l ++ padded 80 s =
    rw (rows_more b i j, joined-append l (base_row b (i + j) ∷ []), row, append-nil) in
    ho ∙ rw (hd, part_is b p n, put, add-one j, more) (sym (padded_inner 480 80 (joined l) s short (omega arith)))

pub all_gathered : (b : List ℕ) (i n j : ℕ) {e a : ℕ} {o : List ℕ} → j ≤ n → n ≤ j → e ≡ word b 2 → a ≡ word b 4 → i + n ≤ row_count e a → o ≡ padded 480 (joined (base_rows_from b i j))
    → o ≡ padded 480 (joined (take n (drop i (base_rows b))))
all_gathered b i n j h g he ha k o =
    let q : j ≡ n = omega arith in
    o ∙ rw (q, rows_part b i n (rw (he, ha) at k))
