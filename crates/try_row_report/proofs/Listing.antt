-- What noting, listing and reporting are asked, over plain values.
-- Assumes nothing.
use Prim.Native.Nat.{ℕ, zero, suc, ◌+◌, ◌-◌, ◌*◌, ◌≤◌, ◌<◌}
use native.Mathlib.Numerals.{add-one}
use native.Mathlib.Omega.{arith}
use mathlib.Core.Path.{◌≡◌, refl, sym, ap, ◌∙◌}
use mathlib.Core.Bool.{Bool, true, false, cond, not, ◌||◌, false≢true}
use mathlib.Core.List.{List, [], ◌∷◌, ◌++◌, append-nil, append_assoc}
use lib.Dec.{eqb}
use lib.ListN.{get_or, length, take, drop, set, replicate, length-append, length-set, length-replicate}
use lib.Seq.{take-suc, take-append-le, set_split, get_or-set_same, length-take-le}
use borrow.Author.Tests.{not-true, not-false, eq-eqb, ne_eqb}
use borrow.Rule.Slice.PartMut.{put_mid}
use Rattle.model.specs.Bytes.{word, two, part, padded, put_at}
use Rattle.model.specs.Vector.{vector_bytes}
use Rattle.model.specs.Table.{identity_bytes, entry_in}
use Rattle.byte_slice.proofs.Parts.{part-replicate, drop-replicate, take-replicate}
use Rattle.byte_slice.proofs.PutAt.{mid_put, put_more, length-padded, put-padded, padded-nil}
use Rattle.vector.proofs.InBytes.{vector_bytes-length}
use Rattle.try_row_report.specs.Listed.{disputed_in, made_in, Shown, noted, is_among, is_new_in, listed_count, listed}

-- ---- one row

pub row_made : (b : List ℕ) (i k : ℕ) → k ≡ (entry_in b (4 + 72 * i)).made → k ≡ made_in b i
unfolding made_in
row_made b i k e = e

pub made_low : (b : List ℕ) (i k n : ℕ) → Shown b → n ≡ word b 0 → i < n → k ≡ (entry_in b (4 + 72 * i)).made → k < 524288
made_low b i k n s q h e = rw (row_made b i k e) (s.range i (omega arith)).high

pub shown_long : {b : List ℕ} → Shown b → length b ≡ 86020
shown_long s = s.long

pub shown_few : {b : List ℕ} → Shown b → word b 0 ≤ 1024
shown_few s = s.few

-- ---- noting

-- one identity behind the first c
take-set : (l : List ℕ) (c k : ℕ) → c < length l → take (c + 1) (set l c k) ≡ take c l ++ (k ∷ [])
take-set l c k h =
    let n : length (take c l) ≡ c = length-take-le c l (omega arith) in
    let front : take c (set l c k) ≡ take c l = rw (set_split l c k h) (take-append-le c (take c l) (k ∷ drop (suc c) l) (omega arith) ∙ rest l c) in
    rw (add-one c, take-suc (set l c k) c 0 (omega (arith, length-set l c k)), front, get_or-set_same l c k 0 h)
  where
    rest : (l : List ℕ) (c : ℕ) → take c (take c l) ≡ take c l
    rest l zero = refl
    rest [] (suc c) = refl
    rest (x ∷ l) (suc c) = ap (λ (r : List ℕ). x ∷ r) (rest l c)

pub set_long : (l : List ℕ) (c k n : ℕ) → length l ≡ n → length (set l c k) ≡ n
set_long l c k n e = length-set l c k ∙ e

pub notes_first : (b l : List ℕ) → take 0 l ≡ noted b 0
unfolding noted
notes_first b l = refl

module _ (b : List ℕ) (i : ℕ) {t : Bool} (e : t ≡ disputed_in b i) where
  pub notes_none : not t ≡ true → (c : ℕ) (l : List ℕ) → take c l ≡ noted b i → take c l ≡ noted b (i + 1)
  unfolding noted
  notes_none z c l q = let d : disputed_in b i ≡ false = sym e ∙ not-true t z in rw (add-one i, d) q

  pub notes_one : not t ≡ false → (c k n : ℕ) (l : List ℕ) → c ≤ i → i < n → n ≤ 1024 → length l ≡ 1024 → k ≡ (entry_in b (4 + 72 * i)).made → take c l ≡ noted b i → take (c + 1) (set l c k) ≡ noted b (i + 1)
  unfolding noted
  notes_one z c k n l x y w h m q =
      let d : disputed_in b i ≡ true = sym e ∙ not-false t z in
      take-set l c k (omega arith) ∙ rw (add-one i, d, q, row_made b i k m)

pub notes_all : (b l : List ℕ) (i n c : ℕ) → n ≡ word b 0 → i ≤ n → n ≤ i → take c l ≡ noted b i → take c l ≡ noted b (word b 0)
notes_all b l i n c e h g q = let k : i ≡ word b 0 = omega arith in rw k at q

-- ---- looking up

pub among_append : (k : ℕ) (a b : List ℕ) → is_among k (a ++ b) ≡ (is_among k a || is_among k b)
unfolding is_among
among_append k [] b = refl
among_append k (x ∷ a) b = rw (among_append k a b) (go (eqb x k))
  where
    go : (t : Bool) → (t || (is_among k a || is_among k b)) ≡ ((t || is_among k a) || is_among k b)
    go true = refl
    go false = refl

among_next : (k : ℕ) (l : List ℕ) (i : ℕ) → i < length l → is_among k (take (suc i) l) ≡ (is_among k (take i l) || (eqb (get_or l i 0) k || false))
unfolding is_among
among_next k l i h = rw (take-suc l i 0 h) (among_append k (take i l) (get_or l i 0 ∷ []))

among_more : (k : ℕ) (l : List ℕ) (i n : ℕ) → i ≤ n → is_among k (take i l) ≡ true → is_among k (take n l) ≡ true
unfolding is_among
among_more k l zero n h e = absurd (false≢true e)
among_more k [] (suc i) n h e = absurd (false≢true e)
among_more k (x ∷ l) (suc i) zero h e = absurd (omega arith)
among_more k (x ∷ l) (suc i) (suc n) h e = go (λ q. among_more k l i n (omega arith) q) (eqb x k) e
  where
    go : (is_among k (take i l) ≡ true → is_among k (take n l) ≡ true) → (t : Bool) → (t || is_among k (take i l)) ≡ true → (t || is_among k (take n l)) ≡ true
    go f true q = refl
    go f false q = f q

pub among_none : (k : ℕ) (l : List ℕ) → is_among k (take 0 l) ≡ false
unfolding is_among
among_none k l = refl

module _ (k : ℕ) (l : List ℕ) (i count : ℕ) (h : i < count) (fits : count ≤ length l) where
  pub among_found : get_or l i 0 ≡ k → true ≡ is_among k (take count l)
  among_found e = sym (among_more k l (suc i) count (omega arith) (among_next k l i (omega arith) ∙ rw (eq-eqb (get_or l i 0) k e) (last (is_among k (take i l)))))
    where
      last : (t : Bool) → (t || true) ≡ true
      last true = refl
      last false = refl

  pub among_passes : (get_or l i 0 ≡ k → ⊥) → is_among k (take i l) ≡ false → is_among k (take (i + 1) l) ≡ false
  among_passes e q = rw (add-one i, among_next k l i (omega arith), q, ne_eqb (get_or l i 0) k e)

pub among_ends : (k : ℕ) (l : List ℕ) (i count : ℕ) → i ≤ count → count ≤ i → is_among k (take i l) ≡ false → false ≡ is_among k (take count l)
among_ends k l i count h g q = let e : i ≡ count = omega arith in sym (rw e at q)

-- ---- listing

module _ (b l : List ℕ) (i : ℕ) {t : Bool} (e : t ≡ disputed_in b i) where
  pub not_new : not t ≡ true → false ≡ is_new_in b l i
  unfolding is_new_in
  not_new z = let d : disputed_in b i ≡ false = sym e ∙ not-true t z in rw d

  pub new_by_notes : not t ≡ false → {k : ℕ} {a : Bool} → k ≡ (entry_in b (4 + 72 * i)).made → a ≡ is_among k l → not a ≡ is_new_in b l i
  unfolding is_new_in
  new_by_notes z {k} m q = let d : disputed_in b i ≡ true = sym e ∙ not-false t z in rw (d, q, row_made b i k m)

four_bytes : (k : ℕ) → length (identity_bytes k) ≡ 4
unfolding identity_bytes
four_bytes k = refl

pub length-listed : (b f : List ℕ) (n : ℕ) → length (listed b f n) ≡ 4 * listed_count b f n
unfolding listed listed_count
length-listed b f zero = refl
length-listed b f (suc n) = go (is_new_in b f n) (length-listed b f n)
  where
    go : (t : Bool) → length (listed b f n) ≡ 4 * listed_count b f n
        → length (cond t (listed b f n ++ identity_bytes (made_in b n)) (listed b f n)) ≡ 4 * cond t (listed_count b f n + 1) (listed_count b f n)
    go true h = omega (arith, length-append (listed b f n) (identity_bytes (made_in b n)), h, four_bytes (made_in b n))
    go false h = h

pub list_first : (b f d : List ℕ) → d ≡ replicate 4096 0 → d ≡ padded 4096 (listed b f 0)
unfolding listed
list_first b f d e = e ∙ sym (padded-nil 4096)

pub list_long : (d : List ℕ) → d ≡ replicate 4096 0 → length d ≡ 4096
list_long d e = ap (λ (l : List ℕ). length l) e ∙ length-replicate {A = ℕ} 4096 0

pub count_first : (b f : List ℕ) → 0 ≡ listed_count b f 0
unfolding listed_count
count_first b f = refl

module _ (b f : List ℕ) (i : ℕ) {t : Bool} (e : t ≡ is_new_in b f i) where
  pub skips_count : not t ≡ true → {c : ℕ} → c ≡ listed_count b f i → c ≡ listed_count b f (i + 1)
  unfolding listed_count
  skips_count z q = let d : is_new_in b f i ≡ false = sym e ∙ not-true t z in rw (add-one i, d) q

  pub skips_list : not t ≡ true → {d : List ℕ} → d ≡ padded 4096 (listed b f i) → d ≡ padded 4096 (listed b f (i + 1))
  unfolding listed
  skips_list z q = let d : is_new_in b f i ≡ false = sym e ∙ not-true t z in rw (add-one i, d) q

  pub adds_count : not t ≡ false → {c : ℕ} → c ≡ listed_count b f i → c + 1 ≡ listed_count b f (i + 1)
  unfolding listed_count
  adds_count z q = let d : is_new_in b f i ≡ true = sym e ∙ not-false t z in rw (add-one i, d, q)

  pub adds_list : not t ≡ false → {c k : ℕ} {d o : List ℕ} → c ≡ listed_count b f i → k ≡ (entry_in b (4 + 72 * i)).made → d ≡ padded 4096 (listed b f i) → o ≡ put_at d (4 * c) (identity_bytes k)
      → o ≡ padded 4096 (listed b f (i + 1))
  unfolding listed
  adds_list z {c} {k} {d} {o} q m p r =
      let n : is_new_in b f i ≡ true = sym e ∙ not-false t z in
      let l : 4 * c ≡ length (listed b f i) = omega (arith, length-listed b f i) in
      r ∙ rw (p, l, row_made b i k m, add-one i, n) (put-padded 4096 (listed b f i) (identity_bytes (made_in b i)))

pub list_ends : (b f : List ℕ) (i n : ℕ) {c : ℕ} → n ≡ word b 0 → i ≤ n → n ≤ i → c ≡ listed_count b f i → c ≡ listed_count b f (word b 0)
list_ends b f i n e h g q = let k : i ≡ word b 0 = omega arith in rw k at q

pub list_whole : (b f : List ℕ) (i n : ℕ) {d : List ℕ} → n ≡ word b 0 → i ≤ n → n ≤ i → d ≡ padded 4096 (listed b f i) → d ≡ padded 4096 (listed b f (word b 0))
list_whole b f i n e h g q = let k : i ≡ word b 0 = omega arith in rw k at q

-- ---- the report

pub list_part : (d : List ℕ) → length d ≡ 4116 → (r : List ℕ) → r ≡ replicate (length d) 0 → take (4116 - 20) (drop 20 r) ≡ replicate 4096 0
unfolding part
list_part d n r e = rw (e, n) (part-replicate 4116 0 20 4096 (omega arith))

-- the first 20 bytes
whole_head : (d h v : List ℕ) → length h ≡ 4 → put_at d 0 (h ++ vector_bytes v) ≡ h ++ (vector_bytes v ++ drop 20 d)
unfolding put_at
whole_head d h v n =
    let w : 0 + length (h ++ vector_bytes v) ≡ 20 = omega (arith, length-append h (vector_bytes v), vector_bytes-length v) in
    rw w (append_assoc h (vector_bytes v) (drop 20 d))

pub head_put : (d : List ℕ) (s a c : ℕ) (v : List ℕ) → length d ≡ 4116 → {x y o : List ℕ} → x ≡ put_at d 0 (s ∷ a ∷ []) → y ≡ put_at x 2 (two c) → o ≡ put_at y 4 (vector_bytes v)
    → o ≡ (s ∷ a ∷ two c) ++ (vector_bytes v ++ drop 20 d)
head_put d s a c v n e f g =
    let second : put_at (put_at d 0 (s ∷ a ∷ [])) 2 (two c) ≡ put_at d 0 (s ∷ a ∷ two c) = put_more d 0 (s ∷ a ∷ []) (two c) (omega arith) in
    let third : put_at (put_at d 0 (s ∷ a ∷ two c)) 4 (vector_bytes v) ≡ put_at d 0 ((s ∷ a ∷ two c) ++ vector_bytes v) = put_more d 0 (s ∷ a ∷ two c) (vector_bytes v) (omega arith) in
    g ∙ rw (f, e, second, third) (whole_head d (s ∷ a ∷ two c) v refl)

module _ (d r l : List ℕ) (n : length d ≡ 4116) (z : r ≡ replicate (length d) 0) (long : length l ≡ 4096) where
  laid : put_mid 20 (4116 - 20) r l ≡ replicate 20 0 ++ l
  unfolding put_at
  laid =
      let e : r ≡ replicate 4116 0 = rw n at z in
      let w : 20 + length l ≡ 4116 = omega arith in
      let p : put_at r 20 l ≡ take 20 r ++ (l ++ drop (20 + length l) r) = refl in
      let q : take 20 r ≡ replicate 20 0 = rw e (take-replicate 20 4116 0 (omega arith)) in
      let b : drop (20 + length l) r ≡ [] = rw (w, e) (drop-replicate 4116 4116 0) in
      mid_put 20 4096 r l long ∙ p ∙ rw (q, b, append-nil l)

pub list_laid : (d r l b f : List ℕ) (c : ℕ) → length d ≡ 4116 → r ≡ replicate (length d) 0 → c ≡ listed_count b f (word b 0) → c ≤ 1024 → l ≡ padded 4096 (listed b f (word b 0))
    → put_mid 20 (4116 - 20) r l ≡ replicate 20 0 ++ padded 4096 (listed b f (word b 0))
list_laid d r l b f c n z q h e =
    let few : length (listed b f (word b 0)) ≤ 4096 = omega (arith, length-listed b f (word b 0)) in
    laid d r l n z (ap (λ (y : List ℕ). length y) e ∙ length-padded 4096 (listed b f (word b 0)) few) ∙ ap (λ (y : List ℕ). replicate 20 0 ++ y) e

pub reports : (s a c k : ℕ) (v x : List ℕ) {m o : List ℕ} → c ≡ k → m ≡ replicate 20 0 ++ x → o ≡ (s ∷ a ∷ two c) ++ (vector_bytes v ++ drop 20 m) → o ≡ (s ∷ a ∷ two k) ++ (vector_bytes v ++ x)
reports s a c k v x p q e = e ∙ rw (q, p)
