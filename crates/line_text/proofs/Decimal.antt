-- A number in decimal: its last digit stands behind the digits of a tenth of it.
-- Assumes nothing.
use Prim.Native.Nat.{ℕ, zero, suc, ◌+◌, ◌-◌, ◌*◌, ◌/◌, ◌%◌, ◌≤◌, ◌<◌}
use native.Mathlib.Omega.{arith}
use mathlib.Core.Path.{◌≡◌, sym, ap, ap₂, ◌∙◌}
use mathlib.Core.Logic.{⊎_elim}
use mathlib.Core.List.{List, [], ◌∷◌, ◌++◌}
use lib.ListN.{length, take, drop, get_or, set, length-append, length-drop}
use lib.Seq.{take_at, take-take, drop-cons, get_or-take, get_or-append_seam, length-take-le}
use borrow.Author.Tests.{lt-ltb, le-ltb}
use Rattle.model.specs.Bytes.{put_at}
use Rattle.model.specs.Listing.{decimal_to, decimal}
use Rattle.byte_slice.proofs.Numbers.{lt_or_ge}
use Rattle.byte_slice.proofs.PutAt.{put-before}

-- the least number of k + 1 digits
ten_to : ℕ → ℕ
ten_to zero = 1
ten_to (suc k) = 10 * ten_to k

-- one place more than enough makes no difference
places : (k n : ℕ) → n < ten_to (suc k) → decimal_to (suc (suc k)) n ≡ decimal_to (suc k) n
unfolding decimal_to ten_to
places zero n h = rw (lt-ltb n 10 (omega arith))
places (suc k) n h =
    ⊎_elim
    (λ (e : n < 10). rw (lt-ltb n 10 e))
    (λ (e : 10 ≤ n). rw (le-ltb n 10 e) (ap (λ (l : List ℕ). l ++ ((48 + n % 10) ∷ [])) (places k (n / 10) (omega arith))))
    (lt_or_ge n 10)

pub decimal_small : (n : ℕ) → n < 10 → decimal n ≡ (48 + n) ∷ []
unfolding decimal decimal_to
decimal_small n h = rw (lt-ltb n 10 h)

pub decimal_more : (n : ℕ) → 10 ≤ n → n < 4294967296 → decimal n ≡ decimal (n / 10) ++ ((48 + n % 10) ∷ [])
unfolding decimal decimal_to ten_to
decimal_more n h g =
    let e : n / 10 < ten_to 9 = omega arith in
    rw (le-ltb n 10 h) (ap (λ (l : List ℕ). l ++ ((48 + n % 10) ∷ [])) (sym (places 8 (n / 10) e)))

-- at most as many digits as places
at_most : (k n : ℕ) → length (decimal_to k n) ≤ k
unfolding decimal_to
at_most zero n = omega arith
at_most (suc k) n =
    ⊎_elim
    (λ (e : n < 10). rw (lt-ltb n 10 e) (omega arith))
    (λ (e : 10 ≤ n). rw (le-ltb n 10 e) (simp length-append (omega (arith, at_most k (n / 10)))))
    (lt_or_ge n 10)

pub decimal-length : (n : ℕ) → length (decimal n) ≤ 10
unfolding decimal
decimal-length n = at_most 10 n

pub one_digit : (n : ℕ) → n < 10 → length (decimal n) ≡ 1
one_digit n h = ap length (decimal_small n h)

pub more_digits : (n : ℕ) → 10 ≤ n → n < 4294967296 → length (decimal n) ≡ length (decimal (n / 10)) + 1
more_digits n h g = ap length (decimal_more n h g) ∙ length-append (decimal (n / 10)) ((48 + n % 10) ∷ [])

-- the digits of `left` are the first i of D: the last of them, and those before it
module _ (D : List ℕ) (left i : ℕ) (small : left < 4294967296) (pos : 0 < i) (fits : i ≤ length D) (e : decimal left ≡ take i D) where
  pub last_digit : get_or D (i - 1) 0 ≡ 48 + left % 10
  last_digit =
      ⊎_elim
      (λ (h : left < 10).
      let q : i ≡ 1 = sym (length-take-le i D fits) ∙ ap length (sym e) ∙ one_digit left h in
      let k : i - 1 ≡ 0 = omega arith in
      let z : left % 10 ≡ left = omega arith in
      sym (get_or-take i D (i - 1) 0 (omega arith)) ∙ ap₂ (λ (l : List ℕ) (j : ℕ). get_or l j 0) (sym e ∙ decimal_small left h) k ∙ ap (λ (x : ℕ). 48 + x) (sym z))
      (λ (h : 10 ≤ left).
      let q : i ≡ length (decimal (left / 10)) + 1 = sym (length-take-le i D fits) ∙ ap length (sym e) ∙ more_digits left h small in
      let k : i - 1 ≡ length (decimal (left / 10)) = omega arith in
      sym (get_or-take i D (i - 1) 0 (omega arith))
      ∙ ap₂ (λ (l : List ℕ) (j : ℕ). get_or l j 0) (sym e ∙ decimal_more left h small) k
      ∙ get_or-append_seam (decimal (left / 10)) (48 + left % 10) [] 0)
      (lt_or_ge left 10)

  pub digits_before : 0 < i - 1 → decimal (left / 10) ≡ take (i - 1) D
  digits_before p =
      ⊎_elim
      (λ (h : left < 10).
      let q : i ≡ 1 = sym (length-take-le i D fits) ∙ ap length (sym e) ∙ one_digit left h in
      absurd (omega arith))
      (λ (h : 10 ≤ left).
      let q : i ≡ length (decimal (left / 10)) + 1 = sym (length-take-le i D fits) ∙ ap length (sym e) ∙ more_digits left h small in
      let k : length (decimal (left / 10)) ≡ i - 1 = omega arith in
      sym (take_at (decimal (left / 10)) ((48 + left % 10) ∷ []) (i - 1) k) ∙ ap (take (i - 1)) (sym (decimal_more left h small) ∙ e) ∙ take-take (i - 1) i D (omega arith))
      (lt_or_ge left 10)

-- one more digit is written, before those that stand
pub digit_put : (d out D : List ℕ) (at i v : ℕ) → 0 < i → i ≤ length D → at + length D ≤ length d → out ≡ put_at d (at + i) (drop i D) → v ≡ get_or D (i - 1) 0
    → set out (at + (i - 1)) v ≡ put_at d (at + (i - 1)) (drop (i - 1) D)
digit_put d out D at i v pos fits room e w =
    let n : at + i ≡ at + (i - 1) + 1 = omega arith in
    let k : suc (i - 1) ≡ i = omega arith in
    let c : drop (i - 1) D ≡ v ∷ drop i D = drop-cons D (i - 1) 0 (omega arith) ∙ ap₂ (λ (x y : ℕ). x ∷ drop y D) (sym w) k in
    ap (λ (l : List ℕ). set l (at + (i - 1)) v) (e ∙ ap (λ (x : ℕ). put_at d x (drop i D)) n)
    ∙ put-before d (at + (i - 1)) (drop i D) v (simp length-drop (omega arith))
    ∙ ap (put_at d (at + (i - 1))) (sym c)
