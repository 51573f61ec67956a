-- The rows of present entries, one after another.
-- Assumes nothing.
use Prim.Native.Nat.{ℕ, zero, suc, ◌+◌, ◌-◌, ◌*◌, ◌≤◌, ◌<◌}
use native.Mathlib.Numerals.{add-one}
use native.Mathlib.Omega.{arith}
use mathlib.Core.Path.{◌≡◌, refl, sym, ap, ◌∙◌}
use mathlib.Core.Logic.{⊎_elim}
use mathlib.Core.List.{List}
use lib.ListN.{get_or, length, take, drop}
use borrow.Author.Tests.{eq-eqb, ne_eqb}
use Rattle.model.specs.Bytes.{part, put_at}
use Rattle.byte_slice.proofs.Numbers.{eq_or_ne}
use Rattle.byte_slice.proofs.Parts.{part_is, lent_length}
use Rattle.byte_slice.proofs.PutAt.{put-nil, put_more}
use Rattle.tree_finish.specs.Finishing.{kept_to, present_to}
use Rattle.tree_finish.proofs.Compaction.{kept-length, present_few}

-- ---- one row more

present_grows : (b : List ℕ) (i : ℕ) → present_to b i ≤ present_to b (suc i)
unfolding present_to
present_grows b i =
    ⊎_elim
    (λ (e : get_or b (4 + 72 * i) 0 ≡ 0). rw (eq-eqb (get_or b (4 + 72 * i) 0) 0 e) (omega arith))
    (λ (e : get_or b (4 + 72 * i) 0 ≡ 0 → ⊥). rw (ne_eqb (get_or b (4 + 72 * i) 0) 0 e) (omega arith))
    (eq_or_ne (get_or b (4 + 72 * i) 0) 0)

present_rises : (b : List ℕ) (i k : ℕ) → present_to b i ≤ present_to b (k + i)
present_rises b i zero = let e : 0 + i ≡ i = omega arith in rw e (omega arith)
present_rises b i (suc k) =
    let e : suc k + i ≡ suc (k + i) = omega arith in
    rw e (omega (arith, present_rises b i k, present_grows b (k + i)))

-- ---- what `keep_rows` is asked, over plain values

module _ (t d b : List ℕ) (n i j : ℕ) (c : j ≡ present_to t i) where
  pub rows_few : j ≤ i
  rows_few = omega (arith, present_few t i)

  pub keeps-none : get_or t (4 + 72 * i) 0 ≡ 0 → j ≡ present_to t (i + 1)
  unfolding present_to
  keeps-none e = rw (add-one i, eq-eqb (get_or t (4 + 72 * i) 0) 0 e) c

  pub keeps_as : b ≡ put_at d 24 (kept_to t i) → get_or t (4 + 72 * i) 0 ≡ 0 → b ≡ put_at d 24 (kept_to t (i + 1))
  unfolding kept_to
  keeps_as g e = rw (add-one i, eq-eqb (get_or t (4 + 72 * i) 0) 0 e) g

  module _ (e : get_or t (4 + 72 * i) 0 ≡ 0 → ⊥) where
    pub keeps_one : j + 1 ≡ present_to t (i + 1)
    unfolding present_to
    keeps_one = rw (add-one i, ne_eqb (get_or t (4 + 72 * i) 0) 0 e) (omega arith)

    pub keeps_room : i < n → present_to t n ≤ 512 → j < 512
    keeps_room h f =
        let q : n - (i + 1) + (i + 1) ≡ n = omega arith in
        let r = rw q at (present_rises t (i + 1) (n - (i + 1))) in
        omega (arith, keeps_one)

    pub keeps_fit : length d ≡ 43032 → length t ≡ 86020 → length b ≡ length d → i < n → n ≤ 1024 → present_to t n ≤ 512
        → 24 + 72 * j + length (take (4 + 72 * i + 72 - (4 + 72 * i)) (drop (4 + 72 * i) t)) ≤ length b
    keeps_fit long-d long same h few all = omega (arith, keeps_room h all, lent_length t (4 + 72 * i) 72 (omega arith))

    pub keeps-row : (b' : List ℕ) → length d ≡ 43032 → length t ≡ 86020 → i < n → n ≤ 1024 → present_to t n ≤ 512 → b ≡ put_at d 24 (kept_to t i)
        → b' ≡ put_at b (24 + 72 * j) (take (4 + 72 * i + 72 - (4 + 72 * i)) (drop (4 + 72 * i) t)) → b' ≡ put_at d 24 (kept_to t (i + 1))
    unfolding kept_to
    keeps-row b' long-d long h few all g f =
        let k : length (kept_to t i) ≡ 72 * j = kept-length t i (omega arith) ∙ ap (λ (x : ℕ). 72 * x) (sym c) in
        let room = keeps_room h all in
        f ∙ rw (part_is t (4 + 72 * i) 72, g, add-one i, ne_eqb (get_or t (4 + 72 * i) 0) 0 e)
        (rw k at (put_more d 24 (kept_to t i) (part t (4 + 72 * i) 72) (omega arith)))

pub keeps_start : (t d : List ℕ) → d ≡ put_at d 24 (kept_to t 0)
unfolding kept_to
keeps_start t d = sym (put-nil d 24)

pub counts_start : (t : List ℕ) → 0 ≡ present_to t 0
unfolding present_to
counts_start t = refl

module _ (t : List ℕ) (n i : ℕ) (h : i ≤ n) (g : n ≤ i) where
  pub keeps_end : (d : List ℕ) {b : List ℕ} → b ≡ put_at d 24 (kept_to t i) → b ≡ put_at d 24 (kept_to t n)
  keeps_end d e = let q : i ≡ n = omega arith in rw q at e

  pub counts_end : {j : ℕ} → j ≡ present_to t i → j ≡ present_to t n
  counts_end e = let q : i ≡ n = omega arith in rw q at e

  pub counts_few : {j : ℕ} → present_to t n ≤ 512 → j ≡ present_to t i → j ≤ 512
  counts_few f e = omega (arith, counts_end e)

pub asides_laid : (d t : List ℕ) (m : ℕ) {o : List ℕ} → o ≡ put_at d 36888 (take (73732 + 12 * m - 73732) (drop 73732 t)) → o ≡ put_at d 36888 (part t 73732 (12 * m))
asides_laid d t m e = rw (part_is t 73732 (12 * m)) at e
