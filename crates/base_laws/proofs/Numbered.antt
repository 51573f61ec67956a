-- Lists of what stands at numbers that follow one another, and the rows of a base as such lists.
-- Assumes nothing.
use Prim.Native.Nat.{ℕ, zero, suc, ◌+◌, ◌≤◌, ◌<◌}
use native.Mathlib.Omega.{arith}
use mathlib.Core.Path.{◌≡◌, refl, sym, ap, ◌∙◌, subst}
use mathlib.Core.Logic.{inl, inr, ⊎_elim}
use mathlib.Core.List.{List, [], ◌∷◌}
use lib.ListN.{get_or, length}
use Rattle.base_model.specs.Base.{base_entry, base_aside, base_entries, base_asides}
use Rattle.byte_slice.proofs.Numbers.{lt_or_ge, eq_or_ne}
use Rattle.log_laws.proofs.Members.{All}
use Rattle.tree_laws.specs.Replayed.{Has, Distinct, makers, whos}

-- a number of a range for which a thing holds
pub record Some (P : ℕ → Type 0) (i n : ℕ) : Type 0 where
  pub at : ℕ
  pub from : i ≤ at
  pub below : at < i + n
  pub holds : P at

pub first : {P : ℕ → Type 0} {i : ℕ} (n : ℕ) → P i → Some P i (suc n)
first {P} {i} n p = record { at = i; from = omega arith; below = omega arith; holds = p }

pub later : {P : ℕ → Type 0} {i n : ℕ} → Some P (suc i) n → Some P i (suc n)
later s = record { at = s.at; from = omega (arith, s.from); below = omega (arith, s.below); holds = s.holds }

-- what stands at the n numbers from i on
unfoldable pub listed : {A : Type 0} → (ℕ → A) → ℕ → ℕ → List A
listed f i zero = []
listed f i (suc n) = f i ∷ listed f (suc i) n

module _ {A : Type 0} (f : ℕ → A) where
  pub has_at : (x : A) (i n : ℕ) → Has x (listed f i n) → Some (λ j. x ≡ f j) i n
  unfolding listed
  has_at x i zero h = absurd h
  has_at x i (suc n) h = ⊎_elim (λ (p : x ≡ f i). first n p) (λ g. later (has_at x (suc i) n g)) h

  pub at_has : (j i n : ℕ) → i ≤ j → j < i + n → Has (f j) (listed f i n)
  unfolding listed
  at_has j i zero h g = absurd (omega arith)
  at_has j i (suc n) h g =
      ⊎_elim
      (λ (e : i ≡ j). inl (rw e))
      (λ (e : i ≡ j → ⊥). inr (at_has j (suc i) n (omega arith) (omega arith)))
      (eq_or_ne i j)

  pub all_listed : (P : A → Type 0) (i n : ℕ) → ((j : ℕ) → i ≤ j → j < i + n → P (f j)) → All P (listed f i n)
  unfolding listed
  all_listed P i zero g = tt
  all_listed P i (suc n) g = (g i (omega arith) (omega arith), all_listed P (suc i) n (λ j h l. g j (omega arith) (omega arith)))

  pub differ_once : (i n : ℕ) → ((j k : ℕ) → i ≤ j → j < k → k < i + n → f j ≡ f k → ⊥) → Distinct (listed f i n)
  unfolding listed
  differ_once i zero g = tt
  differ_once i (suc n) g = (
    λ h. let s = has_at (f i) (suc i) n h in g i s.at (omega arith) (omega (arith, s.from)) (omega (arith, s.below)) s.holds,
    differ_once (suc i) n (λ j k h l u e. g j k (omega arith) l (omega arith) e),
  )

  pub once_differ : (i n j k : ℕ) → Distinct (listed f i n) → i ≤ j → j < k → k < i + n → f j ≡ f k → ⊥
  unfolding listed
  once_differ i zero j k d h l g e = omega arith
  once_differ i (suc n) j k d h l g e =
      ⊎_elim
      (λ (q : i ≡ j).
      let p : f k ≡ f i = sym e ∙ ap f (sym q) in
      d.0 (subst (λ (y : A). Has y (listed f (suc i) n)) p (at_has k (suc i) n (omega arith) (omega arith))))
      (λ (q : i ≡ j → ⊥). once_differ (suc i) n j k d.1 (omega arith) l (omega arith) e)
      (eq_or_ne i j)

  pub listed_is : (l : List A) (i : ℕ) → ((j : ℕ) (d : A) → j < length l → f (i + j) ≡ get_or l j d) → listed f i (length l) ≡ l
  unfolding listed
  listed_is [] i g = refl
  listed_is (x ∷ l) i g =
      let z : i + 0 ≡ i = omega arith in
      let a : f i ≡ x = rw z at (g 0 x (omega arith)) in
      let r = listed_is l (suc i) (λ j d h. let y : suc i + j ≡ i + suc j = omega arith in rw y (g (suc j) d (omega arith))) in
      λ k. a k ∷ r k

-- where no two of the first n are the same, one that is there twice is one
pub differ_same : (f : ℕ → ℕ) (n : ℕ) → ((j k : ℕ) → j < k → k < n → f j ≡ f k → ⊥) → (i j : ℕ) → i < n → j < n → f i ≡ f j → i ≡ j
differ_same f n g i j h l e =
    ⊎_elim
    (λ (x : i < j). absurd (g i j x l e))
    (λ x. ⊎_elim (λ (y : j < i). absurd (g j i y h (sym e))) (λ y. omega arith) (lt_or_ge j i))
    (lt_or_ge i j)

-- ---- the rows of a base

module _ (b : List ℕ) where
  abbrev pub made_at : ℕ → ℕ
  made_at j = (base_entry b j).made

  abbrev pub who_at : ℕ → ℕ
  who_at j = (base_aside b j).who

  pub entries_listed : (i n : ℕ) → base_entries b i n ≡ listed (base_entry b) i n
  unfolding base_entries listed
  entries_listed i zero = refl
  entries_listed i (suc n) = rw (entries_listed (suc i) n)

  pub asides_listed : (i n : ℕ) → base_asides b i n ≡ listed (base_aside b) i n
  unfolding base_asides listed
  asides_listed i zero = refl
  asides_listed i (suc n) = rw (asides_listed (suc i) n)

  pub makers-listed : (i n : ℕ) → makers (base_entries b i n) ≡ listed made_at i n
  unfolding base_entries listed makers
  makers-listed i zero = refl
  makers-listed i (suc n) = rw (makers-listed (suc i) n)

  pub whos-listed : (i n : ℕ) → whos (base_asides b i n) ≡ listed who_at i n
  unfolding base_asides listed whos
  whos-listed i zero = refl
  whos-listed i (suc n) = rw (whos-listed (suc i) n)

  pub entries_count : (i n : ℕ) → length (base_entries b i n) ≡ n
  unfolding base_entries
  entries_count i zero = refl
  entries_count i (suc n) = ap suc (entries_count (suc i) n)

  pub asides_count : (i n : ℕ) → length (base_asides b i n) ≡ n
  unfolding base_asides
  asides_count i zero = refl
  asides_count i (suc n) = ap suc (asides_count (suc i) n)
