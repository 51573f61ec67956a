-- Insertion by rank into records that rise: where it puts the record, and how the place is found from the end.
-- Assumes nothing.
use Prim.Native.Nat.{ℕ, zero, suc, ◌+◌, ◌-◌, ◌*◌, ◌≤◌, ◌<◌}
use native.Mathlib.Nat.{add-zero, zero-add}
use native.Mathlib.Omega.{arith}
use mathlib.Core.Path.{◌≡◌, refl, sym, ap, ◌∙◌}
use mathlib.Core.Logic.{inl, inr, ⊎_elim}
use mathlib.Core.Bool.{cond}
use mathlib.Core.List.{List, [], ◌∷◌, ◌++◌}
use lib.Dec.{leb}
use lib.ListN.{take, drop}
use borrow.Author.Tests.{lt-ltb, le-ltb, le-leb, lt-leb}
use Rattle.model.specs.Record.{Rec}
use Rattle.model.specs.Log.{rank, insert}
use Rattle.byte_slice.proofs.Numbers.{lt_or_ge}
use Rattle.byte_slice.proofs.Parts.{part_is}
use Rattle.log_laws.specs.Members.{Has}
use Rattle.log_laws.specs.Sound.{SoundAfter, SoundOn}
use Rattle.log_laws.proofs.Counts.{above_all_on}
use Rattle.log_check.specs.declared.Layout.TheVariants.{Log}
use Rattle.log_check.specs.Places.{offset_of, laid_at}
use Rattle.log_check.specs.InOrder.{listed}
use Rattle.log_insert.specs.Where.{place_behind, Rising}

module _ (at : ℕ → Rec) where
  -- ---- a sound list rises

  has_listed : (i n j : ℕ) → i ≤ j → j < i + n → Has (at j) (listed at i n)
  unfolding listed
  has_listed i zero j l h = absurd (omega arith)
  has_listed i (suc n) j l h =
      ⊎_elim
      (λ (k : i < j). inr (has_listed (suc i) n j k (omega arith)))
      (λ k. let e : j ≡ i = omega arith in inl (ap at e))
      (lt_or_ge i j)

  sound_rises : (base : List ℕ) (pre : List Rec) (i n : ℕ) → SoundAfter base pre (listed at i n) → (j : ℕ) → i ≤ j → suc j < i + n → rank (at j) < rank (at (suc j))
  unfolding listed
  sound_rises base pre i zero h j a c = absurd (omega arith)
  sound_rises base pre i (suc n) h j a c =
      ⊎_elim
      (λ (l : i < j). sound_rises base (at i ∷ pre) (suc i) n h.1 j l (omega arith))
      (λ l.
      let e : j ≡ i = omega arith in
      rw e (above_all_on base (at i ∷ pre) (listed at (suc i) n) (at i) (at (suc i)) h.1 (inl refl) (has_listed (suc i) n (suc i) (omega arith) (omega arith))))
      (lt_or_ge i j)

  pub sound_rising : (base : List ℕ) (n : ℕ) → SoundOn base (listed at 0 n) → Rising at n
  sound_rising base n h = record { rises = λ j l. sound_rises base [] 0 n h j (omega arith) (omega arith) }

  -- records that rise from each to the next rise altogether
  rises : (n : ℕ) → Rising at n → (j k : ℕ) → j < k → k < n → rank (at j) < rank (at k)
  rises n h j zero b c = absurd (omega arith)
  rises n h j (suc k) b c =
      ⊎_elim
      (λ (l : j < k). omega (arith, rises n h j k l (omega arith), h.rises k c))
      (λ l. let e : j ≡ k = omega arith in rw e (h.rises k c))
      (lt_or_ge j k)

  -- ---- the place

  pub place_at_most : (k n : ℕ) → place_behind at k n ≤ n
  unfolding place_behind
  place_at_most k zero = omega arith
  place_at_most k (suc n) =
      ⊎_elim
      (λ (h : k < rank (at n)). rw (lt-leb (rank (at n)) k h) (omega (arith, place_at_most k n)))
      (λ (h : rank (at n) ≤ k). rw (le-leb (rank (at n)) k h) (omega arith))
      (lt_or_ge k (rank (at n)))

  above : (k n j : ℕ) → place_behind at k n ≤ j → j < n → k < rank (at j)
  unfolding place_behind
  above k zero j a b = absurd (omega arith)
  above k (suc n) j a b =
      ⊎_elim
      (λ (h : k < rank (at n)).
      let a' : place_behind at k n ≤ j = rw (lt-leb (rank (at n)) k h) at a in
      ⊎_elim
      (λ (l : j < n). above k n j a' l)
      (λ l. let e : j ≡ n = omega arith in rw e h)
      (lt_or_ge j n))
      (λ (h : rank (at n) ≤ k).
      let a' : suc n ≤ j = rw (le-leb (rank (at n)) k h) at a in
      absurd (omega arith))
      (lt_or_ge k (rank (at n)))

  last_below : (k n : ℕ) → 0 < place_behind at k n → rank (at (place_behind at k n - 1)) ≤ k
  unfolding place_behind
  last_below k zero a = absurd (omega arith)
  last_below k (suc n) a =
      ⊎_elim
      (λ (h : k < rank (at n)).
      let e = lt-leb (rank (at n)) k h in
      rw e (last_below k n (rw e at a)))
      (λ (h : rank (at n) ≤ k).
      let e : suc n - 1 ≡ n = omega arith in
      rw (le-leb (rank (at n)) k h, e) h)
      (lt_or_ge k (rank (at n)))

  below : (n : ℕ) → Rising at n → (m : ℕ) → m ≤ n → (k j : ℕ) → j < place_behind at k m → rank (at j) ≤ k
  below n h m q k j a =
      let p = place_behind at k m in
      ⊎_elim
      (λ (l : j < p - 1). omega (arith, last_below k m (omega arith), rises n h j (p - 1) l (omega (arith, place_at_most k m))))
      (λ l. let e : j ≡ p - 1 = omega arith in rw e (last_below k m (omega arith)))
      (lt_or_ge j (p - 1))

  -- ---- insertion

  put_in : (r : Rec) (i m n : ℕ) → ((j : ℕ) → i ≤ j → j < i + m → rank (at j) ≤ rank r) → ((j : ℕ) → i + m ≤ j → j < i + m + n → rank r < rank (at j))
      → insert r (listed at i (m + n)) ≡ listed at i m ++ r ∷ listed at (i + m) n
  unfolding insert listed
  put_in r i zero zero a b = refl
  put_in r i zero (suc n) a b =
      let e : 0 + suc n ≡ suc n = omega arith in
      rw (e, add-zero i, lt-ltb (rank r) (rank (at i)) (b i (omega arith) (omega arith)))
  put_in r i (suc m) n a b =
      let e : suc m + n ≡ suc (m + n) = omega arith in
      let f : i + suc m ≡ suc i + m = omega arith in
      rw (e, le-ltb (rank r) (rank (at i)) (a i (omega arith) (omega arith)), f, put_in r (suc i) m n (λ j l h. a j (omega arith) (omega arith)) (λ j l h. b j (omega arith) (omega arith)))

  -- among the first m of records that rise a record goes to the place found from the end
  pub insert-at : (r : Rec) (n : ℕ) → Rising at n → (m : ℕ) → m ≤ n
      → insert r (listed at 0 m) ≡ listed at 0 (place_behind at (rank r) m) ++ r ∷ listed at (place_behind at (rank r) m) (m - place_behind at (rank r) m)
  insert-at r n h m q =
      let p = place_behind at (rank r) m in
      let k = place_at_most (rank r) m in
      let e : m ≡ p + (m - p) = omega arith in
      let g : insert r (listed at 0 (p + (m - p))) ≡ listed at 0 p ++ r ∷ listed at (0 + p) (m - p) = put_in r 0 p (m - p) (λ j l b. below n h m q (rank r) j (omega arith)) (λ j l b. above (rank r) m j (omega arith) (omega arith)) in
      ap (λ (x : ℕ). insert r (listed at 0 x)) e ∙ (rw (zero-add p) at g)

-- the place goes by the records before it alone
pub place_same : (at to : ℕ → Rec) (k n : ℕ) → ((j : ℕ) → j < n → at j ≡ to j) → place_behind at k n ≡ place_behind to k n
unfolding place_behind
place_same at to k zero h = refl
place_same at to k (suc n) h = rw (h n (omega arith), place_same at to k n (λ j l. h j (omega arith)))

-- ---- what the loop of `place_behind` is asked, over plain values

module _ (b : List ℕ) (k n i : ℕ) (inv : place_behind (laid_at Log b) k i ≡ place_behind (laid_at Log b) k n) where
  module _ (h : 0 < i) (q : ℕ) (e : q ≡ rank (take (80 * (i - 1) + 80 - 80 * (i - 1)) (drop (80 * (i - 1)) b))) where
    lent_rank : rank (laid_at Log b (i - 1)) ≡ q
    unfolding laid_at offset_of
    lent_rank = sym (rw (part_is b (80 * (i - 1)) 80) at e)

    step : place_behind (laid_at Log b) k i ≡ cond (leb q k) i (place_behind (laid_at Log b) k (i - 1))
    unfolding place_behind
    step = let s : i ≡ suc (i - 1) = omega arith in (rw lent_rank at (ap (λ (x : ℕ). place_behind (laid_at Log b) k x) s)) ∙ ap (λ (x : ℕ). cond (leb q k) x (place_behind (laid_at Log b) k (i - 1))) (sym s)

    pub behind_stops : q ≤ k → i - 1 + 1 ≡ place_behind (laid_at Log b) k n
    behind_stops l = let s : i - 1 + 1 ≡ i = omega arith in s ∙ sym (rw (le-leb q k l) at step) ∙ inv

    pub behind-next : k < q → place_behind (laid_at Log b) k (i - 1) ≡ place_behind (laid_at Log b) k n
    behind-next l = sym (rw (lt-leb q k l) at step) ∙ inv

  pub behind-none : i ≤ 0 → 0 ≡ place_behind (laid_at Log b) k n
  unfolding place_behind
  behind-none h = let e : i ≡ 0 = omega arith in rw e at inv
