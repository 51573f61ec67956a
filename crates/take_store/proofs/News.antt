-- The records of a block that are new and rise: the loop that tells, and that they are put in one after another.
-- Assumes nothing.
use Prim.Native.Nat.{ℕ, zero, suc, ◌+◌, ◌-◌, ◌*◌, ◌≤◌, ◌<◌}
use native.Mathlib.Nat.{sub-zero}
use native.Mathlib.Numerals.{add-one}
use native.Mathlib.Omega.{arith}
use mathlib.Core.Path.{◌≡◌, refl, sym, ap, ◌∙◌}
use mathlib.Core.Logic.{◌⊎◌, inl, inr, ⊎_elim}
use mathlib.Core.Bool.{Bool, true, false, not, ◌&&◌}
use mathlib.Core.List.{List, ◌∷◌}
use lib.Dec.{ltb, leb}
use lib.ListN.{length, get_or, take, drop}
use borrow.Author.Tests.{lt-leb, le-leb, ltb-true, leb-true, not-true, not-false}
use Rattle.model.specs.Record.{Rec, unit, num}
use Rattle.model.specs.Log.{rank, insert, count_on, vector_on, log_bytes}
use Rattle.model.specs.Block.{record_at, records_from}
use Rattle.call_model.specs.Outcome.{Took, refused, taken, is_folded, take_one, takes_all}
use Rattle.byte_slice.proofs.Numbers.{and_true, lt_or_ge}
use Rattle.byte_slice.proofs.Parts.{part_is, part-part}
use Rattle.log_laws.specs.Members.{Has}
use Rattle.log_laws.specs.Sound.{SoundOn}
use Rattle.log_laws.proofs.Formed.{well_unit}
use Rattle.log_laws.proofs.Counts.{number_held_on}
use Rattle.log_laws.proofs.Insert.{has_insert, length-insert, insert_sound_on}
use Rattle.take_laws.proofs.Take.{New, Known, folded_within, one_from, refused_taken, take_all_goes, take_all_stops, all_from}
use Rattle.log_laws.proofs.Tests.{vector_on_get_d}
use Rattle.log_check.specs.declared.Layout.TheVariants.{Log}
use Rattle.log_check.specs.Places.{offset_of, laid_at}
use Rattle.take_beside.specs.Judging.{after, after_to}
use Rattle.take_judge.proofs.Beside.{after_taken}
use Rattle.log_insert.specs.Where.{Rising, insert_to}
use Rattle.take_store.specs.New.{Units, is_new, new_from}

-- ---- the tests

pub new_is : (held : List ℕ) (r : Rec) (u c : ℕ) → u ≡ unit r → c ≡ num r → ltb (get_or held u 0) c ≡ is_new held r
unfolding is_new
new_is held r u c a b = rw (a, b)

module _ (held b : List ℕ) (n floor j : ℕ) (h : j < n) (q : new_from held (record_at b) floor j (n - j) ≡ new_from held (record_at b) 0 0 n) where
  lent_is : take (28 + 80 * j + 80 - (28 + 80 * j)) (drop (28 + 80 * j) b) ≡ record_at b j
  unfolding record_at
  lent_is = part_is b (28 + 80 * j) 80

  pub unit-below : Units (record_at b) n → unit (take (28 + 80 * j + 80 - (28 + 80 * j)) (drop (28 + 80 * j) b)) < 8
  unit-below u = rw lent_is (u.below j h)

  module _ (t : Bool) (e : t ≡ is_new held (take (28 + 80 * j + 80 - (28 + 80 * j)) (drop (28 + 80 * j) b))) where
    step : (t && (leb floor (rank (record_at b j)) && new_from held (record_at b) (suc (rank (record_at b j))) (suc j) (n - (j + 1)))) ≡ new_from held (record_at b) 0 0 n
    unfolding new_from
    step =
        let f : n - j ≡ suc (n - (j + 1)) = omega arith in
        rw (e, lent_is) (rw f at q)

    pub not_new : not t ≡ true → false ≡ new_from held (record_at b) 0 0 n
    not_new g = rw (not-true t g) at step

    module _ (g : not t ≡ false) (k : ℕ) (d : k ≡ rank (take (28 + 80 * j + 80 - (28 + 80 * j)) (drop (28 + 80 * j) b))) where
      rank_is : rank (record_at b j) ≡ k
      rank_is = sym (rw lent_is at d)

      pub not_rising : k < floor → false ≡ new_from held (record_at b) 0 0 n
      not_rising l = rw (not-false t g, rank_is, lt-leb floor k l) at step

      pub new_next : floor ≤ k → new_from held (record_at b) (k + 1) (j + 1) (n - (j + 1)) ≡ new_from held (record_at b) 0 0 n
      new_next l = rw (← add-one k, ← add-one j) at (rw (not-false t g, rank_is, le-leb floor k l) at step)

pub new_ends : (held b : List ℕ) (n floor j : ℕ) → n ≤ j → new_from held (record_at b) floor j (n - j) ≡ new_from held (record_at b) 0 0 n → true ≡ new_from held (record_at b) 0 0 n
unfolding new_from
new_ends held b n floor j h q = let e : n - j ≡ 0 = omega arith in rw e at q

-- ---- what it tells

module _ (held : List ℕ) (at : ℕ → Rec) where
  new_floor : (floor i m : ℕ) → new_from held at floor i (suc m) ≡ true → floor ≤ rank (at i)
  unfolding new_from
  new_floor floor i m h = leb-true floor (rank (at i)) (and_true (leb floor (rank (at i))) (new_from held at (suc (rank (at i))) (suc i) m) (and_true (is_new held (at i)) (leb floor (rank (at i)) && new_from held at (suc (rank (at i))) (suc i) m) h).1).0

  new_rest : (floor i m : ℕ) → new_from held at floor i (suc m) ≡ true → new_from held at (suc (rank (at i))) (suc i) m ≡ true
  unfolding new_from
  new_rest floor i m h = (and_true (leb floor (rank (at i))) (new_from held at (suc (rank (at i))) (suc i) m) (and_true (is_new held (at i)) (leb floor (rank (at i)) && new_from held at (suc (rank (at i))) (suc i) m) h).1).1

  new_first : (floor i m : ℕ) → new_from held at floor i (suc m) ≡ true → get_or held (unit (at i)) 0 < num (at i)
  unfolding new_from is_new
  new_first floor i m h = ltb-true (get_or held (unit (at i)) 0) (num (at i)) (and_true (is_new held (at i)) (leb floor (rank (at i)) && new_from held at (suc (rank (at i))) (suc i) m) h).0

  new_each : (floor i m : ℕ) → new_from held at floor i m ≡ true → (j : ℕ) → i ≤ j → j < i + m → get_or held (unit (at j)) 0 < num (at j)
  new_each floor i zero h j a b = absurd (omega arith)
  new_each floor i (suc m) h j a b =
      ⊎_elim
      (λ (l : i < j). new_each (suc (rank (at i))) (suc i) m (new_rest floor i m h) j l (omega arith))
      (λ l. let e : j ≡ i = omega arith in rw e (new_first floor i m h))
      (lt_or_ge i j)

  new_above : (floor i m : ℕ) → new_from held at floor i m ≡ true → (k : ℕ) → i ≤ k → k < i + m → floor ≤ rank (at k)
  new_above floor i zero h k a b = absurd (omega arith)
  new_above floor i (suc m) h k a b =
      ⊎_elim
      (λ (l : i < k). omega (arith, new_floor floor i m h, new_above (suc (rank (at i))) (suc i) m (new_rest floor i m h) k l (omega arith)))
      (λ l. let e : k ≡ i = omega arith in rw e (new_floor floor i m h))
      (lt_or_ge i k)

  new_rises : (floor i m : ℕ) → new_from held at floor i m ≡ true → (j k : ℕ) → i ≤ j → j < k → k < i + m → rank (at j) < rank (at k)
  new_rises floor i zero h j k a b c = absurd (omega arith)
  new_rises floor i (suc m) h j k a b c =
      ⊎_elim
      (λ (l : i < j). new_rises (suc (rank (at i))) (suc i) m (new_rest floor i m h) j k l b (omega arith))
      (λ l. let e : j ≡ i = omega arith in rw e (new_above (suc (rank (at i))) (suc i) m (new_rest floor i m h) k (omega arith) (omega arith)))
      (lt_or_ge i j)

-- ---- a block that is taken has each of its records taken

first_taken : (g : ℕ) (v : List ℕ) (l : List Rec) (r : Rec) (rs m : List Rec) → takes_all g v l (r ∷ rs) ≡ taken m → (take_one g v l r ≡ taken (after g v l r)) × (takes_all g v (after g v l r) rs ≡ taken m)
first_taken g v l r rs m e = go (take_one g v l r) refl
  where
    go : (o : Took) → take_one g v l r ≡ o → (take_one g v l r ≡ taken (after g v l r)) × (takes_all g v (after g v l r) rs ≡ taken m)
    go (refused n) q = refused_taken (sym (take_all_stops g v l r rs n q) ∙ e)
    go (taken k) q =
        let a = after_taken g v l r k q in
        (q ∙ ap taken (sym a), ap (λ (x : List Rec). takes_all g v x rs) a ∙ sym (take_all_goes g v l r rs k q) ∙ e)

module _ (g : ℕ) (v : List ℕ) (l : List Rec) (b : List ℕ) (n : ℕ) (t : takes_all g v l (records_from b 0 n) ≡ taken (after_to g v l (record_at b) n)) where
  rest_taken : (j : ℕ) → j ≤ n → takes_all g v (after_to g v l (record_at b) j) (records_from b j (n - j)) ≡ taken (after_to g v l (record_at b) n)
  unfolding after_to records_from
  rest_taken zero h = rw (sub-zero n) t
  rest_taken (suc j) h =
      let f : n - j ≡ suc (n - suc j) = omega arith in
      (first_taken g v (after_to g v l (record_at b) j) (record_at b j) (records_from b (suc j) (n - suc j)) (after_to g v l (record_at b) n) (rw f at (rest_taken j (omega arith)))).1

  pub each_taken : (j : ℕ) → j < n → take_one g v (after_to g v l (record_at b) j) (record_at b j) ≡ taken (after g v (after_to g v l (record_at b) j) (record_at b j))
  unfolding records_from
  each_taken j h =
      let f : n - j ≡ suc (n - suc j) = omega arith in
      (first_taken g v (after_to g v l (record_at b) j) (record_at b j) (records_from b (suc j) (n - suc j)) (after_to g v l (record_at b) n) (rw f at (rest_taken j (omega arith)))).0

  module _ (s : SoundOn v l) where
    has_from : (i m j : ℕ) → i ≤ j → j < i + m → Has (record_at b j) (records_from b i m)
    unfolding records_from
    has_from i zero j a h = absurd (omega arith)
    has_from i (suc m) j a h =
        ⊎_elim
        (λ (k : i < j). inr (has_from (suc i) m j k (omega arith)))
        (λ k. let e : j ≡ i = omega arith in inl (ap (record_at b) e))
        (lt_or_ge i j)

    pub taken_units : Units (record_at b) n
    taken_units =
        let d = all_from g v (records_from b 0 n) l (after_to g v l (record_at b) n) s t in
        record { below = λ j h. well_unit (record_at b j) (d.fit (record_at b j) (has_from 0 n j (omega arith) (omega arith))).0 }

    -- ---- new records that rise are put in one after another

    module _ (held : List ℕ) (c : held ≡ vector_on v l) (y : Bool) (q : y ≡ new_from held (record_at b) 0 0 n) (z : y ≡ true) where
      w : new_from held (record_at b) 0 0 n ≡ true
      w = sym q ∙ z

      has_inserted : (j : ℕ) (r : Rec) → Has r (insert_to l (record_at b) j) → Has r l ⊎ ((i : ℕ) × (i < j) × (r ≡ record_at b i))
      unfolding insert_to
      has_inserted zero r h = inl h
      has_inserted (suc j) r h =
          ⊎_elim
          (λ (e : r ≡ record_at b j). inr (j, omega arith, e))
          (λ (k : Has r (insert_to l (record_at b) j)).
          ⊎_elim
          (λ (x : Has r l). inl x)
          (λ (x : (i : ℕ) × (i < j) × (r ≡ record_at b i)). inr (x.0, omega (arith, x.1), x.2))
          (has_inserted j r k))
          (has_insert (record_at b j) (insert_to l (record_at b) j) r h)

      -- a new record is not among those put in before it
      not_among : (j : ℕ) → j < n → Has (record_at b j) (insert_to l (record_at b) j) → ⊥
      not_among j h i =
          ⊎_elim
          (λ (x : Has (record_at b j) l).
          let u : unit (record_at b j) < 8 = taken_units.below j h in
          let e : get_or held (unit (record_at b j)) 0 ≡ count_on v (unit (record_at b j)) l = rw c (vector_on_get_d v l (unit (record_at b j)) u) in
          omega (arith, number_held_on v l (record_at b j) s x, new_each held (record_at b) 0 0 n w j (omega arith) (omega arith)))
          (λ (x : (i : ℕ) × (i < j) × (record_at b j ≡ record_at b i)).
          let e : rank (record_at b j) ≡ rank (record_at b x.0) = ap rank x.2 in
          omega (arith, new_rises held (record_at b) 0 0 n w x.0 j (omega arith) x.1 (omega arith)))
          (has_inserted j (record_at b j) i)

      -- nor is it folded
      not_folded : (j : ℕ) → j < n → is_folded v (record_at b j) ≡ true → ⊥
      not_folded j h i =
          let u : unit (record_at b j) < 8 = taken_units.below j h in
          let e : get_or held (unit (record_at b j)) 0 ≡ count_on v (unit (record_at b j)) l = rw c (vector_on_get_d v l (unit (record_at b j)) u) in
          omega (arith, folded_within v (record_at b j) i, new_each held (record_at b) 0 0 n w j (omega arith) (omega arith))

      inserted : (j : ℕ) → j ≤ n → (after_to g v l (record_at b) j ≡ insert_to l (record_at b) j) × SoundOn v (after_to g v l (record_at b) j)
      unfolding after_to insert_to
      inserted zero h = (refl, s)
      inserted (suc j) h =
          let q = inserted j (omega arith) in
          let m = after_to g v l (record_at b) j in
          ⊎_elim
          (λ (x : Known v m (record_at b j) (after g v m (record_at b j))).
          ⊎_elim
          (λ (y : is_folded v (record_at b j) ≡ true). absurd (not_folded j (omega arith) y))
          (λ (y : Has (record_at b j) m). absurd (not_among j (omega arith) (rw q.0 at y)))
          x.1)
          (λ (x : New v m (record_at b j) (after g v m (record_at b j))). (x.inserted ∙ ap (insert (record_at b j)) q.0, rw x.inserted (insert_sound_on v m (record_at b j) q.1 x.joins)))
          (one_from g v m (record_at b j) (after g v m (record_at b j)) q.1 (each_taken j (omega arith)))

      length_inserted : (j : ℕ) → length (insert_to l (record_at b) j) ≡ length l + j
      unfolding insert_to
      length_inserted zero = omega arith
      length_inserted (suc j) = omega (arith, length-insert (record_at b j) (insert_to l (record_at b) j), length_inserted j)

      pub all_room : length l ≤ 512 → (used : ℕ) → used ≡ length l → used + n ≤ 512
      all_room f used e =
          let d = all_from g v (records_from b 0 n) l (after_to g v l (record_at b) n) s t in
          omega (arith, d.room f, ap length (inserted n (omega arith)).0, length_inserted n)

      -- ---- the records lent from the block

      lent : List ℕ
      lent = take (28 + 80 * n - 28) (drop 28 b)

      lent_record : (j : ℕ) → j < n → laid_at Log lent j ≡ record_at b j
      unfolding lent laid_at offset_of record_at
      lent_record j h = rw (part_is b 28 (80 * n)) (part-part b 28 (80 * n) (80 * j) 80 (omega arith))

      pub lent_rising : Rising (laid_at Log (take (28 + 80 * n - 28) (drop 28 b))) n
      unfolding lent
      lent_rising = record { rises = λ j h. rw (lent_record j (omega arith), lent_record (suc j) h) (new_rises held (record_at b) 0 0 n w j (suc j) (omega arith) (omega arith) (omega arith)) }

      insert_same : (j : ℕ) → j ≤ n → insert_to l (laid_at Log lent) j ≡ insert_to l (record_at b) j
      unfolding insert_to
      insert_same zero h = refl
      insert_same (suc j) h = rw (lent_record j h, insert_same j (omega arith))

      pub all_stored : (m : List ℕ) → m ≡ log_bytes (insert_to l (laid_at Log (take (28 + 80 * n - 28) (drop 28 b))) n) → m ≡ log_bytes (after_to g v l (record_at b) n)
      unfolding lent
      all_stored m e = e ∙ ap log_bytes (insert_same n (omega arith) ∙ sym (inserted n (omega arith)).0)
