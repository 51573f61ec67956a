-- A careful meeting notices a number used twice: what is brought is always next and within what is held, and the last record
-- that the taker has of a unit in its log is compared.
-- Assumes nothing.
use Prim.Native.Nat.{ℕ, zero, suc, ◌+◌, ◌-◌, ◌*◌, ◌≤◌, ◌<◌, min, max}
use native.Mathlib.Omega.{arith}
use mathlib.Core.Path.{◌≡◌, refl, sym, ap, ◌∙◌, subst}
use mathlib.Core.Logic.{◌⊎◌, inl, inr, ⊎_elim}
use mathlib.Core.Bool.{true, false, cond}
use mathlib.Core.Option.{Option, none, some}
use mathlib.Core.List.{List, [], ◌∷◌, ◌++◌}
use lib.Dec.{ltb}
use lib.ListN.{length, get_or, take, drop, length-set, length-append, take-append-drop, length-drop, get_or-eq_default}
use lib.Seq.{drop-drop, get_or-set_same, get_or-set_other}
use borrow.Author.Tests.{ltb-false}
use Rattle.model.specs.Numbers.{not_closed, other_bytes, full_log}
use Rattle.model.specs.Bytes.{same_bytes}
use Rattle.model.specs.Vector.{covers}
use Rattle.model.specs.Record.{Rec, unit, num, seen, seen_vector, well_formed}
use Rattle.model.specs.Log.{sum_to, rank, count, count_on, vector_of, records_of, log_bytes, insert, by_id, is_closed, lacking}
use Rattle.model.specs.Block.{block_records, given_fault}
use Rattle.base_model.specs.Base.{is_listed, base_vector, base_in}
use Rattle.call_model.specs.Outcome.{Outcome, outcome, Took, refused, taken, take_new, take_held, is_folded, take_one, takes_all, took_all, took_block, take_of}
use Rattle.byte_slice.proofs.Numbers.{lt_or_ge, eq_or_ne, bool_cases, not_both}
use Rattle.byte_slice.proofs.Compare.{ne_same}
use Rattle.vector.proofs.Dominance.{covers_at, all_covers, covers_trans}
use Rattle.log_laws.specs.Members.{Has, Sub}
use Rattle.log_laws.specs.Sound.{SoundOn, Sound, Joins}
use Rattle.log_laws.proofs.Formed.{well_unit, well_own}
use Rattle.log_laws.proofs.Members.{has_append, append_has}
use Rattle.log_laws.proofs.Sums.{sum_to-le}
use Rattle.log_laws.proofs.Counts.{count-cons, length-counts, formed, unit_of_lem, number_held, find_held, sound_front}
use Rattle.log_laws.proofs.Same.{unique, unique_on}
use Rattle.log_laws.proofs.Seen.{saw, seen_below}
use Rattle.log_laws.proofs.Ids.{by_id_some, by_id-none, held_by_id_on}
use Rattle.log_laws.proofs.Tests.{vector_of_get_d, vector_on-length, vector_on_get_d, counts_cover, next_test_on, within_test_on, seen_vector_get_d}
use Rattle.log_laws.proofs.Insert.{insert_has, count-insert, length-insert}
use Rattle.log_laws.proofs.Lacking.{lacking-cons, lacking-nil, has_lacking, lacking_has, lacking_beyond, union-length}
use Rattle.encoding_laws.proofs.Logs.{sound_few}
use Rattle.take_laws.specs.Held.{Counts}
use Rattle.take_laws.proofs.Take.{refused_taken, taken_same, folded_within, within_folded, beyond_folded, above_base, joins_from_on, take_all-nil, take_all_goes, take_all_stops, all_from}
use Rattle.take_laws.proofs.Held.{shed, counts-held, vector_held_lem, insert_all_lem, sound_all}
use Rattle.take_laws.proofs.Arrival.{take_all-append}
use Rattle.call_laws.specs.Keeps.{Good}
use Rattle.call_laws.proofs.Calls.{guarded-passes, take_done, take_left, take_back}
use Rattle.call_laws.proofs.Given.{Holds}
use Rattle.machine.specs.Meeting.{Store, with_log, held_by, vector_by, Whole, lacked_by, Open}
use Rattle.machine.specs.Careful.{lowered, begun, raise, raised, Asking, brought, answer, asking, answered, Twice, Noticed, CarefulAsking, CarefulMeeting, Passes, CarefulPassing}
use Rattle.machine.proofs.Tests.{Rising}
use Rattle.machine.proofs.Cover.{way_all, way_end}
use Rattle.machine.proofs.Meeting.{sound_rising, rising-lacking, rising_same, Pair, used, all_agree, in_A, W, begin, whole_sound, whole-counts, whole_vector, lacking-held, handed-holds, lacks_all, all_listed, fits, may_meet, none_left}

-- ---- the counts asked with

lowered-length : (v own other : List ℕ) → length (lowered v own other) ≡ length v
unfolding lowered
lowered-length [] own other = refl
lowered-length (n ∷ v) own other = ap suc (lowered-length v (drop 1 own) (drop 1 other))

behind_first : (v : List ℕ) (u : ℕ) → get_or (drop 1 v) u 0 ≡ get_or v (suc u) 0
behind_first [] u = refl
behind_first (n ∷ v) u = refl

lowered_get_d : (v own other : List ℕ) (u : ℕ) → u < length v
    → get_or (lowered v own other) u 0 ≡ max (max (get_or v u 0 - 1) (get_or own u 0)) (min (get_or v u 0) (get_or other u 0))
unfolding lowered
lowered_get_d [] own other u k = absurd (omega arith)
lowered_get_d (n ∷ v) own other zero k = refl
lowered_get_d (n ∷ v) own other (suc u) k =
    rw (behind_first own u, behind_first other u) at (lowered_get_d v (drop 1 own) (drop 1 other) u (omega arith))

raise-length : (v : List ℕ) (r : Rec) → length (raise v r) ≡ length v
unfolding raise
raise-length v r = length-set v (unit r) (max (get_or v (unit r) 0) (num r))

raise_own : (v : List ℕ) (r : Rec) → unit r < length v → get_or (raise v r) (unit r) 0 ≡ max (get_or v (unit r) 0) (num r)
unfolding raise
raise_own v r k = get_or-set_same v (unit r) (max (get_or v (unit r) 0) (num r)) 0 k

raise_other : (v : List ℕ) (r : Rec) (u : ℕ) → (u ≡ unit r → ⊥) → get_or (raise v r) u 0 ≡ get_or v u 0
unfolding raise
raise_other v r u d = get_or-set_other v (unit r) u (max (get_or v (unit r) 0) (num r)) 0 d

-- no count falls
raise_more : (v : List ℕ) (r : Rec) (u : ℕ) → get_or v u 0 ≤ get_or (raise v r) u 0
raise_more v r u =
    ⊎_elim
    (λ (q : u ≡ unit r).
    ⊎_elim
    (λ (k : unit r < length v). subst (λ (x : ℕ). get_or v x 0 ≤ get_or (raise v r) x 0) (sym q) (omega (arith, raise_own v r k)))
    (λ (k : length v ≤ unit r). subst (λ (x : ℕ). get_or v x 0 ≤ get_or (raise v r) x 0) (sym q) (omega (arith, get_or-eq_default v 0 {n = unit r} k)))
    (lt_or_ge (unit r) (length v)))
    (λ (q : u ≡ unit r → ⊥). omega (arith, raise_other v r u q))
    (eq_or_ne u (unit r))

raised_above : (v : List ℕ) (rs : List Rec) (w : List ℕ) → covers v w ≡ true → covers (raised v rs) w ≡ true
unfolding raised
raised_above v [] w e = e
raised_above v (r ∷ rs) w e = raised_above (raise v r) rs w (all_covers (raise v r) w (λ u k. omega (arith, covers_at v w e u k, raise_more v r u)))

lacking-length : (v : List ℕ) (l : List Rec) → length (lacking v l) ≤ length l
lacking-length v [] = omega (arith, ap (λ (l : List Rec). length l) (lacking-nil v))
lacking-length v (r ∷ l) =
    ⊎_elim
    (λ k. omega (arith, ap (λ (x : List Rec). length x) k.1, lacking-length v l))
    (λ k. omega (arith, ap (λ (x : List Rec). length x) k.1, lacking-length v l))
    (lacking-cons v r l)

-- A: what the one that is asked holds; list and base: the taker's list and its base vector, which counts the records p; B: all that the taker holds
-- at first; every unit of A is listed, and what B lacks covers the base vector
module _ (A : List Rec) (s_a : Sound A) (list : ℕ) (base : List ℕ) (p : List Rec) (c : Counts base p) (B : List Rec)
    (listed : (r : Rec) → Has r A → is_listed list (unit r) ≡ true)
    (over : (r : Rec) → Has r A → count (unit r) B < num r → covers (seen_vector r) base ≡ true) where
  -- what may be answered where all is not taken
  abbrev Stopped : ℕ → Type 0
  Stopped n = (n ≡ other_bytes) ⊎ (n ≡ not_closed) ⊎ ((n ≡ full_log) × (512 + length p < sum_to 8 (λ u. max (count u A) (count u B))))

  -- the first that is lacking is no longer so once the counts are raised
  raise-lacking : (v : List ℕ) (x : Rec) (l : List Rec) → length v ≡ 8 → lacking v A ≡ x ∷ l → lacking (raise v x) A ≡ l
  raise-lacking v x l n e =
      rising_same (lacking (raise v x) A) l (rising-lacking (raise v x) A up) rise.1 ahead behind
    where
      up : Rising A
      up = sound_rising [] A s_a

      rise : Rising (x ∷ l)
      rise = subst Rising e (rising-lacking v A up)

      in_A : (s : Rec) → Has s (x ∷ l) → Has s A
      in_A s i = has_lacking v A s (subst (Has s) (sym e) i)

      x_in : Has x A
      x_in = in_A x (inl refl)

      x_unit : unit x < length v
      x_unit = omega (arith, unit_of_lem [] A x s_a x_in)

      ahead : Sub (lacking (raise v x) A) l
      ahead s i =
          let j = has_lacking (raise v x) A s i in
          let k = lacking_beyond (raise v x) A s i in
          ⊎_elim
          (λ (q : unit s ≡ unit x).
          let k' : get_or (raise v x) (unit x) 0 < num s = subst (λ (u : ℕ). get_or (raise v x) u 0 < num s) q k in
          let z : get_or v (unit x) 0 < num s = omega (arith, raise_own v x x_unit) in
          ⊎_elim
          (λ (p : s ≡ x). absurd (omega (arith, ap num p, raise_own v x x_unit)))
          (λ p. p)
          (subst (Has s) e (lacking_has v A s j (subst (λ (u : ℕ). get_or v u 0 < num s) (sym q) z))))
          (λ (q : unit s ≡ unit x → ⊥).
          ⊎_elim
          (λ (p : s ≡ x). absurd (q (ap unit p)))
          (λ p. p)
          (subst (Has s) e (lacking_has v A s j (omega (arith, raise_other v x (unit s) q)))))
          (eq_or_ne (unit s) (unit x))

      -- of one unit, what ranks higher has the higher number
      later : (s : Rec) → Has s A → unit s ≡ unit x → rank x < rank s → num x < num s
      later s j q k =
          ⊎_elim
          (λ p. p)
          (λ (p : num s ≤ num x).
          ⊎_elim
          (λ (z : num s ≡ num x). absurd (omega (arith, ap rank (unique [] A s_a s x j x_in q z))))
          (λ (z : num s ≡ num x → ⊥).
          let w : num s ≤ seen x (unit s) = rw q (omega (arith, well_own x (formed [] A x s_a x_in))) in
          absurd (omega (arith, seen_below [] A x s s_a x_in (inr j) (unit_of_lem [] A s s_a j) w)))
          (eq_or_ne (num s) (num x)))
          (lt_or_ge (num x) (num s))

      behind : Sub l (lacking (raise v x) A)
      behind s i =
          let j = in_A s (inr i) in
          let k : get_or v (unit s) 0 < num s = lacking_beyond v A s (subst (Has s) (sym e) (inr i)) in
          lacking_has (raise v x) A s j
          (⊎_elim
          (λ (q : unit s ≡ unit x).
          let k' : get_or v (unit x) 0 < num s = subst (λ (u : ℕ). get_or v u 0 < num s) q k in
          let z : get_or (raise v x) (unit x) 0 < num s = omega (arith, raise_own v x x_unit, later s j q (rise.0 s i)) in
          subst (λ (u : ℕ). get_or (raise v x) u 0 < num s) (sym q) z)
          (λ (q : unit s ≡ unit x → ⊥). omega (arith, raise_other v x (unit s) q))
          (eq_or_ne (unit s) (unit x)))

  -- the counts asked with are held, and no less is held than at first, no more than the two together
  record Asks (v : List ℕ) (m : List Rec) : Type 0 where
    eight : length v ≡ 8
    sound : Sound (p ++ m)
    counted : (u : ℕ) → u < 8 → get_or v u 0 ≤ count u (p ++ m)
    grown : (u : ℕ) → u < 8 → count u B ≤ count u (p ++ m)
    room : (u : ℕ) → u < 8 → count u (p ++ m) ≤ max (count u A) (count u B)

  -- taken, and what then is lacking; or stopped
  abbrev Goes : List ℕ → List Rec → List Rec → List Rec → Took → Type 0
  Goes v m now then o =
      ((m' : List Rec) × (o ≡ taken m') × Asks (raised v now) m' × (lacking (raised v now) A ≡ then) × Sub m m') ⊎ ((n : ℕ) × (o ≡ refused n) × Stopped n)

  module _ (v : List ℕ) (m : List Rec) (x : Rec) (l : List Rec) (k : Asks v m) (e : lacking v A ≡ x ∷ l) where
    rise_one : Rising (x ∷ l)
    rise_one = subst Rising e (rising-lacking v A (sound_rising [] A s_a))

    one_in : Has x A
    one_in = has_lacking v A x (subst (Has x) (sym e) (inl refl))

    one_formed : well_formed x ≡ true
    one_formed = formed [] A x s_a one_in

    -- what it saw is counted
    have : (u : ℕ) → u < 8 → seen x u ≤ count u (p ++ m)
    have u b =
        ⊎_elim
        (λ q.
        let s = saw A x s_a one_in u b q in
        ⊎_elim
        (λ (z : get_or v u 0 < seen x u).
        let z' : get_or v (unit s.it) 0 < num s.it = rw (s.of_unit, s.numbered) z in
        ⊎_elim
        (λ (y : s.it ≡ x). absurd (omega (arith, s.below, ap rank y)))
        (λ y. absurd (omega (arith, s.below, rise_one.0 s.it y)))
        (subst (Has s.it) e (lacking_has v A s.it s.in_log z')))
        (λ (z : seen x u ≤ get_or v u 0). omega (arith, k.counted u b))
        (lt_or_ge (get_or v u 0) (seen x u)))
        (λ q. omega arith)
        (lt_or_ge 0 (seen x u))

    -- counts raised to it are held where it is
    asks_on : (m' : List Rec) → Sound (p ++ m') → num x ≤ count (unit x) (p ++ m') → ((u : ℕ) → u < 8 → count u (p ++ m) ≤ count u (p ++ m'))
        → ((u : ℕ) → u < 8 → count u (p ++ m') ≤ max (count u A) (count u B)) → Asks (raise v x) m'
    asks_on m' h n more fits =
        record {
          eight = raise-length v x ∙ k.eight;
          sound = h;
          counted = λ u b.
              ⊎_elim
              (λ (q : u ≡ unit x).
              let b₁ : unit x < 8 = well_unit x one_formed in
              let d : get_or v (unit x) 0 ≤ count (unit x) (p ++ m) = k.counted (unit x) b₁ in
              let z : get_or (raise v x) (unit x) 0 ≤ count (unit x) (p ++ m') = omega (arith, more (unit x) b₁, raise_own v x (omega (arith, well_unit x one_formed, k.eight))) in
              subst (λ (w : ℕ). get_or (raise v x) w 0 ≤ count w (p ++ m')) (sym q) z)
              (λ (q : u ≡ unit x → ⊥). omega (arith, raise_other v x u q, more u b, k.counted u b))
              (eq_or_ne u (unit x));
          grown = λ u b. omega (arith, k.grown u b, more u b);
          room = fits;
        }

    abbrev Gone : Took → Type 0
    Gone o = ((m' : List Rec) × (o ≡ taken m') × Asks (raise v x) m' × Sub m m') ⊎ ((n : ℕ) × (o ≡ refused n) × Stopped n)

    -- it changes nothing where it is counted
    stays : num x ≤ count (unit x) (p ++ m) → Gone (taken m)
    stays n = inl (m, refl, asks_on m k.sound n (λ u b. omega arith) k.room, λ r h. h)

    -- it is folded: passed over
    passed_over : is_folded base x ≡ true → Gone (taken m)
    passed_over f =
        stays (omega (arith, folded_within base x f, counts-held base p c m (unit x) (well_unit x one_formed)))

    -- it is held: compared
    compared : (s : Rec) → by_id (unit x) (num x) m ≡ some s → Gone (take_held base (some s) m x)
    unfolding take_held
    compared s q = go (bool_cases (same_bytes s x))
      where
        go : (same_bytes s x ≡ true) ⊎ (same_bytes s x ≡ false) → Gone (take_held base (some s) m x)
        go (inr b) = inr (other_bytes, rw b, inl refl)
        go (inl b) =
            let (i, a, n) = by_id_some (unit x) (num x) m s q in
            let h : num x ≤ count (unit x) (p ++ m) = rw (a, n) at (number_held (p ++ m) s k.sound (append_has p m s (inr i))) in
            inl (m, rw b, asks_on m k.sound h (λ u d. omega arith) k.room, λ r j. j)

    -- it is new: next and within, and covers the base vector, so only closure and room are asked
    newly : is_folded base x ≡ false → by_id (unit x) (num x) m ≡ none → Gone (take_new base m x)
    unfolding take_new
    newly f q = go (bool_cases (is_closed base m x)) (bool_cases (ltb (length m) 512))
      where
        x8 : unit x < 8
        x8 = well_unit x one_formed

        held : (u : ℕ) → u < 8 → count_on base u m ≡ count u (p ++ m)
        held = counts-held base p c m

        beyond : count (unit x) (p ++ m) < num x
        beyond =
            ⊎_elim
            (λ y. y)
            (λ y.
            let (s, i, a, b) = find_held (p ++ m) (unit x) (num x) k.sound (omega (arith, well_own x one_formed)) y in
            ⊎_elim
            (λ j.
            let n : num s ≤ count (unit x) p = subst (λ (u : ℕ). num s ≤ count u p) a (number_held p s (sound_front [] p m k.sound) j) in
            absurd (not_both (is_folded base x) (within_folded base x (omega (arith, c (unit x) x8))) f))
            (λ j. absurd (by_id-none (unit x) (num x) m q s j a b))
            (has_append p m s i))
            (lt_or_ge (count (unit x) (p ++ m)) (num x))

        next : num x ≡ suc (count_on base (unit x) m)
        next = omega (arith, beyond, well_own x one_formed, have (unit x) x8, held (unit x) x8)

        within : (u : ℕ) → u < 8 → seen x u ≤ count_on base u m
        within u b = omega (arith, have u b, held u b)

        covering : covers (seen_vector x) base ≡ true
        covering = over x one_in (omega (arith, beyond, k.grown (unit x) x8))

        above : (u : ℕ) → u < 8 → get_or base u 0 ≤ seen x u
        above u b = omega (arith, covers_at (seen_vector x) base covering u b, seen_vector_get_d x u b)

        joins : is_closed base m x ≡ true → Joins base [] m x
        joins d = joins_from_on base m x (shed base p m c k.sound) one_formed (next_test_on base m x next) (within_test_on base m x within) d

        -- with it, all that is held
        whole : is_closed base m x ≡ true → (Sound (p ++ insert x m)) × (insert x (p ++ m) ≡ p ++ insert x m)
        whole d = (sound_all base p c m x k.sound (joins d) above, insert_all_lem base p c m x k.sound (joins d) above)

        counts_one : (u : ℕ) → is_closed base m x ≡ true → count u (p ++ insert x m) ≡ count u (x ∷ (p ++ m))
        counts_one u d = ap (count u) (sym (whole d).1) ∙ count-insert u x (p ++ m)

        more : is_closed base m x ≡ true → (u : ℕ) → u < 8 → count u (p ++ m) ≤ count u (p ++ insert x m)
        more d u b = ⊎_elim (λ y. omega (arith, counts_one u d, y.1)) (λ y. omega (arith, counts_one u d, y.1)) (count-cons u x (p ++ m))

        fits_one : is_closed base m x ≡ true → (u : ℕ) → u < 8 → count u (p ++ insert x m) ≤ max (count u A) (count u B)
        fits_one d u b =
            ⊎_elim
            (λ y.
            let n : num x ≤ count u A = subst (λ (w : ℕ). num x ≤ count w A) y.0 (number_held A x s_a one_in) in
            let n' : num x ≡ suc (count_on base u m) = subst (λ (w : ℕ). num x ≡ suc (count_on base w m)) y.0 next in
            omega (arith, counts_one u d, y.1, held u b))
            (λ y. omega (arith, counts_one u d, y.1, k.room u b))
            (count-cons u x (p ++ m))

        go : (is_closed base m x ≡ true) ⊎ (is_closed base m x ≡ false) → (ltb (length m) 512 ≡ true) ⊎ (ltb (length m) 512 ≡ false) → Gone (take_new base m x)
        go (inr d) g = inr (not_closed, rw (next_test_on base m x next, within_test_on base m x within, covering, d), inr (inl refl))
        go (inl d) (inr g) =
            let h = (whole d).0 in
            let full : 512 + length p < sum_to 8 (λ u. max (count u A) (count u B)) =
            omega (
              arith,
              ltb-false (length m) 512 g,
              length-insert x m,
              length-append p (insert x m),
              length-counts (p ++ insert x m) (λ s i. unit_of_lem [] (p ++ insert x m) s h i),
              sum_to-le 8 (λ u. count u (p ++ insert x m)) (λ u. max (count u A) (count u B)) (fits_one d),
            ) in
            inr (full_log, rw (next_test_on base m x next, within_test_on base m x within, covering, d, g), inr (inr (refl, full)))
        go (inl d) (inl g) =
            let h = (whole d).0 in
            let own : num x ≤ count (unit x) (p ++ insert x m) = number_held (p ++ insert x m) x h (append_has p (insert x m) x (inr (insert_has x m x (inl refl)))) in
            inl (insert x m, rw (next_test_on base m x next, within_test_on base m x within, covering, d, g), asks_on (insert x m) h own (more d) (fits_one d), λ r i. insert_has x m r (inr i))

    one : Gone (take_one list base m x)
    unfolding take_one take_held
    one = rw (one_formed, listed x one_in) (fold (bool_cases (is_folded base x)))
      where
        go : is_folded base x ≡ false → (o : Option Rec) → by_id (unit x) (num x) m ≡ o → Gone (take_held base o m x)
        go f (some s) q = compared s q
        go f none q = newly f q

        fold : (is_folded base x ≡ true) ⊎ (is_folded base x ≡ false) → Gone (cond (is_folded base x) (taken m) (take_held base (by_id (unit x) (num x) m) m x))
        fold (inl f) = rw f (passed_over f)
        fold (inr f) = rw f (go f (by_id (unit x) (num x) m) refl)

  -- the first n of what is lacking
  first : (n : ℕ) (v : List ℕ) (m l : List Rec) → Asks v m → lacking v A ≡ l → Goes v m (take n l) (drop n l) (takes_all list base m (take n l))
  unfolding raised
  first zero v m l k e = inl (m, take_all-nil list base m, k, e, λ r h. h)
  first (suc n) v m [] k e = inl (m, take_all-nil list base m, k, e, λ r h. h)
  first (suc n) v m (x ∷ l) k e =
      ⊎_elim
      (λ g.
      let (m₁, t₁, k₁, s₁) = g in
      ⊎_elim
      (λ f. let (m₂, t₂, k₂, e₂, s₂) = f in inl (m₂, take_all_goes list base m x (take n l) m₁ t₁ ∙ t₂, k₂, e₂, λ r h. s₂ r (s₁ r h)))
      (λ f. inr (f.0, take_all_goes list base m x (take n l) m₁ t₁ ∙ f.1, f.2))
      (first n (raise v x) m₁ l k₁ (raise-lacking v x l k.eight e)))
      (λ g. inr (g.0, take_all_stops list base m x (take n l) g.0 g.1, g.2))
      (one v m x l k e)

-- ---- one record with other bytes

take_other : (list : ℕ) (base : List ℕ) (m : List Rec) (r s : Rec) → SoundOn base m → well_formed r ≡ true → is_listed list (unit r) ≡ true → Has s m → unit r ≡ unit s → num r ≡ num s
    → (r ≡ s → ⊥) → take_one list base m r ≡ refused other_bytes
unfolding take_one take_held
take_other list base m r s h f i j a b d =
    let e : by_id (unit r) (num r) m ≡ some s = rw (a, b) (held_by_id_on base m s h j) in
    let g : is_folded base r ≡ false = beyond_folded base r (rw (a, b) (above_base base [] m s h j)) in
    rw (f, i, g, e, ne_same s r (λ q. d (sym q)))

-- ---- the rounds

module _ (archive a b : ℕ) (sa sb : Store) (a8 : a < 8) (b8 : b < 8) (wa : Whole sa) (wb : Whole sb) (ok : Open sa sb) where
  abbrev A : List Rec
  A = held_by sa

  abbrev B : List Rec
  B = held_by sb

  abbrev list : ℕ
  list = (base_in sb.base).list

  abbrev base : List ℕ
  base = base_vector sb.base

  abbrev p : List Rec
  p = sb.folded

  s_a : Sound A
  s_a = whole_sound sa wa

  counts : Counts base p
  counts = whole-counts sb wb

  begun_get_d : (u : ℕ) → u < 8
      → get_or (begun sa sb) u 0 ≡ max (max (get_or (vector_by sb) u 0 - 1) (get_or base u 0)) (min (get_or (vector_by sb) u 0) (get_or (base_vector sa.base) u 0))
  begun_get_d u k =
      lowered_get_d (vector_by sb) base (base_vector sa.base) u (omega (arith, vector_on-length base (records_of sb.log)))

  -- no more than is held, and what a has folded is covered
  begun-below : (u : ℕ) → u < 8 → get_or (begun sa sb) u 0 ≤ get_or (vector_by sb) u 0
  begun-below u k = omega (arith, begun_get_d u k, vector_on_get_d base (records_of sb.log) u k)

  begun_reach : covers (begun sa sb) (base_vector sa.base) ≡ true
  begun_reach =
      all_covers (begun sa sb) (base_vector sa.base) (λ u k. omega (arith, begun_get_d u k, covers_at (vector_by sb) (base_vector sa.base) ok.above u k))

  listed : (r : Rec) → Has r A → is_listed list (unit r) ≡ true
  listed = all_listed sa sb wa wb ok.above ok.listed

  over : (r : Rec) → Has r A → count (unit r) B < num r → covers (seen_vector r) base ≡ true
  over r i k =
      let h = unit_of_lem [] A r s_a i in
      ok.covering r (subst (Has r) (lacks_all sa sb wa wb ok.above) (lacking_has (vector_of B) A r i (omega (arith, vector_of_get_d B (unit r) h))))

  -- the counts asked with, and the log of b
  abbrev at : List ℕ → List ℕ → Asking
  at v log = record { asked = v; store = with_log sb log }

  abbrev Stops : ℕ → Type 0
  Stops = Stopped A s_a list base p counts B listed over

  -- what the asking side has, and what is left to be brought
  record Ready (v log : List ℕ) (l : List Rec) : Type 0 where
    good : Good log sb.base
    asks : Asks A s_a list base p counts B listed over v (records_of log)
    reach : covers v (base_vector sa.base) ≡ true
    left : lacking v A ≡ l
    kept : Sub (records_of sb.log) (records_of log)

  brought-holds : (v log : List ℕ) → covers v (base_vector sa.base) ≡ true → Holds archive (brought archive a sa (at v log)) (take 6 (lacking v A))
  unfolding brought
  brought-holds v log e = rw (lacking-held v sa wa e) (handed-holds archive a sa v a8 wa.good e).1

  refused_number : (v log : List ℕ) (l : List Rec) (n : ℕ) → Ready v log l → takes_all list base (records_of log) (block_records (brought archive a sa (at v log))) ≡ refused n
      → (answer archive a b sa (at v log)).number ≡ n
  unfolding answer take_of took_block took_all
  refused_number v log l n k e =
      let f : given_fault archive (brought archive a sa (at v log)) ≡ 0 = (brought-holds v log k.reach).faultless in
      rw (guarded-passes b log sb.base [] true (took_block log sb.base (brought archive a sa (at v log)) (given_fault archive (brought archive a sa (at v log)))) refl (omega arith) k.good, f, e) refl

  -- what is asked next, and the log then
  abbrev more : List ℕ → List ℕ → List ℕ
  more v log = raised v (block_records (brought archive a sa (at v log)))

  abbrev then : List ℕ → List ℕ → List ℕ
  then v log = (answer archive a b sa (at v log)).log

  -- a block is taken, and the rest is left; or the meeting stops
  record Taken (v log : List ℕ) (l : List Rec) : Type 0 where
    after : List Rec
    took : takes_all list base (records_of log) (take 6 l) ≡ taken after
    number : (answer archive a b sa (at v log)).number ≡ 0
    is_log : records_of (then v log) ≡ after
    ready : Ready (more v log) (then v log) (drop 6 l)

  record Stuck (v log : List ℕ) (l : List Rec) : Type 0 where
    reason : ℕ
    took : takes_all list base (records_of log) (take 6 l) ≡ refused reason
    stopped : Stops (answer archive a b sa (at v log)).number

  round : (v log : List ℕ) (l : List Rec) → Ready v log l → Taken v log l ⊎ Stuck v log l
  unfolding answer
  round v log l k = ⊎_elim taking stopping (first A s_a list base p counts B listed over 6 v (records_of log) l k.asks k.left)
    where
      is : block_records (brought archive a sa (at v log)) ≡ take 6 l
      is = (brought-holds v log k.reach).records ∙ ap (take 6) k.left

      stopping : (n : ℕ) × (takes_all list base (records_of log) (take 6 l) ≡ refused n) × Stops n → Taken v log l ⊎ Stuck v log l
      stopping (n, e, h) =
          inr (record { reason = n; took = e; stopped = subst Stops (sym (refused_number v log l n k (ap (takes_all list base (records_of log)) is ∙ e))) h })

      taking : (m : List Rec) × (takes_all list base (records_of log) (take 6 l) ≡ taken m) × Asks A s_a list base p counts B listed over (raised v (take 6 l)) m × (lacking (raised v (take 6 l)) A ≡ drop 6 l) × Sub (records_of log) m
          → Taken v log l ⊎ Stuck v log l
      taking (m, e, asks, left, kept) =
          let o : take_of archive b log sb.base (brought archive a sa (at v log)) ≡ outcome 0 0 (log_bytes m) [] 0 =
          take_done archive b log sb.base (brought archive a sa (at v log)) m (omega arith) k.good (brought-holds v log k.reach).faultless (ap (takes_all list base (records_of log)) is ∙ e) in
          let back : records_of (answer archive a b sa (at v log)).log ≡ m =
          ap (λ (x : Outcome). records_of x.log) o ∙ take_back log sb.base (take 6 l) m k.good e in
          inl (record {
            after = m;
            took = e;
            number = ap (λ (x : Outcome). x.number) o;
            is_log = back;
            ready =
                record {
                  good = subst (λ (x : Outcome). Good x.log sb.base) (sym o) (take_left log sb.base (take 6 l) m k.good e);
                  asks = rw (is, back) asks;
                  reach = raised_above v (block_records (brought archive a sa (at v log))) (base_vector sa.base) k.reach;
                  left = rw is left;
                  kept = λ r i. rw back (kept r (k.kept r i));
                };
          })

  asking-next : (n : ℕ) (v log : List ℕ) → asking archive a b sa sb n ≡ at v log → asking archive a b sa sb (suc n) ≡ at (more v log) (then v log)
  unfolding asking
  asking-next n v log q =
      ap (λ (s : Asking). record { asked = raised s.asked (block_records (brought archive a sa s)); store = with_log s.store (answer archive a b sa s).log }) q

  answered-at : (n : ℕ) (v log : List ℕ) → asking archive a b sa sb n ≡ at v log → answered archive a b sa sb n ≡ (answer archive a b sa (at v log)).number
  unfolding answered
  answered-at n v log q = ap (λ (s : Asking). (answer archive a b sa s).number) q

  abbrev Refusal : ℕ → Type 0
  Refusal n = (n ≡ other_bytes) ⊎ (n ≡ not_closed) ⊎ ((n ≡ full_log) × (512 < length (lacked_by sa sb) + length (records_of sb.log)))

  refusal_of : {n : ℕ} → Stops n → Refusal n
  refusal_of (inl x) = inl x
  refusal_of (inr (inl x)) = inr (inl x)
  refusal_of (inr (inr (x, y))) =
      inr (inr (
        x,
        omega (
          arith,
          y,
          union-length A B s_a (whole_sound sb wb),
          ap (λ (l : List Rec). length l) (lacks_all sa sb wa wb ok.above),
          length-append p (records_of sb.log),
        ),
      ))

  -- block after block, until it stops: at the latest where r comes, since s is in the log of b
  module _ (r s : Rec) (t : Twice (records_of sa.log) (records_of sb.log) r s) where
    r_held : Has r A
    r_held = append_has sa.folded (records_of sa.log) r (inr t.first)

    s_above : get_or base (unit s) 0 < num s
    s_above = above_base base [] (records_of sb.log) s (shed base p (records_of sb.log) counts (whole_sound sb wb)) t.second

    -- r cannot be taken
    both : (v log : List ℕ) (l : List Rec) → Ready v log l → Taken v log l → Has r (take 6 l) → ⊥
    both v log l k d i =
        let g = all_from list base (take 6 l) (records_of log) d.after (shed base p (records_of log) counts k.asks.sound) d.took in
        let there : Has s d.after = g.kept s (k.kept s t.second) in
        ⊎_elim
        (λ h. t.other_bytes (unique_on base [] d.after g.sound r s h there t.same_unit t.same_number))
        (λ h. not_both (is_folded base r) h (beyond_folded base r (rw (t.same_unit, t.same_number) s_above)))
        (g.got r i)

    ten_at : (v log : List ℕ) (l front rest m : List Rec) → Ready v log l → block_records (brought archive a sa (at v log)) ≡ front ++ (r ∷ rest)
        → takes_all list base (records_of log) front ≡ taken m → (answer archive a b sa (at v log)).number ≡ other_bytes
    ten_at v log l front rest m k e f =
        let g = all_from list base front (records_of log) m (shed base p (records_of log) counts k.asks.sound) f in
        let o = take_other list base m r s g.sound (formed [] A r s_a r_held) (listed r r_held) (g.kept s (k.kept s t.second)) t.same_unit t.same_number t.other_bytes in
        refused_number v log l other_bytes k
        (ap (takes_all list base (records_of log)) e ∙ take_all-append list base (records_of log) front (r ∷ rest) m f ∙ take_all_stops list base m r rest other_bytes o)

    -- it stops at block n
    found : (n : ℕ) (v log : List ℕ) (l : List Rec) → n < 86 → asking archive a b sa sb n ≡ at v log → Ready v log l → Stuck v log l
        → ((i : ℕ) → i < n → answered archive a b sa sb i ≡ 0) → Noticed archive a b sa sb r
    unfolding answered
    found n v log l few q y g z =
        record {
          block = n;
          few = few;
          before = z;
          refusal = subst (λ (x : Asking). Refusal (answer archive a b sa x).number) (sym q) (refusal_of g.stopped);
          ten = λ front rest m.
              subst
              (λ (x : Asking).
              block_records (brought archive a sa x) ≡ front ++ (r ∷ rest) → takes_all list base (records_of x.store.log) front ≡ taken m → (answer archive a b sa x).number ≡ other_bytes)
              (sym q)
              (ten_at v log l front rest m y);
        }

    search_from : (j n : ℕ) (v log : List ℕ) (l : List Rec) → n + j ≡ 86 → length l ≤ 6 * j → Has r l → asking archive a b sa sb n ≡ at v log → Ready v log l
        → ((i : ℕ) → i < n → answered archive a b sa sb i ≡ 0) → Noticed archive a b sa sb r
    search_from zero n v log [] e k i q y z = absurd i
    search_from zero n v log (x ∷ l) e k i q y z = absurd (omega arith)
    search_from (suc j) n v log l e k i q y z =
        ⊎_elim
        (λ g.
        ⊎_elim
        (λ h. absurd (both v log l y g h))
        (λ h.
        search_from j (suc n) (more v log) (then v log) (drop 6 l) (omega arith) (omega (arith, length-drop 6 l)) h (asking-next n v log q) g.ready
        (λ m c. ⊎_elim (λ c'. z m c') (λ c'. let w : m ≡ n = omega arith in rw w (answered-at n v log q ∙ g.number)) (lt_or_ge m n)))
        (has_append (take 6 l) (drop 6 l) r (subst (Has r) (sym (take-append-drop 6 l)) i)))
        (λ g. found n v log l (omega arith) q y g z)
        (round v log l y)

  -- at first
  ready : Ready (begun sa sb) sb.log (lacking (begun sa sb) A)
  ready =
      record {
        good = wb.good;
        asks =
            record {
              eight = lowered-length (vector_by sb) base (base_vector sa.base) ∙ vector_on-length base (records_of sb.log);
              sound = whole_sound sb wb;
              counted = λ u k. omega (arith, begun-below u k, vector_on_get_d base (records_of sb.log) u k, counts-held base p counts (records_of sb.log) u k);
              grown = λ u k. omega arith;
              room = λ u k. omega arith;
            };
        reach = begun_reach;
        left = refl;
        kept = λ r h. h;
      }

  at_first : asking archive a b sa sb 0 ≡ at (begun sa sb) sb.log
  unfolding asking
  at_first = refl

  -- ---- stores that agree

  module _ (pair : Pair A list base p (records_of sb.log)) where
    abbrev l₀ : List Rec
    l₀ = records_of sb.log

    -- what is left is on its way to be taken
    record Fine (n : ℕ) (l : List Rec) : Type 0 where
      v : List ℕ
      log : List ℕ
      is : asking archive a b sa sb n ≡ at v log
      ready' : Ready v log l
      acc : List Rec
      way : W A list base p l₀ pair (records_of log) acc l

    -- what the way says is taken is what the answer says
    fine_on : (n : ℕ) (l : List Rec) (f : Fine n l) (m acc : List Rec) → takes_all list base (records_of f.log) (take 6 l) ≡ taken m → W A list base p l₀ pair m acc (drop 6 l)
        → (answered archive a b sa sb n ≡ 0) × Fine (suc n) (drop 6 l)
    fine_on n l f m acc e w =
        ⊎_elim
        (λ t.
        let q : m ≡ records_of (then f.v f.log) = taken_same (sym e ∙ t.took) ∙ sym t.is_log in (
          answered-at n f.v f.log f.is ∙ t.number,
          record {
            v = more f.v f.log;
            log = then f.v f.log;
            is = asking-next n f.v f.log f.is;
            ready' = t.ready;
            acc = acc;
            way = subst (λ (x : List Rec). W A list base p l₀ pair x acc (drop 6 l)) q w;
          },
        ))
        (λ t. refused_taken (sym t.took ∙ e))
        (round f.v f.log l f.ready')

    fine_next : (n : ℕ) (l : List Rec) → Fine n l → (answered archive a b sa sb n ≡ 0) × Fine (suc n) (drop 6 l)
    fine_next n l f =
        let (m, acc, e, w) =
        way_all A (p ++ l₀) (used A list base p l₀ pair) pair.s_a (all_agree A list base p l₀ pair) (in_A A list base p l₀ pair) list base p pair.counts pair.listed pair.over
        pair.fit (take 6 l) (drop 6 l) (records_of f.log) f.acc (rw (take-append-drop 6 l) f.way) in
        fine_on n l f m acc e w

    fine : (n : ℕ) → Fine n (drop (6 * n) (lacking (begun sa sb) A))
    fine zero =
        record {
          v = begun sa sb;
          log = sb.log;
          is = at_first;
          ready' = ready;
          acc = p ++ l₀;
          way = begin A list base p l₀ pair (begun sa sb) ready.asks.counted;
        }
    fine (suc n) =
        let e : 6 * n + 6 ≡ 6 * suc n = omega arith in
        let l : List Rec = lacking (begun sa sb) A in
        subst (Fine (suc n)) (drop-drop 6 (6 * n) l ∙ ap (λ (i : ℕ). drop i l) e) (fine_next n (drop (6 * n) l) (fine n)).1

    -- in the end b covers a
    covers_all : (n : ℕ) → Fine n [] → covers (vector_by (asking archive a b sa sb n).store) (vector_by sa) ≡ true
    covers_all n f =
        let m : List Rec = records_of f.log in
        let now : vector_by (with_log sb f.log) ≡ vector_of (p ++ m) = vector_held_lem base p counts m in
        subst (λ (s : Asking). covers (vector_by s.store) (vector_by sa) ≡ true) (sym f.is)
        (rw (now, whole_vector sa wa)
        (counts_cover A (p ++ m) (λ u _.
        way_end A (p ++ l₀) (used A list base p l₀ pair) pair.s_a (all_agree A list base p l₀ pair) (in_A A list base p l₀ pair) list base p pair.counts pair.listed pair.over
        pair.fit m f.acc f.way u)))

    passes : Passes archive a b sa sb
    passes =
        record {
          answers = λ n. (fine_next n (drop (6 * n) (lacking (begun sa sb) A)) (fine n)).0;
          covering = λ n k.
              let l : List Rec = lacking (begun sa sb) A in
              let e : length l ≡ length (lacking (begun sa sb) (records_of sa.log)) = ap (λ (x : List Rec). length x) (lacking-held (begun sa sb) sa wa begun_reach) in
              covers_all n (subst (Fine n) ((none_left l n).1 (rw e k)) (fine n));
        }

pub careful_asking : CarefulAsking
careful_asking archive a b sa sb a8 b8 wa wb ok r s t last =
    let v : List ℕ = begun sa sb in
    let l : List Rec = records_of sa.log in
    let f = formed [] (held_by sa) r (whole_sound sa wa) (append_has sa.folded l r (inr t.first)) in
    let n : num r ≡ count_on (base_vector sb.base) (unit r) (records_of sb.log) =
    t.same_number ∙ last ∙ ap (λ (u : ℕ). count_on (base_vector sb.base) u (records_of sb.log)) (sym t.same_unit) in
    let k : get_or v (unit r) 0 < num r =
    omega (
      arith,
      n,
      begun_get_d archive a b sa sb a8 b8 wa wb ok (unit r) (well_unit r f),
      vector_on_get_d (base_vector sb.base) (records_of sb.log) (unit r) (well_unit r f),
      rw (sym t.same_unit, sym t.same_number) at (s_above archive a b sa sb a8 b8 wa wb ok r s t),
      above_base (base_vector sa.base) [] l r (shed (base_vector sa.base) sa.folded l (whole-counts sa wa) (whole_sound sa wa)) t.first,
      well_own r f,
    ) in
    let e : lacking v (held_by sa) ≡ lacking v l = lacking-held v sa wa (begun_reach archive a b sa sb a8 b8 wa wb ok) in
    search_from archive a b sa sb a8 b8 wa wb ok r s t 86 0 v sb.log (lacking v (held_by sa)) refl
    (omega (arith, ap (λ (x : List Rec). length x) e, lacking-length v l, sound_few sa.log))
    (subst (Has r) (sym e) (lacking_has v l r t.first k))
    (at_first archive a b sa sb a8 b8 wa wb ok) (ready archive a b sa sb a8 b8 wa wb ok) (λ i c. absurd (omega arith))

pub careful_meeting : CarefulMeeting
careful_meeting archive a b sa sb a8 b8 wa wb ok r s t c =
    let l : List Rec = records_of sa.log in
    let m : List Rec = records_of sb.log in
    let f = formed [] (held_by sa) r (whole_sound sa wa) (append_has sa.folded l r (inr t.first)) in
    let k = well_unit r f in
    let x : get_or (vector_by sa) (unit r) 0 ≡ count_on (base_vector sa.base) (unit r) l = vector_on_get_d (base_vector sa.base) l (unit r) k in
    let y : get_or (vector_by sb) (unit r) 0 ≡ count_on (base_vector sb.base) (unit r) m = vector_on_get_d (base_vector sb.base) m (unit r) k in
    ⊎_elim
    (λ (z : get_or (vector_by sb) (unit r) 0 ≤ get_or (vector_by sa) (unit r) 0).
    let last : num s ≡ count_on (base_vector sb.base) (unit s) m =
    subst (λ (u : ℕ). num s ≡ count_on (base_vector sb.base) u m) t.same_unit (omega (arith, t.same_number)) in
    inl (careful_asking archive a b sa sb a8 b8 wa wb ok r s t last))
    (λ (z : get_or (vector_by sa) (unit r) 0 < get_or (vector_by sb) (unit r) 0).
    inr (λ grown g h ok'.
    careful_asking archive b a (with_log sb grown) sa b8 a8 g wa ok' s r
    (record {
      first = h s t.second;
      second = t.first;
      same_unit = sym t.same_unit;
      same_number = sym t.same_number;
      other_bytes = λ e. t.other_bytes (sym e);
    })
    (omega arith)))
    (⊎_elim (λ z. inr z) (λ z. inl z) (lt_or_ge (get_or (vector_by sa) (unit r) 0) (get_or (vector_by sb) (unit r) 0)))

pub careful_passing : CarefulPassing
careful_passing archive a b sa sb a8 b8 wa wb ok ag fit =
    passes archive a b sa sb a8 b8 wa wb ok
    (may_meet sa sb wa wb ok.above ag ok.listed ok.covering fit)
