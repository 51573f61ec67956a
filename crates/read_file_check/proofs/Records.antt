-- The records in blocks, judged in order: what the pass over the first 512 of them, and the list asked of those that it lets through, say of
-- them all.
-- Assumes nothing.
use Prim.Native.Nat.{ℕ, zero, suc, ◌+◌, ◌-◌, ◌*◌, ◌/◌, ◌%◌, ◌≤◌, ◌<◌, min}
use native.Mathlib.Nat.{add-zero, sub-zero, sub_self}
use native.Mathlib.Numerals.{add-one}
use native.Mathlib.Omega.{arith}
use mathlib.Core.Path.{◌≡◌, refl, sym, ap, ◌∙◌}
use Rattle.std.specs.Prelude.{Result, Ok, Err}
use Rattle.refusal.specs.declared.Fault.{Fault}
use Rattle.refusal.specs.declared.Refusal.{Refusal}
use Rattle.refusal.specs.declared.Refusal.TheVariants.{BadBuffer, BadLength, BadLetters, BadSum, BadHeader, OtherArchive, Malformed, NotNext, NotClosed, OtherBytes, FullLog, NoObject, NoFolder, WrongKind, LabelHeld, NotEmpty, UnseenChange, NotAside, UnsoundState, BadFile, BadUnit, StrokeInLabel, IntoItself, Unlisted, BelowBase, LastNumber, FoldedRecords, NotAnEvent}
use Rattle.refusal.specs.Refusals.{number_of, fault_code, fault_place}
use Rattle.refusal.proofs.Refusals.{not_zero}
use Rattle.vector.specs.declared.Vector.{Vector}
use mathlib.Core.Logic.{◌⊎◌, inl, inr, ⊎_elim}
use mathlib.Core.Bool.{Bool, true, false, cond, not, ◌&&◌}
use mathlib.Core.List.{List, [], ◌∷◌}
use lib.Dec.{ltb, eqb}
use lib.ListN.{get_or, length, take, drop, get_or-eq_default}
use borrow.Author.Tests.{eq-eqb, ne_eqb, lt-ltb, le-ltb, not-true, not-false}
use Rattle.model.specs.Bytes.{part}
use Rattle.model.specs.Record.{Rec, unit, well_formed}
use Rattle.model.specs.Log.{record_fault, rises, is_next, is_within, is_closed}
use Rattle.model.specs.Block.{count_in}
use Rattle.model.specs.File.{block_at, fault, records_counted, file_record, file_records_from, file_records}
use Rattle.base_model.specs.Base.{bits, is_listed}
use Rattle.sab2_model.specs.Sab2.{read_fault, records_fault_on}
use Rattle.byte_slice.proofs.Numbers.{eq_or_ne, bool_cases}
use Rattle.byte_slice.proofs.Parts.{part_is, get_d_part}
use Rattle.run_laws.proofs.Written.{none_counted}
use Rattle.log_check.specs.declared.Layout.TheVariants.{File}
use Rattle.log_check.specs.Places.{offset_of, laid_at, Laid}
use Rattle.log_check.specs.InOrder.{listed, before, Found, found, first_fault, Scan, scanned, scan_of, ScanGives}
use Rattle.read_file_blocks.proofs.Agreement.{blocks_counted}
use Rattle.read_file_check.specs.Listed.{listed_fault, unlisted_from, asked_to}
use Rattle.read_file_check.specs.Outcome.{Judges, left, records_left}

-- ---- how many

pub records_counted_lem : (f : List ℕ) (n : ℕ) {b c : ℕ} → b ≡ c → length f ≡ 512 * n → c ≡ count_in (take (512 * (n - 1) + 512 - 512 * (n - 1)) (drop (512 * (n - 1)) f)) → 6 * (n - 1) + b ≡ records_counted f
unfolding records_counted block_at
records_counted_lem f n wide whole e = rw (blocks_counted f n whole, wide, e, part_is f (512 * (n - 1)) 512)

pub no_records : (f : List ℕ) (n : ℕ) → length f ≡ 512 * n → n ≡ 0 → 0 ≡ records_counted f
unfolding records_counted
no_records f n whole z = rw (blocks_counted f n whole, z, none_counted f (0 - 1) (omega arith))

-- ---- where they stand

pub file_laid : (f : List ℕ) (n total m : ℕ) → length f ≡ 512 * n → records_counted f ≤ 6 * n → total ≡ records_counted f → m ≡ min total 512 → Laid File f m
unfolding offset_of
file_laid f n total m whole h et em = record { inside = λ i k. omega arith }

pub file_listed : (f : List ℕ) (i n : ℕ) → file_records_from f i n ≡ listed (laid_at File f) i n
unfolding file_records_from listed laid_at offset_of file_record
file_listed f i zero = refl
file_listed f i (suc n) = λ j. part f (512 * (i / 6) + (28 + 80 * (i % 6))) 80 ∷ file_listed f (suc i) n j

-- ---- the list

-- no list names a unit above 7
pub unit_above : (m u : ℕ) → 7 < u → false ≡ is_listed m u
unfolding is_listed bits
unit_above m u h = rw (get_or-eq_default (bits 8 m) 0 {n = u} (omega arith))

pub laid_index : (f : List ℕ) (n i at : ℕ) → Laid File f n → i < n → at ≡ offset_of File i → at < length f
laid_index f n i at l h e = omega (arith, l.inside i h)

-- the unit of a record where it stands
unit-at : (f : List ℕ) (i at : ℕ) → at ≡ offset_of File i → unit (laid_at File f i) ≡ get_or f at 0
unfolding unit laid_at
unit-at f i at e = rw e (get_d_part f (offset_of File i) 80 0 (omega arith) ∙ (let z : offset_of File i + 0 ≡ offset_of File i = omega arith in rw z))

module _ (m : ℕ) (f : List ℕ) (n i : ℕ) (inv : unlisted_from m (laid_at File f) i (n - i) ≡ unlisted_from m (laid_at File f) 0 n) where
  module _ (h : i < n) (at : ℕ) (q : at ≡ offset_of File i) (t : Bool) (e : t ≡ is_listed m (get_or f at 0)) where
    step : cond t (unlisted_from m (laid_at File f) (i + 1) (n - (i + 1))) i ≡ unlisted_from m (laid_at File f) 0 n
    unfolding unlisted_from
    step = let d : n - i ≡ suc (n - (i + 1)) = omega arith in rw (d, unit-at f i at q, ← e, ← add-one i) at inv

    pub list_stops : not t ≡ true → i ≡ unlisted_from m (laid_at File f) 0 n
    list_stops z = rw (not-true t z) at step

    pub list_goes_on : not t ≡ false → unlisted_from m (laid_at File f) (i + 1) (n - (i + 1)) ≡ unlisted_from m (laid_at File f) 0 n
    list_goes_on z = rw (not-false t z) at step

  pub list_ends : i ≤ n → n ≤ i → i ≡ unlisted_from m (laid_at File f) 0 n
  unfolding unlisted_from
  list_ends h g = let e : i ≡ n = omega arith in e ∙ (rw (e, sub_self) at inv)

-- ---- of how many it is asked

module _ (x a n : ℕ) where
  pub asked_all : x ≡ 0 → n ≡ asked_to (found x a) n
  unfolding asked_to
  asked_all h = rw (eq-eqb x 0 h)

  pub asked_before : (x ≡ 0 → ⊥) → x ≡ 7 → a ≡ asked_to (found x a) n
  unfolding asked_to
  asked_before h g = rw (ne_eqb x 0 h, eq-eqb x 7 g)

  pub asked_too : (x ≡ 0 → ⊥) → (x ≡ 7 → ⊥) → a + 1 ≡ asked_to (found x a) n
  unfolding asked_to
  asked_too h g = rw (ne_eqb x 0 h, ne_eqb x 7 g, add-one a)

-- over an answer

-- one refusal alone has the number 7
only_malformed : (r : Refusal) → number_of r ≡ 7 → r ≡ Malformed
only_malformed BadBuffer e = absurd (omega arith)
only_malformed BadLength e = absurd (omega arith)
only_malformed BadLetters e = absurd (omega arith)
only_malformed BadSum e = absurd (omega arith)
only_malformed BadHeader e = absurd (omega arith)
only_malformed OtherArchive e = absurd (omega arith)
only_malformed Malformed e = refl
only_malformed NotNext e = absurd (omega arith)
only_malformed NotClosed e = absurd (omega arith)
only_malformed OtherBytes e = absurd (omega arith)
only_malformed FullLog e = absurd (omega arith)
only_malformed NoObject e = absurd (omega arith)
only_malformed NoFolder e = absurd (omega arith)
only_malformed WrongKind e = absurd (omega arith)
only_malformed LabelHeld e = absurd (omega arith)
only_malformed NotEmpty e = absurd (omega arith)
only_malformed UnseenChange e = absurd (omega arith)
only_malformed NotAside e = absurd (omega arith)
only_malformed UnsoundState e = absurd (omega arith)
only_malformed BadFile e = absurd (omega arith)
only_malformed BadUnit e = absurd (omega arith)
only_malformed StrokeInLabel e = absurd (omega arith)
only_malformed IntoItself e = absurd (omega arith)
only_malformed Unlisted e = absurd (omega arith)
only_malformed BelowBase e = absurd (omega arith)
only_malformed LastNumber e = absurd (omega arith)
only_malformed FoldedRecords e = absurd (omega arith)
only_malformed NotAnEvent e = absurd (omega arith)

module _ (n : ℕ) (s : Result Vector (Fault ℕ)) where
  pub asked_ok : (v : Vector) → s ≡ Ok v → n ≡ asked_to (found (fault_code s) (fault_place s)) n
  unfolding asked_to
  asked_ok v e = rw e

  module _ (f : Fault ℕ) (e : s ≡ Err f) where
    pub asked_ill : f.refusal ≡ Malformed → f.place ≡ asked_to (found (fault_code s) (fault_place s)) n
    unfolding asked_to
    asked_ill m = rw (e, m)

    pub asked_well : (f.refusal ≡ Malformed → ⊥) → f.place + 1 ≡ asked_to (found (fault_code s) (fault_place s)) n
    asked_well m = rw e (asked_too (number_of f.refusal) f.place n (not_zero f.refusal) (λ q. m (only_malformed f.refusal q)))

-- ---- in order

-- a record that is well formed has no fault 7
not_seven : (v : List ℕ) (pre : List Rec) (r : Rec) → well_formed r ≡ true → record_fault v pre r ≡ 7 → ⊥
unfolding record_fault
not_seven v pre r w e = go (rises pre r) (is_next v pre r && is_within v pre r) (is_closed v pre r) (rw w at e)
  where
    go : (a b c : Bool) → ◌≡◌ {A = ℕ} (cond a (cond b (cond c 0 9) 8) 20) 7 → ⊥
    go true true true z = omega arith
    go true true false z = omega arith
    go true false c z = omega arith
    go false b c z = omega arith

fine_read : (m : ℕ) (v : List ℕ) (pre : List Rec) (r : Rec) → well_formed r ≡ true → is_listed m (unit r) ≡ true → record_fault v pre r ≡ 0 → read_fault m v pre r ≡ 0
unfolding read_fault
fine_read m v pre r w l e = rw (w, l) e

module _ (v : List ℕ) (at : ℕ → Rec) where
  -- a fault stands among the records judged
  found_among : (n i : ℕ) → ((first_fault v at i n).number ≡ 0) ⊎ ((i ≤ (first_fault v at i n).at) × ((first_fault v at i n).at < i + n))
  unfolding first_fault
  found_among zero i = inl refl
  found_among (suc n) i =
      ⊎_elim
      (λ (e : record_fault v (before at i) (at i) ≡ 0). rw e (⊎_elim (λ z. inl z) (λ p. inr (omega arith, omega arith)) (found_among n (suc i))))
      (λ (e : record_fault v (before at i) (at i) ≡ 0 → ⊥). rw (ne_eqb (record_fault v (before at i) (at i)) 0 e) (inr (omega arith, omega arith)))
      (eq_or_ne (record_fault v (before at i) (at i)) 0)

  found_below : (n i : ℕ) → (first_fault v at i n).at ≤ i + n
  unfolding first_fault
  found_below zero i = omega arith
  found_below (suc n) i =
      ⊎_elim
      (λ (e : record_fault v (before at i) (at i) ≡ 0). rw e (omega (arith, found_below n (suc i))))
      (λ (e : record_fault v (before at i) (at i) ≡ 0 → ⊥). rw (ne_eqb (record_fault v (before at i) (at i)) 0 e) (omega arith))
      (eq_or_ne (record_fault v (before at i) (at i)) 0)

  first_here : (i n x : ℕ) → record_fault v (before at i) (at i) ≡ x → (x ≡ 0 → ⊥) → first_fault v at i (suc n) ≡ found x i
  unfolding first_fault
  first_here i n x e z = rw (e, ne_eqb x 0 z)

  first_on : (i n : ℕ) → record_fault v (before at i) (at i) ≡ 0 → first_fault v at i (suc n) ≡ first_fault v at (suc i) n
  unfolding first_fault
  first_on i n e = rw e

-- the list is asked of no more than there are, and from the first on
module _ (x : Found) (i n : ℕ) (h : (x.number ≡ 0) ⊎ ((i ≤ x.at) × (x.at < i + n))) where
  asked_range : (i ≤ asked_to x (i + n)) × (asked_to x (i + n) ≤ i + n)
  unfolding asked_to
  asked_range =
      ⊎_elim
      (λ (z : x.number ≡ 0). rw (eq-eqb x.number 0 z) (omega arith, omega arith))
      (λ (p : (i ≤ x.at) × (x.at < i + n)). go (eqb x.number 0) (eqb x.number 7) p.0 p.1)
      h
    where
      go : (a b : Bool) → i ≤ x.at → x.at < i + n → (i ≤ cond a (i + n) (cond b x.at (suc x.at))) × (cond a (i + n) (cond b x.at (suc x.at)) ≤ i + n)
      go true b k l = (omega arith, omega arith)
      go false true k l = (omega arith, omega arith)
      go false false k l = (omega arith, omega arith)

module _ (m : ℕ) (at : ℕ → Rec) where
  -- the first of the pass's fault and of the record that the list does not name
  sooner : Found → ℕ → ℕ → Found
  sooner x i n = cond (ltb (unlisted_from m at i (asked_to x (i + n) - i)) (asked_to x (i + n))) (found 26 (unlisted_from m at i (asked_to x (i + n) - i))) x

  not_asked : (x : Found) (i n : ℕ) → asked_to x (i + n) ≡ i → sooner x i n ≡ x
  unfolding sooner unlisted_from
  not_asked x i n e = rw (e, sub_self, le-ltb i i (omega arith))

  asked_last : (x : Found) (i n : ℕ) → asked_to x (i + n) ≡ suc i → is_listed m (unit (at i)) ≡ true → sooner x i n ≡ x
  unfolding sooner unlisted_from
  asked_last x i n e l = let d : suc i - i ≡ 1 = omega arith in rw (e, d, l, le-ltb (suc i) (suc i) (omega arith))

  stops_here : (x : Found) (i n : ℕ) → i < asked_to x (i + n) → is_listed m (unit (at i)) ≡ false → sooner x i n ≡ found 26 i
  unfolding sooner unlisted_from
  stops_here x i n h l =
      let d : asked_to x (i + n) - i ≡ suc (asked_to x (i + n) - suc i) = omega arith in
      rw (d, l, lt-ltb i (asked_to x (i + n)) h)

  goes_by : (x : Found) (i n : ℕ) → i < asked_to x (i + suc n) → is_listed m (unit (at i)) ≡ true → sooner x i (suc n) ≡ sooner x (suc i) n
  unfolding sooner unlisted_from
  goes_by x i n h l =
      let e : i + suc n ≡ suc i + n = omega arith in
      let d : asked_to x (suc i + n) - i ≡ suc (asked_to x (suc i + n) - suc i) = omega (arith, ap (asked_to x) e) in
      rw (e, d, l)

module _ (m : ℕ) (v : List ℕ) (at : ℕ → Rec) where
  list_here : (i n x : ℕ) → read_fault m v (before at i) (at i) ≡ x → (x ≡ 0 → ⊥) → listed_fault m v at i (suc n) ≡ found x i
  unfolding listed_fault
  list_here i n x e z = rw (e, ne_eqb x 0 z)

  list_on : (i n : ℕ) → read_fault m v (before at i) (at i) ≡ 0 → listed_fault m v at i (suc n) ≡ listed_fault m v at (suc i) n
  unfolding listed_fault
  list_on i n e = rw e

  -- a well-formed record is asked for
  well_asked : (i n : ℕ) → well_formed (at i) ≡ true → i < asked_to (first_fault v at i (suc n)) (i + suc n)
  well_asked i n w =
      let q : i + suc n ≡ suc i + n = omega arith in
      ⊎_elim
      (λ (e : record_fault v (before at i) (at i) ≡ 0).
      rw (first_on v at i n e, q) (omega (arith, (asked_range (first_fault v at (suc i) n) (suc i) n (found_among v at n (suc i))).0)))
      (λ (e : record_fault v (before at i) (at i) ≡ 0 → ⊥).
      rw (first_here v at i n (record_fault v (before at i) (at i)) refl e, ← asked_too (record_fault v (before at i) (at i)) i (i + suc n) e (not_seven v (before at i) (at i) w)) (omega arith))
      (eq_or_ne (record_fault v (before at i) (at i)) 0)

  ill_both : (i n : ℕ) → well_formed (at i) ≡ false → listed_fault m v at i (suc n) ≡ sooner m at (first_fault v at i (suc n)) i (suc n)
  unfolding record_fault read_fault
  ill_both i n w =
      let f : record_fault v (before at i) (at i) ≡ 7 = rw w in
      let g : read_fault m v (before at i) (at i) ≡ 7 = rw w in
      let z : ◌≡◌ {A = ℕ} 7 0 → ⊥ = λ x. omega arith in
      rw (list_here i n 7 g z, first_here v at i n 7 f z, not_asked m at (found 7 i) i (suc n) (sym (asked_before 7 i (i + suc n) z refl)))

  unnamed_both : (i n : ℕ) → well_formed (at i) ≡ true → is_listed m (unit (at i)) ≡ false → listed_fault m v at i (suc n) ≡ sooner m at (first_fault v at i (suc n)) i (suc n)
  unfolding read_fault
  unnamed_both i n w l =
      let g : read_fault m v (before at i) (at i) ≡ 26 = rw (w, l) in
      let z : ◌≡◌ {A = ℕ} 26 0 → ⊥ = λ x. omega arith in
      rw (list_here i n 26 g z, stops_here m at (first_fault v at i (suc n)) i (suc n) (well_asked i n w) l)

  faulty_both : (i n : ℕ) → well_formed (at i) ≡ true → is_listed m (unit (at i)) ≡ true → (record_fault v (before at i) (at i) ≡ 0 → ⊥)
      → listed_fault m v at i (suc n) ≡ sooner m at (first_fault v at i (suc n)) i (suc n)
  unfolding read_fault
  faulty_both i n w l z =
      let x = record_fault v (before at i) (at i) in
      let g : read_fault m v (before at i) (at i) ≡ x = rw (w, l) in
      let s : i + 1 ≡ suc i = omega arith in
      let a : asked_to (found x i) (i + suc n) ≡ suc i = sym (asked_too x i (i + suc n) z (not_seven v (before at i) (at i) w)) ∙ s in
      rw (list_here i n x g z, first_here v at i n x refl z, asked_last m at (found x i) i (suc n) a l)

  with_list : (n i : ℕ) → listed_fault m v at i n ≡ sooner m at (first_fault v at i n) i n
  unfolding listed_fault first_fault
  with_list zero i = sym (not_asked m at (found 0 0) i 0 (sym (asked_all 0 0 (i + 0) refl) ∙ add-zero i))
  with_list (suc n) i =
      ⊎_elim
      (λ (w : well_formed (at i) ≡ true).
      ⊎_elim
      (λ (l : is_listed m (unit (at i)) ≡ true).
      ⊎_elim
      (λ (e : record_fault v (before at i) (at i) ≡ 0).
      list_on i n (fine_read m v (before at i) (at i) w l e)
      ∙ (with_list n (suc i)
      ∙ sym (ap (λ (x : Found). sooner m at x i (suc n)) (first_on v at i n e) ∙ goes_by m at (first_fault v at (suc i) n) i n (rw (first_on v at i n e) at (well_asked i n w)) l)))
      (λ (e : record_fault v (before at i) (at i) ≡ 0 → ⊥). faulty_both i n w l e)
      (eq_or_ne (record_fault v (before at i) (at i)) 0))
      (λ (l : is_listed m (unit (at i)) ≡ false). unnamed_both i n w l)
      (bool_cases (is_listed m (unit (at i)))))
      (λ (w : well_formed (at i) ≡ false). ill_both i n w)
      (bool_cases (well_formed (at i)))

  -- a pass over the first k of n records decides, or leaves it to those behind
  in_order : (p k i n : ℕ) → i + k ≤ 512 → k ≤ n
      → records_fault_on m v p (before at i) i (listed at i n)
      ≡ cond (eqb (listed_fault m v at i k).number 0) (records_fault_on m v p (before at (i + k)) (i + k) (listed at (i + k) (n - k))) (fault (listed_fault m v at i k).number (p + (listed_fault m v at i k).at / 6))
  unfolding listed_fault records_fault_on listed before
  in_order p zero i n h g = rw (add-zero, sub-zero)
  in_order p (suc k) i zero h g = absurd (omega arith)
  in_order p (suc k) i (suc n) h g =
      let a : i + suc k ≡ suc i + k = omega arith in
      let b : suc n - suc k ≡ n - k = omega arith in
      let t : ltb i 512 ≡ true = lt-ltb i 512 (omega arith) in
      ⊎_elim
      (λ (e : read_fault m v (before at i) (at i) ≡ 0). rw (t, e, a, b) (in_order p k (suc i) n (omega arith) (omega arith)))
      (λ (e : read_fault m v (before at i) (at i) ≡ 0 → ⊥). rw (t, ne_eqb (read_fault m v (before at i) (at i)) 0 e, ne_eqb (read_fault m v (before at i) (at i)) 0 e))
      (eq_or_ne (read_fault m v (before at i) (at i)) 0)

-- ---- what `records_fault` is asked, over plain values: n of total records were passed over, the list was asked of k of them, u is the first
-- that it does not name

module _ (v f : List ℕ) (total n number place : ℕ) (held places seens : List ℕ) (g : ScanGives v (laid_at File f) n number place held places seens) (em : n ≡ min total 512) where
  among : (number ≡ 0) ⊎ ((0 ≤ place) × (place < 0 + n))
  among =
      let x : Found = first_fault v (laid_at File f) 0 n in
      ⊎_elim
      (λ (z : x.number ≡ 0). inl (ap (λ (y : Found). y.number) g.first ∙ z))
      (λ (h : (0 ≤ x.at) × (x.at < 0 + n)). inr (omega arith, omega (arith, ap (λ (y : Found). y.at) g.first, h.1)))
      (found_among v (laid_at File f) n 0)

  pub small_at : place ≤ 512
  small_at = omega (arith, ap (λ (y : Found). y.at) g.first, found_below v (laid_at File f) n 0)

  module _ (k : ℕ) (ek : k ≡ asked_to (found number place) n) where
    pub asked_below : k ≤ n
    asked_below =
        let z : 0 + n ≡ n = omega arith in
        omega (arith, ap (asked_to (found number place)) z, (asked_range (found number place) 0 n among).1)

    pub asked_few : k ≤ 512
    asked_few = omega (arith, asked_below)

    pub asked_laid : (b : ℕ) → length f ≡ 512 * b → records_counted f ≤ 6 * b → total ≡ records_counted f → Laid File f k
    asked_laid b whole few et = record { inside = λ i h. (file_laid f b total n whole few et em).inside i (omega (arith, asked_below)) }

    pub place_faulty : (p : ℕ) → p ≤ 100 → p + place / 6 < 256
    place_faulty p h = omega (arith, small_at)

    pub place_unlisted : (p u : ℕ) → p ≤ 100 → u < k → p + u / 6 < 256
    place_unlisted p u h q = omega (arith, asked_few)

    module _ (m u p : ℕ) (eu : u ≡ unlisted_from m (laid_at File f) 0 k) (et : total ≡ records_counted f) where
      decided : listed_fault m v (laid_at File f) 0 n ≡ cond (ltb u k) (found 26 u) (found number place)
      unfolding sooner
      decided =
          let z : 0 + n ≡ n = omega arith in
          let y : k - 0 ≡ k = omega arith in
          with_list m v (laid_at File f) n 0 ∙ rw (z, ← g.first, ← ek, y, ← eu)

      all : records_fault_on m v p [] 0 (file_records f)
          ≡ cond (eqb (cond (ltb u k) (found 26 u) (found number place)).number 0) (records_fault_on m v p (before (laid_at File f) n) n (listed (laid_at File f) n (total - n)))
          (fault (cond (ltb u k) (found 26 u) (found number place)).number (p + (cond (ltb u k) (found 26 u) (found number place)).at / 6))
      unfolding file_records before
      all =
          let z : 0 + n ≡ n = omega arith in
          rw (← et, file_listed f 0 total) (rw (decided, z) at (in_order m v (laid_at File f) p n 0 total (omega arith) (omega arith)))

      pub record_unlisted : (h₀ : List ℕ) → u < k → Judges m v p f 26 (p + u / 6) h₀ places seens
      record_unlisted h₀ h = record { first = sym (all ∙ rw (lt-ltb u k h)); holds = λ (x : ◌≡◌ {A = ℕ} 26 0). absurd (omega arith) }

      module _ (h : k ≤ u) where
        pub record_faulty : (h₀ : List ℕ) → (number ≡ 0 → ⊥) → Judges m v p f number (p + place / 6) h₀ places seens
        record_faulty h₀ z = record { first = sym (all ∙ rw (le-ltb u k h, ne_eqb number 0 z)); holds = λ e. absurd (z e) }

        module _ (z : number ≡ 0) where
          pub one_too_many : (h₀ : List ℕ) → 512 < total → Judges m v p f 11 (p + 85) h₀ places seens
          unfolding records_fault_on listed
          one_too_many h₀ q =
              let e : n ≡ 512 = omega arith in
              let s : total - 512 ≡ suc (total - 513) = omega arith in
              record { first = sym (all ∙ rw (le-ltb u k h, z, e, s)); holds = λ (x : ◌≡◌ {A = ℕ} 11 0). absurd (omega arith) }

          pub none_refused : total ≤ 512 → Judges m v p f 0 0 held places seens
          unfolding records_fault_on listed file_records
          none_refused q =
              let e : n ≡ total = omega arith in
              record { first = sym (all ∙ rw (le-ltb u k h, z, e, sub_self)); holds = λ x. rw (← et, file_listed f 0 total, ← e) (g.holds z) }

-- ---- what it leaves

module _ (v f : List ℕ) (total m number place : ℕ) (held places seens places₀ seens₀ : List ℕ)
    (o : scanned number place held places seens ≡ scan_of v (laid_at File f) m places₀ seens₀) (em : m ≡ min total 512) (et : total ≡ records_counted f) where
  pub all_left : left held places seens ≡ records_left v f places₀ seens₀
  unfolding records_left
  all_left =
      let e : scanned number place held places seens ≡ scan_of v (laid_at File f) (min (records_counted f) 512) places₀ seens₀ = rw (em, et) at o in
      ap (λ (x : Scan). left x.held x.places x.seens) e

  pub fault_left : left (records_left v f places₀ seens₀).held places seens ≡ records_left v f places₀ seens₀
  fault_left = rw (← all_left)
