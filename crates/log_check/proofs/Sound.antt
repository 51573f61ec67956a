-- The places in use of a log, and what the pass over them says of its soundness.
-- Assumes nothing.
use Prim.Native.Nat.{ℕ, zero, suc, ◌+◌, ◌-◌, ◌*◌, ◌≤◌, ◌<◌}
use native.Mathlib.Nat.{zero-add, add-zero}
use native.Mathlib.Omega.{arith}
use mathlib.Core.Path.{◌≡◌, refl, sym, ap, ◌∙◌, subst}
use mathlib.Core.Logic.{⊎_elim}
use mathlib.Core.Bool.{Bool, true, false, cond, not, false≢true}
use mathlib.Core.List.{List, [], ◌∷◌}
use lib.Dec.{eqb}
use lib.ListN.{length, take, drop, length-drop}
use lib.Seq.{drop-drop, take_all}
use borrow.Author.Tests.{eq-eqb, ne_eqb, not-false}
use Rattle.model.specs.Bytes.{blank, part}
use Rattle.model.specs.Record.{Rec}
use Rattle.model.specs.Log.{vector_of, no_counts, record_fault, sound_after, records_in, records_of, sound_log_on, sound_log}
use Rattle.byte_slice.proofs.Numbers.{cond_cases, eq_or_ne, and_true}
use Rattle.byte_slice.proofs.Parts.{part_is}
use Rattle.encoding_laws.proofs.Logs.{sound_few}
use Rattle.log_laws.proofs.Tests.{vector_on-none}
use Rattle.log_closure.specs.Tables.{Indexed}
use Rattle.log_check.specs.declared.Layout.TheVariants.{Log}
use Rattle.log_check.specs.Places.{offset_of, laid_at, Laid}
use Rattle.std.proofs.Common.{Result, Ok, Err, IsOk, ◌↔◌, replicate, rules}
use Rattle.log_check.specs.declared.Checked.{Checked}
use Rattle.log_check.specs.Told.{told_in, check_told}
use Rattle.log_check.specs.InOrder.{listed, before, Found, first_fault, scanned, scan_of, ScanGives, held_of, Check, checked, check_of}

-- ---- the records of a log, place by place

module _ (b : List ℕ) where
  place_step : (i : ℕ) → i < 512
      → records_in (512 - i) (drop (80 * i) b)
      ≡ cond (blank (part b (80 * i) 80)) [] (part b (80 * i) 80 ∷ records_in (512 - (i + 1)) (drop (80 * (i + 1)) b))
  unfolding records_in part
  place_step i h =
      let e : 512 - i ≡ suc (512 - (i + 1)) = omega arith in
      let f : 80 * i + 80 ≡ 80 * (i + 1) = omega arith in
      rw (e, drop-drop 80 (80 * i) b, f)

  -- what the loop of `used` is asked, over plain values
  pub used_none : 0 + length (records_in (512 - 0) (drop (80 * 0) b)) ≡ length (records_of b)
  unfolding records_of
  used_none = zero-add (length (records_in 512 b))

  module _ (i : ℕ) (inv : i + length (records_in (512 - i) (drop (80 * i) b)) ≡ length (records_of b)) where
    module _ (h : i < 512) (t : Bool) (e : t ≡ blank (take (80 * i + 80 - 80 * i) (drop (80 * i) b))) where
      judged : blank (part b (80 * i) 80) ≡ t
      judged = sym (rw (part_is b (80 * i) 80) at e)

      pub used_stops : t ≡ true → i ≡ length (records_of b)
      used_stops z = rw (place_step i h, judged, z, add-zero) at inv

      pub used_next : t ≡ false → i + 1 + length (records_in (512 - (i + 1)) (drop (80 * (i + 1)) b)) ≡ length (records_of b)
      used_next z =
          let m : i + suc (length (records_in (512 - (i + 1)) (drop (80 * (i + 1)) b))) ≡ length (records_of b) = rw (place_step i h, judged, z) at inv in
          omega arith

    pub used_ends : i ≤ 512 → 512 ≤ i → 512 ≡ length (records_of b)
    unfolding records_in
    used_ends h k = let e : i ≡ 512 = omega arith in rw (e, add-zero) at inv

  -- the records are those of the places in use
  listed_in : (k i : ℕ) → records_in k (drop (80 * i) b) ≡ listed (laid_at Log b) i (length (records_in k (drop (80 * i) b)))
  unfolding records_in listed laid_at offset_of part
  listed_in zero i = refl
  listed_in (suc k) i =
      let f : 80 * i + 80 ≡ 80 * suc i = omega arith in
      let r = take 80 (drop (80 * i) b) in
      let l = records_in k (drop 80 (drop (80 * i) b)) in
      let q : l ≡ listed (laid_at Log b) (suc i) (length l) = rw (drop-drop 80 (80 * i) b, f) (listed_in k (suc i)) in
      ⊎_elim
      (λ (c : (blank r ≡ true) × (cond (blank r) [] (r ∷ l) ≡ [])). subst (λ (x : List Rec). x ≡ listed (laid_at Log b) i (length x)) (sym c.1) refl)
      (λ (c : (blank r ≡ false) × (cond (blank r) [] (r ∷ l) ≡ r ∷ l)). subst (λ (x : List Rec). x ≡ listed (laid_at Log b) i (length x)) (sym c.1) (λ j. r ∷ q j))
      (cond_cases (blank r) [] (r ∷ l))

  pub listed_records : (n : ℕ) → n ≡ length (records_of b) → listed (laid_at Log b) 0 n ≡ records_of b
  unfolding records_of
  listed_records n e = rw e (sym (listed_in 512 0))

-- ---- sound by the pass

pub sound_pass : (base : List ℕ) (at : ℕ → Rec) (i n : ℕ) → sound_after base (before at i) (listed at i n) ≡ eqb (first_fault base at i n).number 0
unfolding sound_after listed first_fault before
sound_pass base at i zero = refl
sound_pass base at i (suc n) =
    ⊎_elim
    (λ (e : record_fault base (before at i) (at i) ≡ 0). rw e (sound_pass base at (suc i) n))
    (λ (e : record_fault base (before at i) (at i) ≡ 0 → ⊥). rw (ne_eqb (record_fault base (before at i) (at i)) 0 e) (sym (ne_eqb (record_fault base (before at i) (at i)) 0 e)))
    (eq_or_ne (record_fault base (before at i) (at i)) 0)

-- ---- what `check_into` and `check` are asked, over plain values

module _ (b : List ℕ) (n : ℕ) (e : n ≡ length (records_of b)) where
  pub log_laid : length b ≡ 40960 → Laid Log b n
  unfolding offset_of
  log_laid k = record { inside = λ i h. omega (arith, sound_few b) }

  pub log_few : n ≤ 512
  log_few = omega (arith, sound_few b)

  module _ (base : List ℕ) (number place : ℕ) (held places seens : List ℕ) (g : ScanGives base (laid_at Log b) n number place held places seens) where
    pass_is : sound_after base [] (records_of b) ≡ eqb number 0
    unfolding before
    pass_is =
        rw (← listed_records b n e) (sound_pass base (laid_at Log b) 0 n)
        ∙ ap (λ (x : Found). eqb x.number 0) (sym g.first)

    pub records_indexed : number ≡ 0 → Indexed base (laid_at Log b) n (records_of b) held places seens
    records_indexed z = subst (λ (l : List Rec). Indexed base (laid_at Log b) n l held places seens) (listed_records b n e) (g.holds z)

    module _ (places₀ seens₀ : List ℕ) (o : scanned number place held places seens ≡ scan_of base (laid_at Log b) n places₀ seens₀) where
      pub fault-left : (number ≡ 0 → ⊥) → {zeros : List ℕ} → zeros ≡ replicate 8 0 → checked false n zeros places seens ≡ check_of base b places₀ seens₀
      unfolding check_of held_of sound_log_on
      fault-left z h = rw (h, pass_is, ne_eqb number 0 z, ← e, ← o)

      module _ (k : length b ≡ 40960) (z : number ≡ 0) (t : Bool) (q : t ≡ blank (take (40960 - 80 * n) (drop (80 * n) b))) where
        tail_is : t ≡ blank (drop (80 * length (records_of b)) b)
        tail_is = q ∙ rw (← e, take_all (40960 - 80 * n) (drop (80 * n) b) (simp length-drop (omega arith)))

        pub tail-left : t ≡ false → checked false n held places seens ≡ check_of base b places₀ seens₀
        unfolding check_of held_of sound_log_on
        tail-left w = rw (pass_is, eq-eqb number 0 z, ← tail_is, w, ← e, ← o, ← (records_indexed z).counts)

        pub records-left : t ≡ true → checked true n held places seens ≡ check_of base b places₀ seens₀
        unfolding check_of held_of sound_log_on
        records-left w = rw (pass_is, eq-eqb number 0 z, ← tail_is, w, ← e, ← o, ← (records_indexed z).counts)

-- what `check_into` leaves, told apart
module _ (base b places₀ seens₀ : List ℕ) {t : Bool} {n : ℕ} {held places seens : List ℕ} (o : checked t n held places seens ≡ check_of base b places₀ seens₀) where
  pub checked_sound : t ≡ sound_log_on base b
  unfolding check_of
  checked_sound = ap (λ (x : Check). x.sound) o

  pub checked_used : n ≡ length (records_of b)
  unfolding check_of
  checked_used = ap (λ (x : Check). x.used) o

  pub checked-held : held ≡ held_of base b
  unfolding check_of
  checked-held = ap (λ (x : Check). x.held) o

-- what `check` tells
module _ (base b places₀ seens₀ places seens : List ℕ) where
  pub told_sound : (answer : Result Checked Checked) → check_told answer places seens ≡ check_of base b places₀ seens₀ → IsOk answer ↔ (sound_log_on base b ≡ true)
  told_sound (Err told) o = (λ s. search rules, λ t. let e : false ≡ sound_log_on base b = checked_sound base b places₀ seens₀ o in absurd (false≢true (e ∙ t)))
  told_sound (Ok told) o = (λ s. sym (checked_sound base b places₀ seens₀ o), λ t. search rules)

  pub told_known : (answer : Result Checked Checked) → check_told answer places seens ≡ check_of base b places₀ seens₀
      → ((told_in answer).used ≡ length (records_of b)) × ((told_in answer).held.counts ≡ held_of base b)
  told_known (Err told) o = (checked_used base b places₀ seens₀ o, checked-held base b places₀ seens₀ o)
  told_known (Ok told) o = (checked_used base b places₀ seens₀ o, checked-held base b places₀ seens₀ o)

-- ---- with no record before

pub plain_sound : (b : List ℕ) → sound_log_on no_counts b ≡ sound_log b
unfolding sound_log
plain_sound b = refl

-- what is known of a log that was checked and found sound
module _ (b : List ℕ) {s : Bool} (judged : s ≡ sound_log b) (holds : not s ≡ false) where
  pub known_sound : sound_log b ≡ true
  known_sound = sym judged ∙ not-false s holds

  pub known_held : {h : List ℕ} → h ≡ held_of no_counts b → h ≡ vector_of (records_of b)
  unfolding held_of sound_log sound_log_on
  known_held e = e ∙ rw (and_true (sound_after no_counts [] (records_of b)) (blank (drop (80 * length (records_of b)) b)) known_sound).0 (vector_on-none (records_of b))
