-- What the loops over the second file's records are asked, over plain values.
-- Assumes nothing.
use Prim.Native.Nat.{ℕ, suc, ◌+◌, ◌-◌, ◌/◌, ◌≤◌, ◌<◌}
use native.Mathlib.Numerals.{add-one}
use native.Mathlib.Omega.{arith}
use mathlib.Core.Path.{◌≡◌, ap, ◌∙◌}
use mathlib.Core.Bool.{Bool, true, false, cond, not}
use mathlib.Core.Option.{some}
use mathlib.Core.List.{List}
use lib.Dec.{ltb}
use lib.ListN.{get_or, length, take, drop}
use borrow.Author.Tests.{not-true, not-false, lt-ltb}
use Rattle.model.specs.Bytes.{same_bytes, part}
use Rattle.model.specs.Record.{Rec, unit, num, well_formed}
use Rattle.model.specs.Log.{count, by_id}
use Rattle.model.specs.File.{file_records, fault}
use Rattle.model.specs.Merge.{differs, bytes_fault, room_fault}
use Rattle.byte_slice.proofs.Parts.{part_is}
use Rattle.log_laws.proofs.Formed.{well_unit, well_own}
use Rattle.log_laws.proofs.Tests.{vector_of_get_d}
use Rattle.log_admit.proofs.Counts.{count_few}
use Rattle.log_closure.specs.Tables.{position_of}
use Rattle.log_check.specs.declared.Layout.TheVariants.{File}
use Rattle.log_check.specs.Places.{offset_of, laid_at, Laid}
use Rattle.log_check.specs.InOrder.{listed}
use Rattle.merge_check.specs.Tables.{Positioned, AllFormed}

-- ---- a record of a file

module _ (g : List ℕ) (i at : ℕ) (e : at ≡ offset_of File i) where
  pub lent_is : take (at + 80 - at) (drop at g) ≡ laid_at File g i
  unfolding laid_at
  lent_is = part_is g at 80 ∙ ap (λ (a : ℕ). part g a 80) e

  pub lent_formed : (n : ℕ) → AllFormed (laid_at File g) n → i < n → well_formed (take (at + 80 - at) (drop at g)) ≡ true
  lent_formed n w h = rw lent_is (w.each i h)

  pub lent_unit : (n : ℕ) → AllFormed (laid_at File g) n → i < n → unit (take (at + 80 - at) (drop at g)) < 8
  lent_unit n w h = well_unit (take (at + 80 - at) (drop at g)) (lent_formed n w h)

-- ---- beside the first file's

pub places_long : {at : ℕ → Rec} {n : ℕ} {m : List Rec} {held : List ℕ} (places : List ℕ) → Positioned at n m held places → length places ≡ 4096
places_long places p = p.long

module _ (f places rec held : List ℕ) (n : ℕ) (p : Positioned (laid_at File f) n (file_records f) held places) (w : well_formed rec ≡ true) (u b c : ℕ) (wide : u ≡ b) (eb : b ≡ unit rec) (ec : c ≡ num rec) where
  eu : u ≡ unit rec
  eu = wide ∙ eb

  pub unit_small : u < 8
  unit_small = omega (arith, well_unit rec w)

  counts_is : get_or held u 0 ≡ count u (file_records f)
  counts_is = ap (λ (v : List ℕ). get_or v u 0) p.counts ∙ vector_of_get_d (file_records f) u unit_small

  pub beyond_held : get_or held u 0 < c → false ≡ differs (by_id (unit rec) (num rec) (file_records f)) rec
  unfolding differs
  beyond_held h = rw (← eu, ← ec, p.beyond u c (omega (arith, counts_is)))

  pub from_one : 1 ≤ c
  from_one = omega (arith, well_own rec w)

  module _ (h : c ≤ get_or held u 0) where
    counted : c ≤ count u (file_records f)
    counted = omega (arith, counts_is)

    pub to_512 : c ≤ 512
    to_512 = omega (arith, counted, count_few u (file_records f), p.few)

    module _ (q : ℕ) (eq : q ≡ position_of places u c) where
      stands_below : q < n
      stands_below = rw eq (p.below u c unit_small from_one counted)

      pub few_positions : q < 65536
      few_positions = omega (arith, stands_below, p.room)

      module _ (at : ℕ) (ea : at ≡ offset_of File q) where
        pub inside_first : Laid File f n → at + 80 ≤ length f
        inside_first l = rw ea (l.inside q stands_below)

        pub compared : (t : Bool) → t ≡ same_bytes (take (at + 80 - at) (drop at f)) rec → not t ≡ differs (by_id (unit rec) (num rec) (file_records f)) rec
        unfolding differs
        compared t e =
            let k : by_id (unit rec) (num rec) (file_records f) ≡ some (laid_at File f q) = rw (← eu, ← ec, eq) (p.found u c unit_small from_one counted) in
            rw (k, ← lent_is f q at ea, e)

-- ---- 10

module _ (l : List Rec) (g : List ℕ) (total i : ℕ) (q : bytes_fault l i (listed (laid_at File g) i (total - i)) ≡ bytes_fault l 0 (listed (laid_at File g) 0 total)) where
  pub bytes_end : total ≤ i → fault 0 0 ≡ bytes_fault l 0 (listed (laid_at File g) 0 total)
  unfolding bytes_fault listed
  bytes_end h = let e : total - i ≡ 0 = omega arith in rw e at q

  module _ (h : i < total) (at : ℕ) (ea : at ≡ offset_of File i) (t : Bool)
      (d : t ≡ differs (by_id (unit (take (at + 80 - at) (drop at g))) (num (take (at + 80 - at) (drop at g))) l) (take (at + 80 - at) (drop at g))) where
    bytes_step : cond t (fault 10 (i / 6)) (bytes_fault l (suc i) (listed (laid_at File g) (suc i) (total - suc i))) ≡ bytes_fault l 0 (listed (laid_at File g) 0 total)
    unfolding bytes_fault listed
    bytes_step =
        let m : total - i ≡ suc (total - suc i) = omega arith in
        rw (d, lent_is g i at ea) (rw m at q)

    pub bytes_stop : t ≡ true → fault 10 (i / 6) ≡ bytes_fault l 0 (listed (laid_at File g) 0 total)
    bytes_stop z = rw z at bytes_step

    pub bytes_next : t ≡ false → bytes_fault l (i + 1) (listed (laid_at File g) (i + 1) (total - (i + 1))) ≡ bytes_fault l 0 (listed (laid_at File g) 0 total)
    bytes_next z = rw add-one (rw z at bytes_step)

-- ---- 11

module _ (v g : List ℕ) (total used n i : ℕ) (q : room_fault v n i (listed (laid_at File g) i (total - i)) ≡ room_fault v used 0 (listed (laid_at File g) 0 total)) where
  pub room_end : total ≤ i → fault 0 0 ≡ room_fault v used 0 (listed (laid_at File g) 0 total)
  unfolding room_fault listed
  room_end h = let e : total - i ≡ 0 = omega arith in rw e at q

  module _ (h : i < total) (at : ℕ) (ea : at ≡ offset_of File i) (t : Bool)
      (d : t ≡ ltb (get_or v (unit (take (at + 80 - at) (drop at g))) 0) (num (take (at + 80 - at) (drop at g)))) where
    room_step : cond t (cond (ltb n 512) (room_fault v (suc n) (suc i) (listed (laid_at File g) (suc i) (total - suc i))) (fault 11 (i / 6))) (room_fault v n (suc i) (listed (laid_at File g) (suc i) (total - suc i)))
        ≡ room_fault v used 0 (listed (laid_at File g) 0 total)
    unfolding room_fault listed
    room_step =
        let m : total - i ≡ suc (total - suc i) = omega arith in
        rw (d, lent_is g i at ea) (rw m at q)

    pub room_skip : not t ≡ true → room_fault v n (i + 1) (listed (laid_at File g) (i + 1) (total - (i + 1))) ≡ room_fault v used 0 (listed (laid_at File g) 0 total)
    room_skip z = rw add-one (rw (not-true t z) at room_step)

    pub room_stop : not t ≡ false → n ≡ 512 → fault 11 (i / 6) ≡ room_fault v used 0 (listed (laid_at File g) 0 total)
    room_stop z k = rw (not-false t z, k) at room_step

    pub room_next : not t ≡ false → n ≤ 512 → (n ≡ 512 → ⊥) → room_fault v (n + 1) (i + 1) (listed (laid_at File g) (i + 1) (total - (i + 1))) ≡ room_fault v used 0 (listed (laid_at File g) 0 total)
    room_next z k x =
        let y : n < 512 = omega arith in
        rw (add-one i, add-one n) (rw (not-false t z, lt-ltb n 512 y) at room_step)
