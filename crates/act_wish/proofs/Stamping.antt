-- A wish that is stamped, and what is asked of it before the replay, over plain values.
-- Assumes nothing.
use Prim.Native.Nat.{ℕ, suc, ◌+◌, ◌-◌, ◌%◌, ◌≤◌, ◌<◌}
use native.Mathlib.Omega.{arith}
use mathlib.Core.Path.{◌≡◌, refl, sym, ap, ◌∙◌}
use mathlib.Core.Logic.{⊎_elim}
use mathlib.Core.Bool.{Bool, true, false, not, ◌&&◌}
use mathlib.Core.List.{List, ◌++◌, append_assoc}
use lib.ListN.{get_or, length, take, drop, length-append, length-drop, get_or-append}
use lib.Seq.{drop_at, length-take-le, get_or-take}
use borrow.Author.Tests.{eq-eqb, ne_eqb, lt-ltb, le-ltb, not-true, not-false}
use Rattle.model.specs.Bytes.{two, blank, part, put_at}
use Rattle.model.specs.Vector.{vector_bytes}
use Rattle.model.specs.Record.{Rec, unit, op, num, seen, label_fits, well_formed}
use Rattle.model.specs.Log.{count_on, vector_on}
use Rattle.base_model.specs.Base.{is_listed}
use Rattle.call_model.specs.Outcome.{stamped, wish_fits, wish_number, early_wish}
use Rattle.byte_slice.proofs.Numbers.{eq_or_ne, first_stops}
use Rattle.byte_slice.proofs.PutAt.{put_more}
use Rattle.vector.proofs.InBytes.{vector_bytes-length}
use Rattle.log_laws.proofs.Tests.{vector_on_get_d}
use Rattle.act_laws.proofs.Act.{stamped_label, stamped-unit, stamped-num, stamped-seen}
use Rattle.act_label.specs.Label.{field_number, body_fits}
use Rattle.act_label.proofs.Body.{body_same, label_same, label_fits_same, formed_by_body}
use Rattle.act_wish.specs.Stamp.{stamped_by, fits_as, number_as, room_as, early_as}

-- ---- the writings

pub stamp_put : (n : ℕ) (v w : List ℕ) → length w ≡ 80 → put_at (put_at w 2 (two n)) 4 (vector_bytes v) ≡ stamped_by n v w
unfolding stamped_by put_at
stamp_put n v w h =
    let k : 2 + length (two n ++ vector_bytes v) ≡ 20 = omega (arith, length-append (two n) (vector_bytes v), vector_bytes-length v) in
    put_more w 2 (two n) (vector_bytes v) (omega arith) ∙ rw (k, append_assoc (two n) (vector_bytes v) (drop 20 w))

-- ---- what is stamped, whatever the number

module _ (n : ℕ) (v w : List ℕ) (h : length w ≡ 80) where
  two-long : length (take 2 w) ≡ 2
  two-long = length-take-le 2 w (omega arith)

  stamped_by-op : op (stamped_by n v w) ≡ get_or w 1 0
  unfolding stamped_by op
  stamped_by-op = get_or-append (take 2 w) (two n ++ (vector_bytes v ++ drop 20 w)) 0 1 (omega (arith, two-long)) ∙ get_or-take 2 w 1 0 (omega arith)

  stamped_by-behind : drop 4 (stamped_by n v w) ≡ vector_bytes v ++ drop 20 w
  unfolding stamped_by
  stamped_by-behind =
      let four : length (take 2 w ++ two n) ≡ 4 = omega (arith, length-append (take 2 w) (two n), two-long) in
      ap (drop 4) (sym (append_assoc (take 2 w) (two n) (vector_bytes v ++ drop 20 w))) ∙ drop_at (take 2 w ++ two n) (vector_bytes v ++ drop 20 w) 4 four

  stamped_by-length : length (stamped_by n v w) ≡ 80
  unfolding stamped_by
  stamped_by-length =
      omega (arith, two-long, length-append (take 2 w) (two n ++ (vector_bytes v ++ drop 20 w)), length-append (two n) (vector_bytes v ++ drop 20 w), length-append (vector_bytes v) (drop 20 w), vector_bytes-length v, length-drop 20 w, h)

-- ---- by the counts of a log behind a base vector

module _ (u : ℕ) (v : List ℕ) (l : List Rec) (w : List ℕ) {h : List ℕ} (low : u < 8) (held : h ≡ vector_on v l) where
  own_count : get_or h u 0 ≡ count_on v u l
  own_count = rw held (vector_on_get_d v l u low)

  -- below 65,535 the number is the next one
  pub stamped_is : get_or h u 0 < 65535 → stamped_by ((get_or h u 0 + 1) % 65536) h w ≡ stamped u v l w
  unfolding stamped_by stamped
  stamped_is small =
      let k : (get_or h u 0 + 1) % 65536 ≡ suc (count_on v u l) = omega (arith, own_count) in
      rw (k, held)

  -- the record that the definition names, with its number as a plain number, 65,536 too
  stamped_plain : stamped u v l w ≡ stamped_by (suc (count_on v u l)) (vector_on v l) w
  unfolding stamped stamped_by
  stamped_plain = refl

  module _ (n : ℕ) {r : Rec} (wide : length w ≡ 80) (own : r ≡ stamped_by n h w) where
    same_op : op r ≡ op (stamped u v l w)
    same_op = rw (own, stamped_plain) (stamped_by-op n h w wide ∙ sym (stamped_by-op (suc (count_on v u l)) (vector_on v l) w wide))

    same_behind : drop 4 r ≡ drop 4 (stamped u v l w)
    same_behind = rw (own, stamped_plain, held) (stamped_by-behind n (vector_on v l) w wide ∙ sym (stamped_by-behind (suc (count_on v u l)) (vector_on v l) w wide))

    -- number and own seen fit in every stamped record of the own unit
    formed_is : get_or w 0 0 ≡ u → (body_fits r && label_fits r) ≡ well_formed (stamped u v l w)
    formed_is e =
        let s : Rec = stamped u v l w in
        let long : length s ≡ 80 = rw stamped_plain (stamped_by-length (suc (count_on v u l)) (vector_on v l) w wide) in
        let one : unit s ≡ u = stamped-unit u v l w wide ∙ e in
        let next : num s ≡ suc (count_on v u l) = stamped-num u v l w wide in
        let saw : seen s (unit s) ≡ num s - 1 = ap (seen s) one ∙ stamped-seen u v l w wide u low ∙ omega arith in
        rw (body_same r s same_op same_behind, label_fits_same r s same_op same_behind)
        (sym (formed_by_body s long (omega arith) (omega arith) saw))

    fits_is : fits_as u w r ≡ wish_fits u v l w
    unfolding fits_as wish_fits
    fits_is =
        ⊎_elim
        (λ (e : get_or w 0 0 ≡ u). rw (formed_is e))
        (λ (e : get_or w 0 0 ≡ u → ⊥). rw (ne_eqb (get_or w 0 0) u e))
        (eq_or_ne (get_or w 0 0) u)

    number_is : number_as u w r ≡ wish_number u v l w
    unfolding number_as
    number_is = rw (fits_is, label_same r (stamped u v l w) same_op same_behind, stamped_label u v l w wide)

    pub early_is : (m : ℕ) {k : ℕ} → k ≡ length l → early_as m u h k w r ≡ early_wish m u v l w
    unfolding early_as room_as early_wish
    early_is m e = rw (number_is, own_count, e)

-- ---- the ways out of `check_wish`

module _ (u : ℕ) (w : List ℕ) (r : Rec) where
  pub other_unit : (get_or w 0 0 ≡ u → ⊥) → 7 ≡ number_as u w r
  unfolding number_as fits_as
  other_unit h = rw (ne_eqb (get_or w 0 0) u h)

  module _ (a : get_or w 0 0 ≡ u) {b : Bool} (e : b ≡ blank (take (20 - 2) (drop 2 w))) where
    pub not_blank : not b ≡ true → 7 ≡ number_as u w r
    unfolding number_as fits_as part
    not_blank h = rw (eq-eqb (get_or w 0 0) u a, ← e, not-true b h)

    module _ {f : Bool} (h : not b ≡ false) (g : f ≡ body_fits r) where
      pub not_formed : not f ≡ true → 7 ≡ number_as u w r
      unfolding number_as fits_as part
      not_formed k = rw (eq-eqb (get_or w 0 0) u a, ← e, not-false b h, ← g, not-true f k)

      pub label_tells : {x : ℕ} → not f ≡ false → x ≡ field_number r → x ≡ number_as u w r
      unfolding number_as fits_as field_number part
      label_tells k z = z ∙ rw (eq-eqb (get_or w 0 0) u a, ← e, not-false b h, ← g, not-false f k)

-- ---- the ways out of `check_room`

module _ (c n : ℕ) where
  pub last_used : c ≡ 65535 → 28 ≡ room_as c n
  unfolding room_as
  last_used h = rw h

  module _ (within : c < 65536) (not_last : c ≡ 65535 → ⊥) where
    below : c < 65535
    below = omega (arith, not_last)

    pub log_full : 512 ≤ n → 11 ≡ room_as c n
    unfolding room_as
    log_full h = rw (lt-ltb c 65535 below, le-ltb n 512 h)

    pub room_left : n < 512 → 0 ≡ room_as c n
    unfolding room_as
    room_left h = rw (lt-ltb c 65535 below, lt-ltb n 512 h)

-- ---- the ways out of `check_early`

module _ (m u : ℕ) (h : List ℕ) (n : ℕ) (w : List ℕ) (r : Rec) {t : Bool} (e : t ≡ is_listed m u) where
  pub not_listed : not t ≡ true → 26 ≡ early_as m u h n w r
  unfolding early_as
  not_listed k = rw (← e, not-true t k)

  module _ {x : ℕ} (g : not t ≡ false) (q : x ≡ number_as u w r) where
    pub wish_refused : (x ≡ 0 → ⊥) → x ≡ early_as m u h n w r
    unfolding early_as
    wish_refused k = rw (← e, not-false t g, ← q, first_stops x (room_as (get_or h u 0) n) k)

    pub room_tells : {y : ℕ} → x ≡ 0 → y ≡ room_as (get_or h u 0) n → y ≡ early_as m u h n w r
    unfolding early_as
    room_tells z k = k ∙ rw (← e, not-false t g, ← q, z)
