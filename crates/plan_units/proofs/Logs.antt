-- Eight logs end to end: one of them as a part, one written back, and its true vector.
-- Assumes nothing.
use Prim.Native.Nat.{ℕ, ◌+◌, ◌-◌, ◌*◌, ◌≤◌, ◌<◌}
use native.Mathlib.Omega.{arith}
use mathlib.Core.Path.{◌≡◌, refl, sym, ap, ◌∙◌}
use mathlib.Core.Logic.{⊎_elim}
use mathlib.Core.Bool.{true}
use mathlib.Core.List.{List}
use lib.ListN.{length, take, drop, replicate, length-replicate}
use lib.Seq.{take-length}
use borrow.Rule.Slice.PartMut.{put_mid}
use Rattle.model.specs.Bytes.{part, put_at}
use Rattle.model.specs.Record.{Rec}
use Rattle.model.specs.Log.{vector_on, records_of, sound_log_on}
use Rattle.base_model.specs.Base.{empty_base, base_vector, held_on}
use Rattle.byte_slice.proofs.Numbers.{lt_or_ge, eq_or_ne}
use Rattle.byte_slice.proofs.Parts.{part_is, part_length, part-replicate}
use Rattle.byte_slice.proofs.PutAt.{mid_put, put_same, length-put, part-put, part_put_before, part_put_after}
use Rattle.call_laws.specs.Keeps.{Good}
use Rattle.call_laws.proofs.States.{empty_vector, good_log, zeros_good}
use Rattle.plan_model.specs.Plan.{log_at, with_log, true_vector}
use Rattle.plan_units.specs.Units.{Units}

-- ---- a part, and what is written back

-- the part that is lent is the log of the unit
pub lent : (s : List ℕ) (u : ℕ) → take (40960 * u + 40960 - 40960 * u) (drop (40960 * u) s) ≡ log_at s u
unfolding log_at
lent s u = part_is s (40960 * u) 40960

pub put_back : (s l : List ℕ) (u : ℕ) → length l ≡ 40960 → put_mid (40960 * u) (40960 * u + 40960 - 40960 * u) s l ≡ with_log s u l
unfolding with_log
put_back s l u n = mid_put (40960 * u) 40960 s l n

module _ (s : List ℕ) (long : length s ≡ 327680) (u : ℕ) (h : u < 8) where
  -- a log put where it stands
  pub unchanged : with_log s u (log_at s u) ≡ s
  unfolding with_log log_at
  unchanged = put_same s (40960 * u) 40960 (omega arith)

  module _ (l : List ℕ) (n : length l ≡ 40960) where
    pub with_long : length (with_log s u l) ≡ 327680
    unfolding with_log
    with_long = length-put s (40960 * u) l (omega arith) ∙ long

    pub log_put : log_at (with_log s u l) u ≡ l
    unfolding with_log log_at
    log_put = rw n at (part-put s (40960 * u) l (omega arith))

    pub log_other : (v : ℕ) → (v ≡ u → ⊥) → log_at (with_log s u l) v ≡ log_at s v
    unfolding with_log log_at
    log_other v d =
        ⊎_elim
        (λ (k : v < u). part_put_before s (40960 * u) l (40960 * v) 40960 (omega arith) (omega arith))
        (λ (k : u ≤ v). part_put_after s (40960 * u) l (40960 * v) 40960 (omega arith) (omega arith))
        (lt_or_ge v u)

-- ---- every unit is good

pub units_put : (s : List ℕ) (u : ℕ) (l : List ℕ) → Units s → u < 8 → Good l empty_base → Units (with_log s u l)
units_put s u l w h g =
    let n : length l ≡ 40960 = g.long.0 in
    record {
      long = with_long s w.long u h l n;
      good = λ v k.
          ⊎_elim
          (λ (e : v ≡ u). rw (e, log_put s w.long u h l n) g)
          (λ (d : v ≡ u → ⊥). rw (log_other s w.long u h l n v d) (w.good v k))
          (eq_or_ne v u);
    }

-- all eight start empty
pub log_new : (u : ℕ) → u < 8 → log_at (replicate 327680 0) u ≡ replicate 40960 0
unfolding log_at
log_new u h = part-replicate 327680 0 (40960 * u) 40960 (omega arith)

pub units_new : Units (replicate 327680 0)
units_new = record { long = length-replicate {A = ℕ} 327680 0; good = λ u h. rw (log_new u h) zeros_good }

-- ---- the true vector

pub sound_none : (log v : List ℕ) → Good log empty_base → v ≡ replicate 8 0 → sound_log_on v log ≡ true
sound_none log v g e = rw (e, ← empty_vector) (good_log log empty_base g)

pub long_log : (log : List ℕ) → Good log empty_base → length log ≡ 40960
long_log log g = g.long.0

pub held_none : (log v : List ℕ) {n : ℕ} {c : List ℕ} → v ≡ replicate 8 0 → n ≡ length (records_of log) → c ≡ vector_on v (take n (records_of log)) → c ≡ held_on log empty_base
held_none log v e k q = q ∙ rw (k, take-length (records_of log), e, empty_vector)

pub good_part : (s : List ℕ) (u : ℕ) → Units s → u < 8 → Good (take (40960 * u + 40960 - 40960 * u) (drop (40960 * u) s)) empty_base
good_part s u w h = rw (lent s u) (w.good u h)

pub long-part : (s : List ℕ) (u : ℕ) → Units s → u < 8 → length (take (40960 * u + 40960 - 40960 * u) (drop (40960 * u) s)) ≡ 40960
long-part s u w h = (good_part s u w h).long.0

pub true_part : (s : List ℕ) (u : ℕ) {c : List ℕ} → c ≡ held_on (take (40960 * u + 40960 - 40960 * u) (drop (40960 * u) s)) empty_base → c ≡ true_vector s u
unfolding true_vector
true_part s u e = rw (lent s u) at e
