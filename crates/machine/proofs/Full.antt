-- A meeting of two units that hold 512 records together, computed: the premise of every meeting is met at its edge.
-- Assumes nothing.
use Prim.Native.Nat.{ℕ, zero, suc, ◌+◌, ◌-◌, ◌≤◌}
use native.Mathlib.Omega.{arith}
use mathlib.Core.Path.{◌≡◌, refl}
use mathlib.Core.Logic.{⊎_elim}
use mathlib.Core.Bool.{Bool, true, ◌&&◌}
use mathlib.Core.List.{List, [], ◌∷◌, ◌++◌}
use lib.Dec.{eqb}
use lib.ListN.{length, replicate}
use borrow.Author.Tests.{eqb-true}
use Rattle.model.specs.Bytes.{word, long, two, blank, same_bytes, part}
use Rattle.model.specs.Vector as W
use Rattle.model.specs.Date as D
use Rattle.model.specs.Record as R
use Rattle.model.specs.Log as L
use Rattle.byte_slice.proofs.Numbers.{and_true}
use Rattle.log_laws.specs.Members.{Has, Agree}
use Rattle.log_laws.proofs.Tests.{sound_means}
use Rattle.machine.specs.Meeting.{Store, lacked_by, Meets}
use Rattle.machine.proofs.Meeting.{every_meeting}
use Rattle.machine.proofs.Unfolded.{unfolded, back, whole, vector_is, may_meet}

-- record n of unit 0 or 1 makes a folder in the root on 3 March 2025; it saw its own unit's alone
make : ℕ → ℕ → R.Rec
make u n =
    (u ∷ 1 ∷ two (suc n)) ++ (replicate (u + u) 0 ++ (two n ++ (replicate (14 - (u + u)) 0 ++ (replicate 8 0 ++ ((233 ∷ 7 ∷ 3 ∷ 3 ∷ []) ++ (65 ∷ replicate 47 0))))))

-- the records 1 to n of a unit
made : ℕ → ℕ → List R.Rec → List R.Rec
made u zero l = l
made u (suc n) l = made u n (make u n ∷ l)

pub A : List R.Rec
A = made 0 256 []

pub B : List R.Rec
B = made 1 256 []

of_unit_lem : ℕ → List R.Rec → Bool
of_unit_lem u [] = true
of_unit_lem u (r ∷ l) = eqb (R.unit r) u && of_unit_lem u l

computed :
    (L.sound_after L.no_counts [] A ≡ true)
    × (L.sound_after L.no_counts [] B ≡ true)
    × (length (L.lacking (L.vector_of B) A) + length B ≡ 512)
    × (length A ≡ 256)
    × (length B ≡ 256)
    × (of_unit_lem 0 A ≡ true)
    × (of_unit_lem 1 B ≡ true)
unfolding make made A B of_unit_lem word long blank same_bytes part W.covers_to W.covers W.counts_at W.vector_at D.is_leap D.days_of D.is_date R.unit R.op R.num R.seen R.seen_vector R.text_length R.printable R.is_label R.uses_object R.uses_folder R.uses_label R.uses_mark R.unused R.names R.object_fits R.folder_fits R.label_fits R.mark_fits R.date_fits R.head_fits R.well_formed R.label_of L.rank L.count L.counts_to L.counts_on_to L.vector_on L.vector_of L.by_id L.is_next L.is_within L.all_to L.nowhere_above L.is_closed L.rises L.record_fault L.sound_after L.lacking
computed = (refl, refl, refl, refl, refl, refl, refl)

of_unit : (u : ℕ) (l : List R.Rec) → of_unit_lem u l ≡ true → (r : R.Rec) → Has r l → R.unit r ≡ u
unfolding of_unit_lem
of_unit u [] e r h = absurd h
of_unit u (x ∷ l) e r h =
    let (p, q) = and_true (eqb (R.unit x) u) (of_unit_lem u l) e in
    ⊎_elim (λ (z : r ≡ x). rw z (eqb-true (R.unit x) u p)) (λ i. of_unit u l q r i) h

-- unit 0 passes its 256 records to unit 1, whose log is then full
pub record FullMeeting (sa sb : Store) : Type 0 where
  pub together : length (lacked_by sa sb) + length (L.records_of sb.log) ≡ 512
  pub meets : Meets 7 0 1 sa sb

pub full_meeting : FullMeeting (unfolded A) (unfolded B)
unfolding lacked_by
full_meeting =
    let (x, y, n, k, m, u, v) = computed in
    let s_a = sound_means A x in
    let s_b = sound_means B y in
    let fa : length A ≤ 512 = omega arith in
    let fb : length B ≤ 512 = omega arith in
    let a : L.records_of (L.log_bytes A) ≡ A = back A s_a fa in
    let b : L.records_of (L.log_bytes B) ≡ B = back B s_b fb in
    let apart : Agree A B = λ r s i j p q. absurd (omega (arith, of_unit 0 A u r i, of_unit 1 B v s j)) in
    let all : length (lacked_by (unfolded A) (unfolded B)) + length (L.records_of (L.log_bytes B)) ≡ 512 = rw (vector_is B s_b fb, a, b) n in
    record {
      together = all;
      meets =
          every_meeting 7 0 1 (unfolded A) (unfolded B) (omega arith) (omega arith) (whole A s_a fa) (whole B s_b fb) (rw (a, b) apart)
          (may_meet A s_a fa (unfolded B) refl) (omega arith);
    }
