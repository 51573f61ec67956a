-- An SAB2 file as SAB1: its records; and the ways out of the call.
-- Assumes nothing.
use Prim.Native.Nat.{ℕ, ◌+◌, ◌-◌, ◌*◌, ◌/◌, ◌≤◌, ◌<◌}
use native.Mathlib.Omega.{arith}
use mathlib.Core.Path.{◌≡◌, refl, sym, ap, ◌∙◌}
use mathlib.Core.Bool.{Bool, true, false, not}
use mathlib.Core.List.{List}
use lib.ListN.{length, take, drop, replicate}
use borrow.Author.Tests.{eq-eqb, ne_eqb, not-true, not-false}
use Rattle.model.specs.Bytes.{blank, part, padded, put_at}
use Rattle.model.specs.Record.{Rec}
use Rattle.model.specs.Log.{no_counts, vector_of}
use Rattle.model.specs.Block.{letters, archive_in, sender_in, vector_in}
use Rattle.model.specs.File.{header_of, block_count, block_at, Fault, fault, or_else, records_counted, file_records, file_of}
use Rattle.base_model.specs.Base.{base_vector}
use Rattle.run_model.specs.Runs.{run_to}
use Rattle.sab2_model.specs.Sab2.{row_blocks, sab2_base, record_part, sab2_records, checked_sab2}
use Rattle.sab2_model.specs.Calls.{converted, or_converted, way_back, as_sab1, to_sab1_of}
use Rattle.log_laws.proofs.Tests.{vector_on-none}
use Rattle.run_laws.proofs.Records.{length-file_records}
use Rattle.run_laws.proofs.Sab1.{to_run}
use Rattle.encoding_laws.proofs.Files.{few_blocks}
use Rattle.call_laws.proofs.Given.{blank_none, base_eight}
use Rattle.sab2_laws.proofs.Rewritten.{vector_right}
use Rattle.sab2_laws.proofs.Numbers.{way_29}
use Rattle.sab2_laws.proofs.Empty.{back_done}
use Rattle.base_head.specs.Head.{BaseHead, headed, head_of}
use Rattle.sab2_check.proofs.Behind.{part_is, behind-length, behind_few, behind_fits}
use Rattle.convert.proofs.Anew.{records_sized, run-whole}

-- ---- the records behind the rows

module _ (f : List ℕ) (z : (checked_sab2 f).number ≡ 0) {p : ℕ} (ep : p ≡ row_blocks f) {total : ℕ} (et : total ≡ records_counted (take (512 * (length f / 512) - 512 * p) (drop (512 * p) f))) where
  pub lowered_few : total ≤ 512
  lowered_few = omega (arith, behind_fits f z ep)

  pub lowered_inside : total ≤ 6 * (length (take (512 * (length f / 512) - 512 * p) (drop (512 * p) f)) / 512)
  lowered_inside = omega (arith, behind-length f z ep, behind_few f z ep)

  length_is : length (sab2_records f) ≡ total
  unfolding sab2_records file_records
  length_is = length-file_records (record_part f) 0 (records_counted (record_part f)) ∙ sym (rw (part_is f z ep) at et)

  module _ {n : ℕ} (en : n ≡ block_count total) where
    pub lowered_blocks : n ≡ block_count (length (sab2_records f))
    lowered_blocks = en ∙ rw length_is

    pub lowered_many : n ≤ 86
    lowered_many = omega (arith, few_blocks total lowered_few)

    pub lowered_fits : n < 256
    lowered_fits = omega (arith, lowered_many)

    pub lowered_room : (d : List ℕ) → length d ≡ 44032 → 512 * (0 + n) ≤ length d
    lowered_room d long = omega (arith, lowered_many)

    pub lowered : (d : List ℕ) {a u : ℕ} {v d₁ o : List ℕ} → blank (base_vector (sab2_base f)) ≡ true → length d ≡ 44032
        → a ≡ archive_in (take (512 - 0) (drop 0 f)) → u ≡ sender_in (take (512 - 0) (drop 0 f)) → v ≡ vector_in (take (512 - 0) (drop 0 f))
        → d₁ ≡ put_at d (512 * 0) (run_to letters (header_of a u 0 v) (file_records (take (512 * (length f / 512) - 512 * p) (drop (512 * p) f))) n)
        → o ≡ put_at d₁ (512 * n) (replicate (44032 - 512 * n) 0) → o ≡ padded 44032 (as_sab1 f)
    unfolding as_sab1 file_of block_at part sab2_records
    lowered d {a} {u} {v} none long ea eu ev e₁ e =
        let l : List Rec = file_records (record_part f) in
        let nv : base_vector (sab2_base f) ≡ no_counts = blank_none (base_vector (sab2_base f)) (base_eight (sab2_base f)) none in
        let w : v ≡ vector_of l = ev ∙ (vector_right f z ∙ rw nv (vector_on-none l)) in
        let b : n ≡ block_count (length l) = lowered_blocks in
        let sized = rw (part_is f z ep) at (records_sized (take (512 * (length f / 512) - 512 * p) (drop (512 * p) f)) total et lowered_inside) in
        let g = run-whole letters (header_of a u 0 v) l d 44032 n refl sized long (omega (arith, lowered_many)) (rw (part_is f z ep) at e₁) e in
        g ∙ rw (w, ← to_run a u l n, ea, eu, ← b)

-- ---- the ways out

module _ (f lent : List ℕ) where
  pub back_length : (length lent ≡ 44032 → ⊥) → converted 1 0 0 lent ≡ to_sab1_of f lent
  unfolding to_sab1_of or_converted
  back_length h = rw (ne_eqb (length lent) 44032 h)

  pub back_refused : length lent ≡ 44032 → (m q : ℕ) → fault m q ≡ checked_sab2 f → (m ≡ 0 → ⊥) → converted m q 0 lent ≡ to_sab1_of f lent
  unfolding to_sab1_of or_converted way_back or_else fault
  back_refused long m q e z = rw (eq-eqb (length lent) 44032 long, ← e, ne_eqb m 0 z, ne_eqb m 0 z)

  module _ (long : length lent ≡ 44032) (z : (checked_sab2 f).number ≡ 0) {b v : List ℕ} {m i j : ℕ} (eb : b ≡ sab2_base f) (eh : headed m v i j ≡ head_of b) {t : Bool} (et : t ≡ blank v) where
    folded_is : v ≡ base_vector (sab2_base f)
    unfolding head_of
    folded_is = ap (λ (x : BaseHead). x.folded) eh ∙ rw eb

    blank_is : blank (base_vector (sab2_base f)) ≡ t
    blank_is = sym (rw folded_is at et)

    pub back_folded : not t ≡ true → converted 29 0 0 lent ≡ to_sab1_of f lent
    unfolding to_sab1_of or_converted fault
    back_folded h = rw (eq-eqb (length lent) 44032 long, way_29 f z (blank_is ∙ not-true t h))

    pub none-folded : not t ≡ false → blank (base_vector (sab2_base f)) ≡ true
    none-folded h = blank_is ∙ not-false t h

    pub back_lowered : not t ≡ false → (k : ℕ) (o : List ℕ) → k ≡ block_count (length (sab2_records f)) → o ≡ padded 44032 (as_sab1 f) → converted 0 0 k o ≡ to_sab1_of f lent
    back_lowered h k o ek eo = sym (back_done f z (none-folded h) lent long ∙ rw (ek, eo))

pub none_faulty : (f : List ℕ) (m q : ℕ) → fault m q ≡ checked_sab2 f → m ≡ 0 → (checked_sab2 f).number ≡ 0
unfolding fault
none_faulty f m q e z = sym (ap (λ (x : Fault). x.number) e) ∙ z
