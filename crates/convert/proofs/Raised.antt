-- An SAB1 file as SAB2: one row of an empty base, then its records; and the ways out of the call.
-- Assumes nothing.
use Prim.Native.Nat.{ℕ, ◌+◌, ◌-◌, ◌*◌, ◌/◌, ◌≤◌}
use native.Mathlib.Omega.{arith}
use mathlib.Core.Path.{◌≡◌, refl, sym, ap, ◌∙◌}
use mathlib.Core.Bool.{true}
use mathlib.Core.List.{List, [], ◌∷◌, ◌++◌}
use lib.ListN.{length, take, drop, replicate}
use borrow.Author.Tests.{eq-eqb, ne_eqb}
use Rattle.model.specs.Bytes.{word, part, padded, put_at, joined}
use Rattle.model.specs.Vector.{blocks_for}
use Rattle.model.specs.Log.{vector_of, vector_on}
use Rattle.model.specs.Block.{archive_in, sender_in, vector_in, sealed}
use Rattle.model.specs.File.{header_of, block_count, block_at, Fault, fault, records_counted, file_records, file_length, file_fault, checked_fault}
use Rattle.base_model.specs.Base.{empty_base, base_vector}
use Rattle.run_model.specs.Runs.{letters2, head_as, body_as, block_as, behind, run_block, run_to}
use Rattle.sab2_model.specs.Rows.{row_count, row_start, row_long, base_row, base_rows_from, base_rows}
use Rattle.sab2_model.specs.Sab2.{sab2_of, sab2_blocks}
use Rattle.sab2_model.specs.Calls.{converted, or_converted, as_sab2, to_sab2_of}
use Rattle.log_laws.proofs.Tests.{vector_on-none}
use Rattle.run_laws.proofs.Records.{length-file_records}
use Rattle.base_laws.proofs.Fresh.{empty_vector}
use Rattle.call_laws.proofs.Reading.{checked-right}
use Rattle.file_laws.proofs.Rewritten as Sab1
use Rattle.read_file_check.proofs.Checks.{right-whole, right_some, right_few}
use Rattle.read_file.proofs.Copied.{few_of_file, few_of_log}
use Rattle.write_sab2.proofs.Whole.{file_whole}
use Rattle.convert.proofs.Anew.{records_sized}

-- ---- the row of an empty base

one_row : word empty_base 2 ≡ 0
unfolding word empty_base
one_row = refl

no_aside : word empty_base 4 ≡ 0
unfolding word empty_base
no_aside = refl

pub empty_block : (h : List ℕ) (a u : ℕ) {o : List ℕ} → o ≡ sealed (head_as letters2 (record { archive = a; sender = u; place = 0; vector = h }) 1 ++ padded 480 (255 ∷ []))
    → o ≡ run_block letters2 (header_of a u 0 h) (base_rows empty_base) 0
unfolding run_block block_as body_as behind header_of base_rows base_rows_from base_row row_count blocks_for row_start row_long word part padded joined empty_base
empty_block h a u e = e

pub one_block : 1 ≡ blocks_for (row_count (word empty_base 2) (word empty_base 4))
unfolding blocks_for row_count
one_block = rw (one_row, no_aside)

for_is : (n : ℕ) → (n + 5) / 6 ≡ blocks_for n
unfolding blocks_for
for_is n = refl

-- ---- a file without a fault

module _ (f : List ℕ) (z : (checked_fault f).number ≡ 0) where
  right : (file_length f ≡ true) × ((file_fault f).number ≡ 0)
  right = checked-right f z

  zero_fault : fault 0 (checked_fault f).place ≡ checked_fault f
  unfolding fault
  zero_fault = ap (λ (n : ℕ). fault n (checked_fault f).place) (sym z)

  pub whole : length f ≡ 512 * (length f / 512)
  whole = right-whole f 0 (checked_fault f).place zero_fault refl

  pub few : length f / 512 ≤ 186
  few = omega (arith, right_few f 0 (checked_fault f).place zero_fault refl)

  pub first : 512 ≤ length f
  first = omega (arith, whole, right_some f 0 (checked_fault f).place zero_fault refl)

  pub raised_vector : {v : List ℕ} → v ≡ vector_in (take (512 - 0) (drop 0 f)) → v ≡ vector_of (file_records f)
  unfolding block_at part
  raised_vector e = e ∙ Sab1.vector_right f right.0 right.1

  module _ {total : ℕ} (et : total ≡ records_counted f) where
    pub total_few : total ≤ 512
    total_few = omega (arith, few_of_log f 0 (checked_fault f).place zero_fault refl)

    pub total_inside : total ≤ 6 * (length f / 512)
    total_inside = omega (arith, few_of_file f 0 (checked_fault f).place zero_fault refl)

    pub blocks_enough : (total + 5) / 6 ≤ block_count total
    unfolding block_count
    blocks_enough = omega arith

    length_is : length (file_records f) ≡ total
    unfolding file_records
    length_is = length-file_records f 0 (records_counted f) ∙ sym et

    pub raised_blocks : 1 + (total + 5) / 6 ≡ sab2_blocks empty_base (file_records f)
    unfolding sab2_blocks
    raised_blocks = omega (arith, one_block, for_is total, ap blocks_for length_is)

    pub raised : (a u : ℕ) (v d : List ℕ) {b d₁ d₂ o : List ℕ} → v ≡ vector_of (file_records f) → length d ≡ 95232 → length d₂ ≡ 95232
        → b ≡ run_block letters2 (header_of a u 0 v) (base_rows empty_base) 0 → d₁ ≡ put_at d (512 * 0) b
        → d₂ ≡ put_at d₁ (512 * 1) (run_to letters2 (header_of a u 1 v) (file_records f) ((total + 5) / 6))
        → o ≡ put_at d₂ (512 * (1 + (total + 5) / 6)) (replicate (length d₂ - 512 * (1 + (total + 5) / 6)) 0)
        → o ≡ padded 95232 (sab2_of a u empty_base (file_records f))
    unfolding run_to
    raised a u v d ev long long₂ eb e₁ e₂ e =
        let w : v ≡ vector_on (base_vector empty_base) (file_records f) = ev ∙ sym (rw empty_vector (vector_on-none (file_records f))) in
        let n : (total + 5) / 6 ≡ blocks_for (length (file_records f)) = rw length_is (for_is total) in
        file_whole a u empty_base v d (file_records f) (records_sized f total et total_inside) long one_block n (omega arith) (omega (arith, total_few)) w (e₁ ∙ rw eb) e₂ (rw long₂ at e)

pub raised_as : (f : List ℕ) {a u : ℕ} {o : List ℕ} → a ≡ archive_in (take (512 - 0) (drop 0 f)) → u ≡ sender_in (take (512 - 0) (drop 0 f))
    → o ≡ padded 95232 (sab2_of a u empty_base (file_records f)) → o ≡ padded 95232 (as_sab2 f)
unfolding as_sab2 block_at part
raised_as f ea eu e = e ∙ rw (ea, eu)

-- ---- the ways out

module _ (f lent : List ℕ) where
  pub up_length : (length lent ≡ 95232 → ⊥) → converted 1 0 0 lent ≡ to_sab2_of f lent
  unfolding to_sab2_of or_converted
  up_length h = rw (ne_eqb (length lent) 95232 h)

  module _ (long : length lent ≡ 95232) (m q : ℕ) (e : fault m q ≡ checked_fault f) where
    pub up_refused : (m ≡ 0 → ⊥) → converted m q 0 lent ≡ to_sab2_of f lent
    unfolding to_sab2_of or_converted fault
    up_refused z = rw (eq-eqb (length lent) 95232 long, ← e, ne_eqb m 0 z)

    pub up_done : m ≡ 0 → (k : ℕ) (o : List ℕ) → k ≡ sab2_blocks empty_base (file_records f) → o ≡ padded 95232 (as_sab2 f) → converted 0 0 k o ≡ to_sab2_of f lent
    unfolding to_sab2_of or_converted fault
    up_done z k o ek eo = rw (eq-eqb (length lent) 95232 long, ← e, z, ek, eo)

pub none_faulty : (f : List ℕ) (m q : ℕ) → fault m q ≡ checked_fault f → m ≡ 0 → (checked_fault f).number ≡ 0
unfolding fault
none_faulty f m q e z = sym (ap (λ (x : Fault). x.number) e) ∙ z
