-- The calls on SAB2 files: what writing and reading answer and leave, and that each undoes the other.
-- Assumes nothing.
use Prim.Native.Nat.{ℕ, suc, ◌-◌, ◌*◌, ◌≤◌}
use native.Mathlib.Omega.{arith}
use mathlib.Core.Path.{◌≡◌, refl, ◌∙◌}
use mathlib.Core.Logic.{◌⊎◌, inl, inr, ⊎_elim}
use mathlib.Core.Bool.{true, false, ◌&&◌}
use mathlib.Core.List.{List}
use lib.Dec.{eqb}
use lib.ListN.{length, take, replicate}
use lib.Seq.{take_at}
use borrow.Author.Tests.{eqb-true, eqb-false, eq-eqb}
use Rattle.model.specs.Bytes.{padded}
use Rattle.model.specs.Record.{Rec}
use Rattle.model.specs.Log.{records_of, log_bytes}
use Rattle.model.specs.Block.{archive_in, sender_in}
use Rattle.model.specs.File.{blocks_in, block_at}
use Rattle.base_model.specs.Base.{base_vector, held_on}
use Rattle.call_model.specs.Outcome.{Outcome, outcome}
use Rattle.call_model.specs.Read.{not_read}
use Rattle.sab2_model.specs.Sab2.{sab2_of, sab2_blocks, sab2_base, sab2_records, checked_sab2, is_sab2, either_fault}
use Rattle.sab2_model.specs.Calls.{wrote_sab2, write_sab2_of, read_sab2, read_either, read_either_of}
use Rattle.byte_slice.proofs.Numbers.{bool_cases}
use Rattle.run_laws.proofs.Again.{Bytes}
use Rattle.call_laws.specs.Keeps.{Good, Keeps, Reads}
use Rattle.call_laws.proofs.States.{sound_back_on}
use Rattle.call_laws.proofs.Calls.{guarded_cases, guarded-passes, guarded-keeps}
use Rattle.call_laws.proofs.Reading.{read_keeps}
use Rattle.sab2_laws.proofs.Forms.{sab1_read, sab2_fault_lem}
use Rattle.sab2_laws.proofs.Written as Written
use Rattle.sab2_laws.proofs.Rewritten as Rewritten

-- ---- writing

module _ (archive u : ℕ) (log base lent : List ℕ) where
  abbrev pub writtenOut : Outcome
  writtenOut = outcome 0 0 log (padded 95232 (sab2_of archive u base (records_of log))) (sab2_blocks base (records_of log))

  -- a good state is written
  pub write_done : length lent ≡ 95232 → u ≤ 7 → Good log base → write_sab2_of archive u log base lent ≡ writtenOut
  unfolding write_sab2_of wrote_sab2
  write_done n k g = guarded-passes u log base lent (eqb (length lent) 95232) writtenOut (eq-eqb (length lent) 95232 n) k g

  -- and nothing else is
  pub write_accepted : (write_sab2_of archive u log base lent).number ≡ 0 → Good log base × (u ≤ 7) × (length lent ≡ 95232) × (write_sab2_of archive u log base lent ≡ writtenOut)
  unfolding write_sab2_of wrote_sab2
  write_accepted z =
      ⊎_elim
      (λ (a, k, g, e). (g, k, eqb-true (length lent) 95232 a, e))
      (λ (n, e). let y : suc n ≡ 0 = rw e at z in absurd (omega arith))
      (guarded_cases u log base lent (eqb (length lent) 95232) writtenOut)

  -- log and base are only read; a refusal leaves the lent bytes
  pub write_keeps : Keeps log base lent (write_sab2_of archive u log base lent)
  unfolding write_sab2_of wrote_sab2
  write_keeps =
      guarded-keeps u log base lent (eqb (length lent) 95232) writtenOut
      (λ _ g. record { accepted = λ _. g; refused = λ z. absurd (z refl) })

-- ---- reading

pub read_accepted : (log base f : List ℕ) → (read_either_of log base f).number ≡ 0 → ((either_fault f).number ≡ 0) × (read_either_of log base f ≡ read_either f)
unfolding read_either_of not_read
read_accepted log base f e =
    ⊎_elim
    (λ (a : (eqb (length log) 40960 && eqb (length base) 43032) ≡ true).
    ⊎_elim
    (λ (c : eqb (either_fault f).number 0 ≡ true). (eqb-true (either_fault f).number 0 c, rw (a, c)))
    (λ (c : eqb (either_fault f).number 0 ≡ false). let z : (either_fault f).number ≡ 0 = rw (a, c) at e in absurd (eqb-false (either_fault f).number 0 c z))
    (bool_cases (eqb (either_fault f).number 0)))
    (λ (a : (eqb (length log) 40960 && eqb (length base) 43032) ≡ false). let z : ◌≡◌ {A = ℕ} 1 0 = rw a at e in absurd (omega arith))
    (bool_cases (eqb (length log) 40960 && eqb (length base) 43032))

read_sab2_lem : (f : List ℕ) → is_sab2 f ≡ true → read_either f ≡ read_sab2 f
unfolding read_either
read_sab2_lem f e = rw e

-- a refusal leaves log and base
read_refused : (log base f : List ℕ) → is_sab2 f ≡ true → ((read_either_of log base f).number ≡ 0 → ⊥) → ((read_either_of log base f).log ≡ log) × ((read_either_of log base f).base ≡ base)
unfolding read_either_of not_read read_either read_sab2
read_refused log base f s z = go (bool_cases (eqb (length log) 40960 && eqb (length base) 43032)) (bool_cases (eqb (either_fault f).number 0))
  where
    go : ((eqb (length log) 40960 && eqb (length base) 43032) ≡ true) ⊎ ((eqb (length log) 40960 && eqb (length base) 43032) ≡ false)
        → (eqb (either_fault f).number 0 ≡ true) ⊎ (eqb (either_fault f).number 0 ≡ false) → ((read_either_of log base f).log ≡ log) × ((read_either_of log base f).base ≡ base)
    go (inr a) c = rw a (refl, refl)
    go (inl a) (inr c) = rw (a, c) (refl, refl)
    go (inl a) (inl c) = absurd (z (rw (a, c, s)))

-- reading leaves a good state, or log and base as they were
pub read_either_keeps : (log base f : List ℕ) → Reads log base (read_either_of log base f)
unfolding read_sab2
read_either_keeps log base f =
    ⊎_elim
    (λ (s : is_sab2 f ≡ true).
    record {
      accepted = λ z.
          let (a, b) = read_accepted log base f z in
          rw (b, read_sab2_lem f s) (Rewritten.state f (rw (sab2_fault_lem f s) at a));
      refused = λ z. read_refused log base f s z;
    })
    (λ (s : is_sab2 f ≡ false). rw (sab1_read log base f s) (read_keeps log base f))
    (bool_cases (is_sab2 f))

-- ---- each undoes the other

-- a state that a call has written reads back, into any lent log and base, as itself
pub call_written_then_read : (archive u : ℕ) (log base lent spare spareBase : List ℕ) → (write_sab2_of archive u log base lent).number ≡ 0 → length spare ≡ 40960 → length spareBase ≡ 43032
    → read_either_of spare spareBase (take (512 * (write_sab2_of archive u log base lent).blocks) (write_sab2_of archive u log base lent).lent)
    ≡ record { number = 0; place = 0; archive = archive; sender = u; records = length (records_of log); vector = held_on log base; log = log; base = base }
unfolding padded
call_written_then_read archive u log base lent spare spareBase z n m =
    let (g, k, _, e) = write_accepted archive u log base lent z in
    let f : List ℕ = sab2_of archive u base (records_of log) in
    rw (e, take_at f (replicate (95232 - length f) 0) (512 * sab2_blocks base (records_of log)) (Written.state_bytes archive u log base g k)) (Written.read_is archive u log base g k spare spareBase n m)

-- what a call has read from an SAB2 file, written again under the file's archive and unit, gives the file, and zeros behind it
pub call_read_then_written : (spare spareBase f lent : List ℕ) → Bytes f → is_sab2 f ≡ true → (read_either_of spare spareBase f).number ≡ 0 → length lent ≡ 95232
    → write_sab2_of (read_either_of spare spareBase f).archive (read_either_of spare spareBase f).sender (read_either_of spare spareBase f).log (read_either_of spare spareBase f).base lent
    ≡ outcome 0 0 (read_either_of spare spareBase f).log (padded 95232 f) (blocks_in f)
unfolding read_sab2
call_read_then_written spare spareBase f lent g s z n =
    let (a, b) = read_accepted spare spareBase f z in
    let c : (checked_sab2 f).number ≡ 0 = rw (sab2_fault_lem f s) at a in
    let l : List Rec = sab2_records f in
    let r : records_of (log_bytes l) ≡ l = sound_back_on (base_vector (sab2_base f)) l (Rewritten.records_sound f c) (Rewritten.records_few f c) in
    rw (b, read_sab2_lem f s)
    (write_done (archive_in (block_at f 0)) (sender_in (block_at f 0)) (log_bytes l) (sab2_base f) lent n (Rewritten.sender_right f c) (Rewritten.state f c)
    ∙ rw (r, Rewritten.file_again f c g, Rewritten.blocks_again f c))
