-- A file that is accepted holds sound records, and reading it leaves a sound log and an empty base; a refused one leaves both as they were.
-- Assumes nothing.
use Prim.Native.Nat.{ℕ, ◌≤◌}
use native.Mathlib.Omega.{arith}
use mathlib.Core.Path.{◌≡◌, refl}
use mathlib.Core.Logic.{◌⊎◌, inl, inr}
use mathlib.Core.Bool.{Bool, true, false, ◌&&◌}
use mathlib.Core.List.{List, []}
use lib.Dec.{eqb}
use lib.ListN.{length}
use borrow.Author.Tests.{eqb-true, eqb-false}
use Rattle.model.specs.Log.{no_counts, sound_after}
use Rattle.model.specs.File.{file_length, fault, blocks_in, blocks_fault, file_records, records_fault, counts_fault, or_else, file_fault, checked_fault}
use Rattle.call_model.specs.Read.{not_read, read_back, read_of}
use Rattle.byte_slice.proofs.Numbers.{bool_cases}
use Rattle.log_laws.proofs.Tests.{sound_means}
use Rattle.held_laws.proofs.Records.{faultless_sound, records_sab1}
pub use Rattle.held_laws.proofs.Held.{no_fault}
use Rattle.call_laws.specs.Keeps.{Reads}
use Rattle.call_laws.proofs.States.{fresh_good}

pub file_records_lem : (f : List ℕ) → (file_fault f).number ≡ 0 → (sound_after no_counts [] (file_records f) ≡ true) × (length (file_records f) ≤ 512)
unfolding file_fault
file_records_lem f e =
    let (_, d) = no_fault (blocks_fault f 0 (blocks_in f)) (or_else (records_fault [] 0 (file_records f)) (counts_fault f)) e in
    let (c, _) = no_fault (records_fault [] 0 (file_records f)) (counts_fault f) d in
    let (a, b, _) = faultless_sound 255 no_counts 0 (file_records f) [] 0 (omega arith) (rw (records_sab1 (file_records f) [] 0) at c) in
    (a, omega arith)

-- a file that was checked and found right has 1 to 86 blocks and no fault
pub checked-right : (f : List ℕ) → (checked_fault f).number ≡ 0 → (file_length f ≡ true) × ((file_fault f).number ≡ 0)
unfolding fault
checked-right f e = go (bool_cases (file_length f))
  where
    go : (file_length f ≡ true) ⊎ (file_length f ≡ false) → (file_length f ≡ true) × ((file_fault f).number ≡ 0)
    go (inl a) = (a, rw a at e)
    go (inr a) = let z : ◌≡◌ {A = ℕ} 2 0 = rw a at e in absurd (omega arith)

pub read_keeps : (log base f : List ℕ) → Reads log base (read_of log base f)
unfolding read_of read_back not_read
read_keeps log base f = go (bool_cases fits) (bool_cases (eqb (checked_fault f).number 0))
  where
    fits : Bool
    fits = eqb (length log) 40960 && eqb (length base) 43032

    go : (fits ≡ true) ⊎ (fits ≡ false) → (eqb (checked_fault f).number 0 ≡ true) ⊎ (eqb (checked_fault f).number 0 ≡ false) → Reads log base (read_of log base f)
    go (inl a) (inl c) =
        let (h, k) = file_records_lem f (checked-right f (eqb-true (checked_fault f).number 0 c)).1 in
        rw (a, c) (record { accepted = λ _. fresh_good (file_records f) (sound_means (file_records f) h) k; refused = λ z. absurd (z refl) })
    go (inl a) (inr c) = rw (a, c) (record { accepted = λ z. absurd (eqb-false (checked_fault f).number 0 c z); refused = λ _. (refl, refl) })
    go (inr a) c = rw a (record { accepted = λ z. absurd (omega arith); refused = λ _. (refl, refl) })
