-- The listing and the two forms: an SAB1 file is listed as before, and the SAB2 file that it becomes alike.
-- Assumes nothing.
use Prim.Native.Nat.{ℕ}
use mathlib.Core.Path.{◌≡◌, refl, sym, ap, ◌∙◌}
use mathlib.Core.Bool.{true, false}
use mathlib.Core.List.{List}
use lib.ListN.{length, replicate, length-replicate}
use borrow.Author.Tests.{eq-eqb}
use Rattle.model.specs.File.{fault, checked_fault}
use Rattle.model.specs.Listing.{listing_of}
use Rattle.call_model.specs.Read.{ReadBack}
use Rattle.sab2_model.specs.Sab2.{is_sab2, either_fault}
use Rattle.sab2_model.specs.Calls.{as_sab2, read_either, read_either_of, either_listing}
use Rattle.sab2_laws.specs.Listed.{state_lines}
use Rattle.sab2_laws.proofs.Forms.{sab1_fault, sab2_fault_lem}
use Rattle.sab2_laws.proofs.Ways.{is_sab1, up_chosen, up_faultless, up_reads}
use Rattle.sab2_laws.proofs.Listing.{listed}

-- a file that does not begin with SAB2 is listed as document 01 says
pub sab1_listing : (f : List ℕ) → is_sab2 f ≡ false → either_listing f ≡ listing_of f
unfolding either_listing either_fault listing_of
sab1_listing f s = rw s

read_right : (log base f : List ℕ) → length log ≡ 40960 → length base ≡ 43032 → (either_fault f).number ≡ 0 → read_either_of log base f ≡ read_either f
unfolding read_either_of
read_right log base f a b e = rw (eq-eqb (length log) 40960 a, eq-eqb (length base) 43032 b, eq-eqb (either_fault f).number 0 e)

-- an SAB1 file as SAB2 has the same listing
pub converted_listing : (f : List ℕ) → (checked_fault f).number ≡ 0 → either_listing (as_sab2 f) ≡ either_listing f
unfolding fault
converted_listing f e =
    let log : List ℕ = replicate 40960 0 in
    let base : List ℕ = replicate 43032 0 in
    let m : length log ≡ 40960 = length-replicate {A = ℕ} 40960 0 in
    let n : length base ≡ 43032 = length-replicate {A = ℕ} 43032 0 in
    let one : (either_fault f).number ≡ 0 = rw (sab1_fault f (is_sab1 f e)) e in
    let two : (either_fault (as_sab2 f)).number ≡ 0 = rw (sab2_fault_lem (as_sab2 f) (up_chosen f e), up_faultless f e) in
    let same : read_either (as_sab2 f) ≡ read_either f =
    sym (read_right log base (as_sab2 f) m n two) ∙ up_reads f e log base m n ∙ read_right log base f m n one in
    (listed (as_sab2 f) two).lines
    ∙ ap (λ (x : ReadBack). state_lines x.archive x.sender x.log x.base) same
    ∙ sym (listed f one).lines
