-- What each way out of a call returns and leaves, over plain values.
-- Assumes nothing.
use Prim.Native.Nat.{ℕ}
use native.Mathlib.Omega.{arith}
use mathlib.Core.Path.{◌≡◌, refl, ◌∙◌}
use mathlib.Core.List.{List}
use lib.Dec.{eqb}
use lib.ListN.{length}
use borrow.Author.Tests.{eq-eqb, ne_eqb}
use Rattle.model.specs.Log.{records_of}
use Rattle.call_model.specs.Outcome.{outcome, write_of}
use Rattle.sab2_model.specs.Calls.{wrote_sab2, write_sab2_of, read_either_of}
use Rattle.read_file_check.specs.Outcome.{read_back_of}
use Rattle.std.specs.Prelude.{Result, Ok, Err}
use Rattle.refusal.specs.declared.Refusal.{Refusal}
use Rattle.refusal.proofs.Refusals.{not_zero}
use Rattle.sab2_check.specs.Told.{number_told}
use Rattle.sab2_check.specs.declared.FileFault.{FileFault}
use Rattle.sab2_check.specs.declared.FileFault.TheVariants.{Block, Base}
use Rattle.write_file.specs.Told.{blocks_of}
use Rattle.sab_words.specs.Answers.{count_of}
use Rattle.sab_words.specs.Words.{packed, narrowed, head_of}
use Rattle.sab_words.specs.Called.{called, told}
use Rattle.sab_words.proofs.Told.{tells_blocks}
use Rattle.sab_words.proofs.Units.{guarded-alike, write_alike}
use Rattle.sab_file.specs.Loaded.{loaded, head_left, loaded_of}

-- ---- writing a file

-- the count in the word is that of the call
pub same_blocks : (r : Result ℕ Refusal) → count_of r ≡ blocks_of r
same_blocks (Ok blocks) = refl
same_blocks (Err refusal) = refl

pub writes : (archive u : ℕ) {v r n p k j : ℕ} (log base lent : List ℕ) {lent' : List ℕ} → v ≡ narrowed u → outcome n p log lent' k ≡ write_of archive v log base lent → j ≡ k → r ≡ packed n p j
    → called r log lent' ≡ told (write_of archive u log base lent)
writes archive u log base lent given e h w = tells_blocks (e ∙ rw given (write_alike u log base archive lent)) h w

-- a unit above 7 is refused as it is narrowed
sab2_alike : (archive u : ℕ) (log base lent : List ℕ) → write_sab2_of archive (narrowed u) log base lent ≡ write_sab2_of archive u log base lent
unfolding write_sab2_of
sab2_alike archive u log base lent =
    guarded-alike u log base lent (eqb (length lent) 95232) (λ v. wrote_sab2 archive v log base (records_of log))

pub writes_sab2 : (archive u : ℕ) {v r n p k j : ℕ} (log base lent : List ℕ) {lent' : List ℕ} → v ≡ narrowed u → outcome n p log lent' k ≡ write_sab2_of archive v log base lent → j ≡ k → r ≡ packed n p j
    → called r log lent' ≡ told (write_sab2_of archive u log base lent)
writes_sab2 archive u log base lent given e h w = tells_blocks (e ∙ rw given (sab2_alike archive u log base lent)) h w

-- ---- reading a file

-- no fault of a file has the number of success
pub fault_number : (f : FileFault) → number_told f ≡ 0 → ⊥
fault_number (Block fault) = not_zero fault.refusal
fault_number Base = λ z. omega arith

module _ {r : ℕ} (log base f head : List ℕ) where
  pub head_wrong : (length head ≡ 24 → ⊥) → r ≡ packed 1 0 0 → loaded r log base head ≡ loaded_of log base f head
  unfolding loaded_of
  head_wrong a w = rw (ne_eqb (length head) 24 a, w)

  module _ {n p a u k : ℕ} {v log' base' : List ℕ} (full : length head ≡ 24) (back : read_back_of n p a u k v log' base' ≡ read_either_of log base f) (w : r ≡ packed n p k) where
    pub loads_not : (n ≡ 0 → ⊥) → loaded r log' base' head ≡ loaded_of log base f head
    unfolding loaded_of head_left
    loads_not e = rw (eq-eqb (length head) 24 full, ← back, ne_eqb n 0 e, w)

    pub loads : {head' : List ℕ} → n ≡ 0 → head' ≡ head_of a u k v → loaded r log' base' head' ≡ loaded_of log base f head
    unfolding loaded_of head_left
    loads e h = rw (eq-eqb (length head) 24 full, ← back, eq-eqb n 0 e, w, h)
