-- What each way out of a call returns and leaves, over plain values.
-- Assumes nothing.
use Prim.Native.Nat.{ℕ, ◌+◌, ◌*◌}
use mathlib.Core.Path.{◌≡◌, refl, ◌∙◌}
use mathlib.Core.Logic.{⊎_elim}
use mathlib.Core.List.{List}
use lib.Dec.{eqb}
use lib.ListN.{length}
use borrow.Author.Tests.{eq-eqb, ne_eqb}
use Rattle.model.specs.Vector.{vector_at}
use Rattle.call_model.specs.Outcome.{outcome}
use Rattle.row_model.specs.Row.{row_fits, trial, trial_lent, try_of, handed_row, hand_row_of}
use Rattle.index_model.specs.Kept.{row_kept, take_row_kept, take_row_kept_work}
use Rattle.std.specs.Prelude.{Result, Ok, Err}
use Rattle.refusal.specs.declared.Refusal.{Refusal}
use Rattle.write_file.specs.Told.{blocks_of}
use Rattle.sab_words.specs.Answers.{count_of}
use Rattle.sab_words.specs.Words.{packed, narrowed}
use Rattle.sab_words.specs.Called.{called, called_both, wrong_buffer}
use Rattle.sab_words.proofs.Told.{tells_blocks}
use Rattle.sab_words.proofs.Units.{guard_alike, guarded-alike}
use Rattle.sab_index.specs.Told.{told_row_kept}
use Rattle.sab_index.proofs.Alike.{row_kept_alike, row_kept_work_alike, tells_row}
use Rattle.sab_row.specs.Rows.{row_handed_of, tried_call, told_trial, row_tried_of}

-- ---- units above 7 are alike

try_alike : (archive u : ℕ) (log base row copy tree report : List ℕ) → try_of archive (narrowed u) log base row copy tree report ≡ try_of archive u log base row copy tree report
unfolding try_of
try_alike archive u log base row copy tree report =
    let (a, b) = guard_alike u log base (trial_lent copy tree report) (row_fits (length row)) in
    ⊎_elim (λ n. rw n) (λ (k, q). rw (a, q)) b

hand_row_alike : (archive u : ℕ) (log base v lent : List ℕ) → hand_row_of archive (narrowed u) log base v lent ≡ hand_row_of archive u log base v lent
unfolding hand_row_of
hand_row_alike archive u log base v lent = guarded-alike u log base lent (eqb (length lent) 44032) (λ n. handed_row archive n log base v lent)

-- ---- handing out

-- the count in the word is that of the call
pub same_blocks : (r : Result ℕ Refusal) → count_of r ≡ blocks_of r
same_blocks (Ok blocks) = refl
same_blocks (Err refusal) = refl

module _ (archive u : ℕ) {r : ℕ} (log base asked lent : List ℕ) where
  pub asks_wrong : (length asked ≡ 16 → ⊥) → r ≡ packed 1 0 0 → called r log lent ≡ row_handed_of archive u log base asked lent
  unfolding row_handed_of wrong_buffer
  asks_wrong a w = rw (ne_eqb (length asked) 16 a, w)

  pub hands : {n p k j m : ℕ} (v : List ℕ) {lent' : List ℕ} → length asked ≡ 16 → v ≡ vector_at asked 0 → m ≡ narrowed u → outcome n p log lent' k ≡ hand_row_of archive m log base v lent → j ≡ k → r ≡ packed n p j
      → called r log lent' ≡ row_handed_of archive u log base asked lent
  unfolding row_handed_of
  hands v a h given e i w = rw (eq-eqb (length asked) 16 a, ← h) (tells_blocks (e ∙ rw given (hand_row_alike archive u log base v lent)) i w)

-- ---- taking and trying

pub takes : (archive u : ℕ) {v r n p k s m : ℕ} (log base i row work : List ℕ) {log' j work' : List ℕ} → v ≡ narrowed u → row_kept n p k s log' j ≡ take_row_kept archive v log base i row work
    → work' ≡ take_row_kept_work archive v log base i row work
    → m ≡ k + 256 * s
    → r ≡ packed n p m
    → called_both r log' j work' ≡ told_row_kept (take_row_kept archive u log base i row work) (take_row_kept_work archive u log base i row work)
takes archive u log base i row work given e h a w =
    tells_row (e ∙ rw given (row_kept_alike u log base i archive row work)) (h ∙ rw given (row_kept_work_alike u log base i archive row work)) refl refl (w ∙ rw a)

pub tries : (archive u : ℕ) {v r n p : ℕ} (log base row copy tree report : List ℕ) {copy' tree' report' : List ℕ} → v ≡ narrowed u → trial n p copy' tree' report' ≡ try_of archive v log base row copy tree report → r ≡ packed n p 0
    → tried_call r copy' tree' report' ≡ row_tried_of archive u log base row copy tree report
unfolding row_tried_of told_trial
tries archive u log base row copy tree report given e w = rw (← try_alike archive u log base row copy tree report, ← given, ← e, w)
