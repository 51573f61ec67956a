-- What each way out of a call returns and leaves, over plain values.
-- Assumes nothing.
use Prim.Native.Nat.{ℕ}
use mathlib.Core.Path.{◌≡◌, ◌∙◌}
use mathlib.Core.List.{List}
use lib.ListN.{length}
use borrow.Author.Tests.{eq-eqb, ne_eqb}
use Rattle.model.specs.Vector.{vector_at}
use Rattle.call_model.specs.Outcome.{outcome, hand_of}
use Rattle.index_model.specs.Kept.{kept, take_kept, take_kept_work}
use Rattle.sab_words.specs.Words.{packed, narrowed}
use Rattle.sab_words.specs.Called.{called, called_both, wrong_buffer}
use Rattle.sab_words.proofs.Told.{tells}
use Rattle.sab_words.proofs.Units.{hand_alike}
use Rattle.sab_index.specs.Told.{told_kept}
use Rattle.sab_index.proofs.Alike.{take_kept_alike, take_kept_work_alike, tells_kept}
use Rattle.sab_block.specs.Handed.{handed_of}

-- ---- handing out

module _ (archive u : ℕ) {r : ℕ} (log base asked lent : List ℕ) where
  pub asks_wrong : (length asked ≡ 16 → ⊥) → r ≡ packed 1 0 0 → called r log lent ≡ handed_of archive u log base asked lent
  unfolding handed_of wrong_buffer
  asks_wrong a w = rw (ne_eqb (length asked) 16 a, w)

  pub hands : {n p m : ℕ} (v : List ℕ) {lent' : List ℕ} → length asked ≡ 16 → v ≡ vector_at asked 0 → m ≡ narrowed u → outcome n p log lent' 0 ≡ hand_of archive m log base v lent → r ≡ packed n p 0
      → called r log lent' ≡ handed_of archive u log base asked lent
  unfolding handed_of
  hands v a h given e w = rw (eq-eqb (length asked) 16 a, ← h) (tells (e ∙ rw given (hand_alike u log base archive v lent)) w)

-- ---- taking

pub takes : (archive u : ℕ) {v r n p : ℕ} (log base i b work : List ℕ) {log' j lent work' : List ℕ} → v ≡ narrowed u → r ≡ packed n p 0 → kept n p log' j lent ≡ take_kept archive v log base i b work
    → work' ≡ take_kept_work archive v log base i b work
    → called_both r log' j work' ≡ told_kept (take_kept archive u log base i b work) (take_kept_work archive u log base i b work)
takes archive u log base i b work given w e h =
    tells_kept (e ∙ rw given (take_kept_alike u log base i archive b work)) (h ∙ rw given (take_kept_work_alike u log base i archive b work)) w
