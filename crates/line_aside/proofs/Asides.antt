-- The parts of an aside line.
-- Assumes nothing.
use Prim.Native.Nat.{ℕ}
use mathlib.Core.Path.{refl}
use mathlib.Core.List.{List, [], ◌∷◌}
use lib.ListN.{get_or}
use Rattle.model.specs.Bytes.{part}
use Rattle.model.specs.Listing.{aside_word, reason_word, marks_word, decimal, identity_text, marked_text, state_text, aside_line}
use Rattle.line_text.proofs.Chains.{InThree, InFour}
use Rattle.line_aside.specs.Parts.{aside_reason, aside_marks}

pub marks_is : (row : List ℕ) → InFour (aside_marks row) marks_word (marked_text (part row 8 4)) (state_text (get_or row 5 0)) (10 ∷ [])
unfolding aside_marks
marks_is row = record { parts = refl }

pub reason_is : (row : List ℕ) → InThree (aside_reason row) reason_word (decimal (get_or row 4 0)) (aside_marks row)
unfolding aside_reason
reason_is row = record { parts = refl }

pub aside_is : (row : List ℕ) → InThree (aside_line row) aside_word (identity_text (part row 0 4)) (aside_reason row)
unfolding aside_line aside_reason aside_marks
aside_is row = record { parts = refl }
