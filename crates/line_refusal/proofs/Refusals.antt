-- The parts of a refusal.
-- Assumes nothing.
use Prim.Native.Nat.{ℕ}
use mathlib.Core.Path.{refl}
use mathlib.Core.List.{[], ◌∷◌}
use Rattle.model.specs.Listing.{refused_word, at_word, decimal, refused_line}
use Rattle.line_text.proofs.Chains.{InThree}
use Rattle.line_refusal.specs.Parts.{refused_place}

pub place_is : (p : ℕ) → InThree (refused_place p) at_word (decimal p) (10 ∷ [])
unfolding refused_place
place_is p = record { parts = refl }

pub refusal_is : (n p : ℕ) → InThree (refused_line n p) refused_word (decimal n) (refused_place p)
unfolding refused_line refused_place
refusal_is n p = record { parts = refl }
