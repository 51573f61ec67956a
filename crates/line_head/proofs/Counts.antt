-- The counts of a vector.
-- Assumes nothing.
use Prim.Native.Nat.{ℕ}
use mathlib.Core.Path.{◌≡◌, refl}
use mathlib.Core.List.{List, [], ◌∷◌, ◌++◌, append_assoc, append-nil}
use Rattle.model.specs.Listing.{decimal, counts_text}
use Rattle.line_text.proofs.Chains.{InTwo}

-- ---- a count

pub count_is : (c : ℕ) → InTwo (counts_text (c ∷ [])) (32 ∷ []) (decimal c)
unfolding counts_text
count_is c = record { parts = rw (append-nil (decimal c)) }

pub counts-append : (s t : List ℕ) → counts_text (s ++ t) ≡ counts_text s ++ counts_text t
unfolding counts_text
counts-append [] t = refl
counts-append (c ∷ s) t = rw (counts-append s t, append_assoc (decimal c) (counts_text s) (counts_text t))
