-- Words that depend on a byte of an entry row: which is written.
-- Assumes nothing.
use Prim.Native.Nat.{ℕ}
use mathlib.Core.Path.{◌≡◌}
use mathlib.Core.List.{List, [], ◌∷◌}
use borrow.Author.Tests.{eq-eqb, ne_eqb}
use Rattle.model.specs.Listing.{folder_word, trace_word, disputed_word, hex_text, kind_text, mark_text, disputed_text}
use Rattle.line_text.proofs.Chains.{InTwo}

pub folder_is : (k : ℕ) → k ≡ 1 → kind_text k ≡ folder_word
unfolding kind_text
folder_is k e = rw (eq-eqb k 1 e)

pub trace_is : (k : ℕ) → (k ≡ 1 → ⊥) → kind_text k ≡ trace_word
unfolding kind_text
trace_is k e = rw (ne_eqb k 1 e)

pub unmarked_is : (k : ℕ) (b : List ℕ) → k ≡ 1 → mark_text k b ≡ []
unfolding mark_text
unmarked_is k b e = rw (eq-eqb k 1 e)

pub mark_is : (k : ℕ) (b : List ℕ) → (k ≡ 1 → ⊥) → InTwo (mark_text k b) (32 ∷ []) (hex_text b)
unfolding mark_text
mark_is k b e = record { parts = rw (ne_eqb k 1 e) }

pub disputed_is : (d : ℕ) → d ≡ 1 → disputed_text d ≡ disputed_word
unfolding disputed_text
disputed_is d e = rw (eq-eqb d 1 e)

pub agreed_is : (d : ℕ) → (d ≡ 1 → ⊥) → disputed_text d ≡ []
unfolding disputed_text
agreed_is d e = rw (ne_eqb d 1 e)
