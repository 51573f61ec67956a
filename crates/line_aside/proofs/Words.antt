-- Words that depend on bytes of an aside row: which is written.
-- Assumes nothing.
use Prim.Native.Nat.{ℕ}
use mathlib.Core.Path.{◌≡◌}
use mathlib.Core.Bool.{Bool, true, false}
use mathlib.Core.List.{List, [], ◌∷◌}
use borrow.Author.Tests.{eq-eqb, ne_eqb}
use Rattle.model.specs.Bytes.{blank}
use Rattle.model.specs.Listing.{open_word, settled_word, identity_text, marked_text, state_text}

pub none_is : (b : List ℕ) {t : Bool} → t ≡ blank b → t ≡ true → marked_text b ≡ 45 ∷ []
unfolding marked_text
none_is b e f = rw (← e, f)

pub marked_is : (b : List ℕ) {t : Bool} → t ≡ blank b → t ≡ false → marked_text b ≡ identity_text b
unfolding marked_text
marked_is b e f = rw (← e, f)

pub open_is : (s : ℕ) → s ≡ 1 → state_text s ≡ open_word
unfolding state_text
open_is s e = rw (eq-eqb s 1 e)

pub settled_is : (s : ℕ) → (s ≡ 1 → ⊥) → state_text s ≡ settled_word
unfolding state_text
settled_is s e = rw (ne_eqb s 1 e)
