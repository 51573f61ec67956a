-- Bytes in hexadecimal: the two digits of a byte, and one byte behind another.
-- Assumes nothing.
use Prim.Native.Nat.{ℕ, ◌+◌, ◌/◌, ◌%◌, ◌≤◌, ◌<◌}
use mathlib.Core.Path.{◌≡◌, refl}
use mathlib.Core.List.{List, [], ◌∷◌, ◌++◌}
use borrow.Author.Tests.{lt-ltb, le-ltb}
use Rattle.model.specs.Listing.{hex_digit, hex_text}
use Rattle.line_text.specs.Written.{Wrote}

pub hex_low : (n : ℕ) → n < 10 → 48 + n ≡ hex_digit n
unfolding hex_digit
hex_low n h = rw (lt-ltb n 10 h)

pub hex_high : (n : ℕ) → 10 ≤ n → 87 + n ≡ hex_digit n
unfolding hex_digit
hex_high n h = rw (le-ltb n 10 h)

pub hex_byte : {a b : List ℕ} {at r : ℕ} (x u v : ℕ) → u ≡ hex_digit (x / 16) → v ≡ hex_digit (x % 16) → Wrote a b at r (u ∷ v ∷ []) → Wrote a b at r (hex_text (x ∷ []))
unfolding hex_text
hex_byte x u v e f w = rw (← e, ← f) w

pub hex_append : (s t : List ℕ) → hex_text (s ++ t) ≡ hex_text s ++ hex_text t
unfolding hex_text
hex_append [] t = refl
hex_append (x ∷ s) t = rw (hex_append s t)
