-- Bytes, and the numbers that they spell. All numbers are little-endian.
-- Document 01, "The 80-byte record".
-- Assumes nothing.
use Rattle.std.specs.Prelude.{ℕ, zero, suc, ◌+◌, ◌-◌, ◌*◌, ◌/◌, ◌%◌, Bool, true, false, ◌&&◌, List, [], ◌∷◌, ◌++◌, eqb, get_or, length, take, drop, replicate}

-- the 16-bit number at a place [F1]
unfoldable pub word : List ℕ → ℕ → ℕ
word b i = get_or b i 0 + 256 * get_or b (i + 1) 0

-- the two bytes of a 16-bit number
abbrev pub two : ℕ → List ℕ
two n = n % 256 ∷ n / 256 ∷ []

-- the four bytes of a 32-bit number
abbrev pub four : ℕ → List ℕ
four n = n % 256 ∷ n / 256 % 256 ∷ n / 65536 % 256 ∷ n / 16777216 ∷ []

-- the 32-bit number at a place
unfoldable pub long : List ℕ → ℕ → ℕ
long b i = word b i + 65536 * word b (i + 2)

-- every byte is zero
unfoldable pub blank : List ℕ → Bool
blank [] = true
blank (x ∷ b) = eqb x 0 && blank b

-- the same bytes
unfoldable pub same_bytes : List ℕ → List ℕ → Bool
same_bytes [] [] = true
same_bytes [] (y ∷ b) = false
same_bytes (x ∷ a) [] = false
same_bytes (x ∷ a) (y ∷ b) = eqb x y && same_bytes a b

-- n bytes from a place on [F2]
unfoldable pub part : List ℕ → ℕ → ℕ → List ℕ
part b at n = take n (drop at b)

-- d with the bytes s in the place of as many from a place on
unfoldable pub put_at : List ℕ → ℕ → List ℕ → List ℕ
put_at d at s = take at d ++ (s ++ drop (at + length s) d)

-- s, and zeros behind it up to n bytes
unfoldable pub padded : ℕ → List ℕ → List ℕ
padded n s = s ++ replicate (n - length s) 0

-- lists laid end to end
unfoldable pub joined : List (List ℕ) → List ℕ
joined [] = []
joined (b ∷ l) = b ++ joined l
