-- What the types of the entry points can hold: bytes, a unit and a list of 8 bits, a vector of eight 16-bit counts, slices that fit memory.
-- Assumes nothing.
use Rattle.std.specs.Prelude.{ℕ, Bool, true, ◌&&◌, List, [], ◌∷◌, ltb, eqb, length}
use Rattle.machine.specs.Machine.{Call, starts, acts, hands_out, writes, takes, folds}

-- every number of a list is below n
unfoldable pub all_below : ℕ → List ℕ → Bool
all_below n [] = true
all_below n (x ∷ l) = ltb x n && all_below n l

-- a slice of bytes
unfoldable pub is_slice : List ℕ → Bool
is_slice b = all_below 256 b && ltb (length b) 9223372036854775808

-- eight counts
unfoldable pub is_vector : List ℕ → Bool
is_vector v = all_below 65536 v && eqb (length v) 8

-- what a caller can ask for
unfoldable pub callable : Call → Bool
callable (starts u) = ltb u 256
callable (acts u w work) = ltb u 256 && (is_slice w && is_slice work)
callable (hands_out u v lent) = ltb u 256 && (is_vector v && is_slice lent)
callable (writes u lent) = ltb u 256 && is_slice lent
callable (takes u n) = ltb u 256
callable (folds u m work) = ltb u 256 && (ltb m 256 && is_slice work)

unfoldable pub all_callable : List Call → Bool
all_callable [] = true
all_callable (c ∷ cs) = callable c && all_callable cs
