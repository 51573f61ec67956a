-- Labels byte by byte: what may stand behind a byte.
-- Assumes nothing.
use Rattle.std.specs.Prelude.{ℕ, zero, suc, ◌+◌, Bool, true, not, ◌&&◌, ◌||◌, List, leb, eqb, get_or}

-- y may stand behind x: a zero behind no space, or a byte of hexadecimal 20 to 7E behind no zero
unfoldable pub follows : ℕ → ℕ → Bool
follows x y = (eqb y 0 && not (eqb x 32)) || (not (eqb x 0) && (leb 32 y && leb y 126))

-- each of the n bytes behind a place may stand behind the one before it
unfoldable pub follow_to : List ℕ → ℕ → ℕ → Bool
follow_to t at zero = true
follow_to t at (suc n) = follow_to t at n && follows (get_or t (at + n) 0) (get_or t (at + n + 1) 0)
