-- What stops a row.
-- Assumes nothing.
use Rattle.std.specs.Prelude.{ℕ, ◌≤◌, ◌≡◌, ◌⊎◌}

-- a number with which a whole block is refused by a sound state: 3 to 11, 26 for a unit that is not listed, 27 for a record below the base
abbrev pub Halt : ℕ → Type 0
Halt n = ((3 ≤ n) × (n ≤ 11)) ⊎ ((n ≡ 26) ⊎ (n ≡ 27))

-- none or such a number, so none of 1, 2, 19 and 21
abbrev pub Stop : ℕ → Type 0
Stop n = (n ≡ 0) ⊎ Halt n
