-- The reason and the mark of an answer: 0 and 0 of one that fits.
-- Assumes nothing.
use Rattle.std.specs.Prelude.{ℕ, Result, Ok, Err}
use Rattle.refusal.specs.Refusals.{number_of}
use Rattle.tree_judge.specs.declared.Aside.{Aside}

-- the number of the reason, 0 of a record that fits
abbrev pub aside_code : {T : Type 0} → Result T Aside → ℕ
aside_code (Ok value) = 0
aside_code (Err a) = number_of a.reason

-- the entry that is marked, 0 for none
abbrev pub aside_marked : {T : Type 0} → Result T Aside → ℕ
aside_marked (Ok value) = 0
aside_marked (Err a) = a.marked
