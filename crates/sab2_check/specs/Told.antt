-- The number and place that the fault of a file comes to, and those of an answer: 0 of success.
-- Assumes nothing.
use Rattle.std.specs.Prelude.{ℕ, Result, Ok, Err}
use Rattle.sab2_model.specs.Sab2.{bad_base}
use Rattle.refusal.specs.Refusals.{number_of}
use Rattle.sab2_check.specs.declared.FileFault.{FileFault}
use Rattle.sab2_check.specs.declared.FileFault.TheVariants.{Block, Base}

-- the number in the refusal table
abbrev pub number_told : FileFault → ℕ
number_told (Block fault) = number_of fault.refusal
number_told Base = bad_base

abbrev pub place_told : FileFault → ℕ
place_told (Block fault) = fault.place
place_told Base = 0

abbrev pub file_code : {T : Type 0} → Result T FileFault → ℕ
file_code (Ok value) = 0
file_code (Err fault) = number_told fault

abbrev pub file_place : {T : Type 0} → Result T FileFault → ℕ
file_place (Ok value) = 0
file_place (Err fault) = place_told fault
