-- What the answer of reading a file of either form comes to, with the log and the base left.
-- Assumes nothing.
use Rattle.std.specs.Prelude.{ℕ, List, Result, Ok, Err, replicate}
use Rattle.call_model.specs.Read.{ReadBack}
use Rattle.read_file_check.specs.Outcome.{read_back_of}
use Rattle.read_file.specs.declared.ReadFile.{ReadFile}
use Rattle.read_file.specs.Told.{told_of}
use Rattle.sab2_check.specs.Told.{number_told, place_told}
use Rattle.sab2_check.specs.declared.FileFault.{FileFault}

-- zeros behind number and place of a refusal
abbrev pub either_told : Result ReadFile FileFault → List ℕ → List ℕ → ReadBack
either_told (Ok r) log base = told_of r log base
either_told (Err fault) log base = read_back_of (number_told fault) (place_told fault) 0 0 0 (replicate 8 0) log base
