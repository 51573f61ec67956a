-- What the answer of reading a file comes to, with the log and the base left.
-- Assumes nothing.
use Rattle.std.specs.Prelude.{ℕ, List, Result, Ok, Err, replicate}
use Rattle.call_model.specs.Read.{ReadBack}
use Rattle.refusal.specs.Refusals.{number_of}
use Rattle.refusal.specs.declared.Fault.{Fault}
use Rattle.read_file_check.specs.Outcome.{read_back_of}
use Rattle.read_file.specs.declared.ReadFile.{ReadFile}

-- a file that is accepted
abbrev pub told_of : ReadFile → List ℕ → List ℕ → ReadBack
told_of r log base = read_back_of 0 0 r.archive r.unit r.records r.vector.counts log base

-- zeros behind number and place of a refusal
abbrev pub read_told : Result ReadFile (Fault ℕ) → List ℕ → List ℕ → ReadBack
read_told (Ok r) log base = told_of r log base
read_told (Err fault) log base = read_back_of (number_of fault.refusal) fault.place 0 0 0 (replicate 8 0) log base
