-- What the answers of the checks come to.
-- Assumes nothing.
use Rattle.std.specs.Prelude.{ℕ, List, Option, None, Some, Result, Ok, Err}
use Rattle.refusal.specs.declared.Fault.{Fault}
use Rattle.vector.specs.declared.Vector.{Vector}
use Rattle.read_file_check.specs.Outcome.{records_left}

-- the index found, or the end
abbrev pub or_end : ℕ → Option ℕ → ℕ
or_end n (Some i) = i
or_end n None = n

-- the counts of records without a fault, or those that the pass over records with one leaves
abbrev pub held_left : List ℕ → List ℕ → List ℕ → List ℕ → Result Vector (Fault ℕ) → List ℕ
held_left v f places seens (Ok held) = held.counts
held_left v f places seens (Err fault) = (records_left v f places seens).held
