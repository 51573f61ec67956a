-- What the answer of merging comes to, with the log and the file left.
-- Assumes nothing.
use Rattle.std.specs.Prelude.{ℕ, List, Result, Ok, Err}
use Rattle.model.specs.Numbers.{bad_buffer}
use Rattle.model.specs.Merge.{Merged, merged}
use Rattle.refusal.specs.Refusals.{number_of}
use Rattle.merge.specs.declared.MergeFault.{MergeFault}
use Rattle.merge.specs.declared.MergeFault.TheVariants.{Buffer, First, Second}

-- the number and place of the fault, and the file that has it
abbrev pub fault_told : MergeFault → List ℕ → List ℕ → Merged
fault_told Buffer log file = merged bad_buffer 0 0 0 log file
fault_told (First fault) log file = merged (number_of fault.refusal) fault.place 1 0 log file
fault_told (Second fault) log file = merged (number_of fault.refusal) fault.place 2 0 log file

abbrev pub merge_told : Result ℕ MergeFault → List ℕ → List ℕ → Merged
merge_told (Ok blocks) log file = merged 0 0 0 blocks log file
merge_told (Err fault) log file = fault_told fault log file
