-- What the answers of the checks come to.
-- Assumes nothing.
use Rattle.std.specs.Prelude.{ℕ, true, false, List, Result, Ok, Err, replicate}
use Rattle.refusal.specs.Refusals.{fault_code, fault_place}
use Rattle.refusal.specs.declared.Fault.{Fault}
use Rattle.vector.specs.declared.Vector.{Vector}
use Rattle.log_check.specs.declared.Checked.{Checked}
use Rattle.log_check.specs.InOrder.{Scan, scanned, Check, checked}

-- the base vector with the records counted, zeros if one has a fault
abbrev pub held_in : Result Vector (Fault ℕ) → List ℕ
held_in (Ok held) = held.counts
held_in (Err fault) = replicate 8 0

-- what a pass over records leaves
abbrev pub scan_told : Result Vector (Fault ℕ) → List ℕ → List ℕ → Scan
scan_told answer places seens = scanned (fault_code answer) (fault_place answer) (held_in answer) places seens

-- what is known of a log that was checked, sound or not
abbrev pub told_in : Result Checked Checked → Checked
told_in (Ok told) = told
told_in (Err told) = told

-- what checking a log leaves
abbrev pub check_told : Result Checked Checked → List ℕ → List ℕ → Check
check_told (Ok told) places seens = checked true told.used told.held.counts places seens
check_told (Err told) places seens = checked false told.used told.held.counts places seens
