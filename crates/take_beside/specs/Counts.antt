-- What is held behind a record that was judged.
-- Assumes nothing.
use Rattle.std.specs.Prelude.{ℕ, List, Result, Ok, Err}
use Rattle.refusal.specs.declared.Refusal.{Refusal}
use Rattle.take_beside.specs.declared.Counts.{Counts}

-- the counts of the records held; as they were if the record is refused
abbrev pub held_after : List ℕ → Result Counts Refusal → List ℕ
held_after held (Ok counts) = counts.held.counts
held_after held (Err refusal) = held

-- how many they are
abbrev pub used_after : ℕ → Result Counts Refusal → ℕ
used_after used (Ok counts) = counts.used
used_after used (Err refusal) = used
