-- What is known of the records before, once one more was judged.
-- Assumes nothing.
use Rattle.std.specs.Prelude.{Result, Ok, Err}
use Rattle.refusal.specs.declared.Refusal.{Refusal}
use Rattle.log_admit.specs.declared.Before.{Before}

-- with the record, or as it was if the record is refused
abbrev pub known_after : Before → Result Before Refusal → Before
known_after before (Ok after) = after
known_after before (Err refusal) = before
