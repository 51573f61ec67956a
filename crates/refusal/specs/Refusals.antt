-- The numbers of refusals, and the number and place that an answer comes to: 0 if it is no refusal.
-- Assumes nothing.
use Rattle.std.specs.Prelude.{ℕ, Result, Ok, Err}
use Rattle.model.specs.Numbers.{bad_buffer, bad_length, bad_letters, bad_sum, bad_header, other_archive, malformed, not_next, not_closed, other_bytes, full_log, no_object, no_folder, wrong_kind, label_held, not_empty, unseen_change, not_aside, unsound_log, bad_file, bad_unit, stroke_in_label, into_itself, unlisted, below_base, last_number, folded_records}
use Rattle.refusal.specs.declared.Refusal.{Refusal}
use Rattle.refusal.specs.declared.Refusal.TheVariants.{BadBuffer, BadLength, BadLetters, BadSum, BadHeader, OtherArchive, Malformed, NotNext, NotClosed, OtherBytes, FullLog, NoObject, NoFolder, WrongKind, LabelHeld, NotEmpty, UnseenChange, NotAside, UnsoundState, BadFile, BadUnit, StrokeInLabel, IntoItself, Unlisted, BelowBase, LastNumber, FoldedRecords, NotAnEvent}
use Rattle.refusal.specs.declared.Fault.{Fault}

-- the number in the refusal table
abbrev pub number_of : Refusal → ℕ
number_of BadBuffer = bad_buffer
number_of BadLength = bad_length
number_of BadLetters = bad_letters
number_of BadSum = bad_sum
number_of BadHeader = bad_header
number_of OtherArchive = other_archive
number_of Malformed = malformed
number_of NotNext = not_next
number_of NotClosed = not_closed
number_of OtherBytes = other_bytes
number_of FullLog = full_log
number_of NoObject = no_object
number_of NoFolder = no_folder
number_of WrongKind = wrong_kind
number_of LabelHeld = label_held
number_of NotEmpty = not_empty
number_of UnseenChange = unseen_change
number_of NotAside = not_aside
number_of UnsoundState = unsound_log
number_of BadFile = bad_file
number_of BadUnit = bad_unit
number_of StrokeInLabel = stroke_in_label
number_of IntoItself = into_itself
number_of Unlisted = unlisted
number_of BelowBase = below_base
number_of LastNumber = last_number
number_of FoldedRecords = folded_records
number_of NotAnEvent = 30

-- the number of an answer, 0 of success
abbrev pub code_of : {T : Type 0} → Result T Refusal → ℕ
code_of (Ok value) = 0
code_of (Err refusal) = number_of refusal

-- the number of an answer that names a place, 0 of success
abbrev pub fault_code : {T : Type 0} → Result T (Fault ℕ) → ℕ
fault_code (Ok value) = 0
fault_code (Err fault) = number_of fault.refusal

-- the place of such an answer, 0 of success
abbrev pub fault_place : {T : Type 0} → Result T (Fault ℕ) → ℕ
fault_place (Ok value) = 0
fault_place (Err fault) = fault.place
