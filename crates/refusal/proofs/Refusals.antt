-- Every refusal has a number of 1 to 30, so 0 stands for success alone.
use Rattle.std.proofs.Common.{◌≡◌, ℕ, ◌<◌, ◌≤◌}
use native.Mathlib.Omega.{arith}
use Rattle.refusal.specs.declared.Refusal.{Refusal}
use Rattle.refusal.specs.declared.Refusal.TheVariants.{BadBuffer, BadLength, BadLetters, BadSum, BadHeader, OtherArchive, Malformed, NotNext, NotClosed, OtherBytes, FullLog, NoObject, NoFolder, WrongKind, LabelHeld, NotEmpty, UnseenChange, NotAside, UnsoundState, BadFile, BadUnit, StrokeInLabel, IntoItself, Unlisted, BelowBase, LastNumber, FoldedRecords, NotAnEvent}
use Rattle.refusal.specs.Refusals.{number_of}

-- no refusal has the number of success
pub number_positive : (r : Refusal) → 0 < number_of r
number_positive BadBuffer = omega arith
number_positive BadLength = omega arith
number_positive BadLetters = omega arith
number_positive BadSum = omega arith
number_positive BadHeader = omega arith
number_positive OtherArchive = omega arith
number_positive Malformed = omega arith
number_positive NotNext = omega arith
number_positive NotClosed = omega arith
number_positive OtherBytes = omega arith
number_positive FullLog = omega arith
number_positive NoObject = omega arith
number_positive NoFolder = omega arith
number_positive WrongKind = omega arith
number_positive LabelHeld = omega arith
number_positive NotEmpty = omega arith
number_positive UnseenChange = omega arith
number_positive NotAside = omega arith
number_positive UnsoundState = omega arith
number_positive BadFile = omega arith
number_positive BadUnit = omega arith
number_positive StrokeInLabel = omega arith
number_positive IntoItself = omega arith
number_positive Unlisted = omega arith
number_positive BelowBase = omega arith
number_positive LastNumber = omega arith
number_positive FoldedRecords = omega arith
number_positive NotAnEvent = omega arith

pub number_within : (r : Refusal) → number_of r ≤ 30
number_within BadBuffer = omega arith
number_within BadLength = omega arith
number_within BadLetters = omega arith
number_within BadSum = omega arith
number_within BadHeader = omega arith
number_within OtherArchive = omega arith
number_within Malformed = omega arith
number_within NotNext = omega arith
number_within NotClosed = omega arith
number_within OtherBytes = omega arith
number_within FullLog = omega arith
number_within NoObject = omega arith
number_within NoFolder = omega arith
number_within WrongKind = omega arith
number_within LabelHeld = omega arith
number_within NotEmpty = omega arith
number_within UnseenChange = omega arith
number_within NotAside = omega arith
number_within UnsoundState = omega arith
number_within BadFile = omega arith
number_within BadUnit = omega arith
number_within StrokeInLabel = omega arith
number_within IntoItself = omega arith
number_within Unlisted = omega arith
number_within BelowBase = omega arith
number_within LastNumber = omega arith
number_within FoldedRecords = omega arith
number_within NotAnEvent = omega arith

pub not_zero : (r : Refusal) → number_of r ≡ 0 → ⊥
not_zero r zero = let above = number_positive r in omega arith
