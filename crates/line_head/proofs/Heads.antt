-- The parts of the two lines.
-- Assumes nothing.
use Prim.Native.Nat.{ℕ}
use mathlib.Core.Path.{refl}
use mathlib.Core.List.{List, [], ◌∷◌}
use Rattle.model.specs.Listing.{archive_word, unit_word, records_word, seen_word, decimal, head_line, counts_text, seen_line}
use Rattle.line_text.proofs.Chains.{InThree}
use Rattle.line_head.specs.Parts.{head_unit, head_records}

pub records_is : (n : ℕ) → InThree (head_records n) records_word (decimal n) (10 ∷ [])
unfolding head_records
records_is n = record { parts = refl }

pub unit_is : (u n : ℕ) → InThree (head_unit u n) unit_word (decimal u) (head_records n)
unfolding head_unit
unit_is u n = record { parts = refl }

pub head_is : (archive u n : ℕ) → InThree (head_line archive u n) archive_word (decimal archive) (head_unit u n)
unfolding head_line head_unit head_records
head_is archive u n = record { parts = refl }

pub seen_is : (v : List ℕ) → InThree (seen_line v) seen_word (counts_text v) (10 ∷ [])
unfolding seen_line
seen_is v = record { parts = refl }
