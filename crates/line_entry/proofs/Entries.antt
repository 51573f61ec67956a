-- The parts of an entry line.
-- Assumes nothing.
use Prim.Native.Nat.{ℕ}
use mathlib.Core.Path.{refl}
use mathlib.Core.List.{List, [], ◌∷◌}
use lib.ListN.{get_or}
use Rattle.model.specs.Bytes.{part}
use Rattle.model.specs.Listing.{in_word, kind_text, identity_text, label_text, date_text, mark_text, disputed_text, entry_line}
use Rattle.line_text.proofs.Chains.{InThree}
use Rattle.line_entry.specs.Parts.{entry_folder, entry_label, entry_date, entry_mark}

pub mark_is : (row : List ℕ) → InThree (entry_mark row) (mark_text (get_or row 0 0) (part row 56 16)) (disputed_text (get_or row 1 0)) (10 ∷ [])
unfolding entry_mark
mark_is row = record { parts = refl }

pub date_is : (row : List ℕ) → InThree (entry_date row) (32 ∷ []) (date_text (part row 20 4)) (entry_mark row)
unfolding entry_date
date_is row = record { parts = refl }

pub label_is : (row : List ℕ) → InThree (entry_label row) (32 ∷ []) (label_text (part row 24 32)) (entry_date row)
unfolding entry_label
label_is row = record { parts = refl }

pub folder_is : (row : List ℕ) → InThree (entry_folder row) in_word (identity_text (part row 8 4)) (entry_label row)
unfolding entry_folder
folder_is row = record { parts = refl }

pub entry_is : (row : List ℕ) → InThree (entry_line row) (kind_text (get_or row 0 0)) (identity_text (part row 4 4)) (entry_folder row)
unfolding entry_line entry_folder entry_label entry_date entry_mark
entry_is row = record { parts = refl }
