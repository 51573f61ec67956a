-- What the code goes by: marks by the slot of an identity, and running counts.
-- Assumes nothing.
use Rattle.std.specs.Prelude.{ℕ, ◌+◌, Bool, true, ◌&&◌, List, [], ◌∷◌, leb, eqb, get_or, set}
use Rattle.model.specs.Vector.{covers}
use Rattle.model.specs.Record.{Rec, unit_of, number_of, unit, seen_vector}
use Rattle.log_closure.specs.Tables.{slot_of}

-- the name k is within the counts held
unfoldable pub is_ours : List ℕ → ℕ → Bool
is_ours held k = leb 1 (number_of k) && leb (number_of k) (get_or held (unit_of k) 0)

-- where the mark of the name k stands
unfoldable pub mark_slot : ℕ → ℕ
mark_slot k = slot_of (unit_of k) (number_of k)

-- the name k is ours and has no mark yet
unfoldable pub is_new : List ℕ → List ℕ → ℕ → Bool
is_new held marks k = is_ours held k && eqb (get_or marks (mark_slot k) 0) 0

-- each name is ours, and none has a mark before its turn
unfoldable pub marks_all : List ℕ → List ℕ → List ℕ → Bool
marks_all held marks [] = true
marks_all held marks (k ∷ ks) = is_new held marks k && marks_all held (set marks (mark_slot k) 1) ks

-- the running counts had cover what each record has seen
unfoldable pub covers_each : List ℕ → List Rec → Bool
covers_each had [] = true
covers_each had (r ∷ l) = covers had (seen_vector r) && covers_each (set had (unit r) (get_or had (unit r) 0 + 1)) l
