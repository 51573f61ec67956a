-- Records judged one after another, behind a base vector.
-- Assumes nothing.
use Rattle.std.specs.Prelude.{ℕ, zero, suc, ◌≡◌, Bool, cond, List, [], ◌∷◌, length, replicate, eqb}
use Rattle.model.specs.Record.{Rec}
use Rattle.model.specs.Log.{record_fault, sound_after, vector_on, records_of, sound_log_on}
use Rattle.log_closure.specs.Tables.{Noted, admit_of, Indexed}
use Rattle.log_check.specs.declared.Layout.TheVariants.{Log}
use Rattle.log_check.specs.Places.{laid_at}

-- the n records from i on
unfoldable pub listed : (ℕ → Rec) → ℕ → ℕ → List Rec
listed at i zero = []
listed at i (suc n) = at i ∷ listed at (suc i) n

-- the first n records, last first
unfoldable pub before : (ℕ → Rec) → ℕ → List Rec
before at zero = []
before at (suc n) = at n ∷ before at n

-- a fault and the record that has it; number 0 for none
pub record Found : Type 0 where
  pub number : ℕ
  pub at : ℕ

abbrev pub found : ℕ → ℕ → Found
found n i = record { number = n; at = i }

-- the first fault of the n records from i on
unfoldable pub first_fault : List ℕ → (ℕ → Rec) → ℕ → ℕ → Found
first_fault base at i zero = found 0 0
first_fault base at i (suc n) =
    cond (eqb (record_fault base (before at i) (at i)) 0) (first_fault base at (suc i) n) (found (record_fault base (before at i) (at i)) i)

-- what a pass over records leaves: the first fault and the record that has it, the counts, and the tables
pub record Scan : Type 0 where
  pub number : ℕ
  pub at : ℕ
  pub held : List ℕ
  pub places : List ℕ
  pub seens : List ℕ

abbrev pub scanned : ℕ → ℕ → List ℕ → List ℕ → List ℕ → Scan
scanned n i held places seens = record { number = n; at = i; held = held; places = places; seens = seens }

-- the n records from i on, noted one after another; at a fault the tables have the records before it, and the counts are zeros
unfoldable pub scan_from : List ℕ → (ℕ → Rec) → ℕ → ℕ → List ℕ → ℕ → List ℕ → List ℕ → Scan
scan_from base at i zero held floor places seens = scanned 0 0 held places seens
scan_from base at i (suc n) held floor places seens =
    let a : Noted = admit_of base (at i) i held floor places seens in
    cond (eqb a.number 0)
    (scan_from base at (suc i) n a.held a.floor a.places a.seens)
    (scanned a.number i (replicate 8 0) a.places a.seens)

-- the first n records
unfoldable pub scan_of : List ℕ → (ℕ → Rec) → ℕ → List ℕ → List ℕ → Scan
scan_of base at n places seens = scan_from base at 0 n base 0 places seens

-- what the pass says of n records: the first fault, or tables that have them all
pub record ScanGives (base : List ℕ) (at : ℕ → Rec) (n number place : ℕ) (held places seens : List ℕ) : Type 0 where
  pub first : found number place ≡ first_fault base at 0 n
  pub holds : number ≡ 0 → Indexed base at n (listed at 0 n) held places seens

-- ---- a log

-- the base vector with the records of a log counted, zeros if one has a fault
unfoldable pub held_of : List ℕ → List ℕ → List ℕ
held_of base log = cond (sound_after base [] (records_of log)) (vector_on base (records_of log)) (replicate 8 0)

-- what checking a log leaves: whether it is sound, how many records it has, its counts, and the tables
pub record Check : Type 0 where
  pub sound : Bool
  pub used : ℕ
  pub held : List ℕ
  pub places : List ℕ
  pub seens : List ℕ

abbrev pub checked : Bool → ℕ → List ℕ → List ℕ → List ℕ → Check
checked s n held places seens = record { sound = s; used = n; held = held; places = places; seens = seens }

unfoldable pub check_of : List ℕ → List ℕ → List ℕ → List ℕ → Check
check_of base log places seens =
    let s : Scan = scan_of base (laid_at Log log) (length (records_of log)) places seens in
    checked (sound_log_on base log) (length (records_of log)) (held_of base log) s.places s.seens
