-- What judging the records of a file says, and what reading it answers and leaves.
-- Assumes nothing.
use Rattle.std.specs.Prelude.{ℕ, min, ◌≡◌, cond, List, [], eqb}
use Rattle.model.specs.Lengths.{log_places}
use Rattle.model.specs.Log.{no_counts}
use Rattle.model.specs.File.{fault, blocks_in, blocks_fault, records_counted, file_records}
use Rattle.sab2_model.specs.Sab2.{records_fault_on}
use Rattle.call_model.specs.Read.{ReadBack}
use Rattle.log_closure.specs.declared.Tables.{Tables}
use Rattle.log_closure.specs.Tables.{tables, Indexed}
use Rattle.log_check.specs.declared.Layout.TheVariants.{File}
use Rattle.log_check.specs.Places.{laid_at}
use Rattle.log_check.specs.InOrder.{Scan, scan_of}

-- the first fault of the records in blocks behind a base vector v, with the list m and the place p of the first block, or tables that have
-- them all
pub record Judges (m : ℕ) (v : List ℕ) (p : ℕ) (f : List ℕ) (number place : ℕ) (held places seens : List ℕ) : Type 0 where
  pub first : fault number place ≡ records_fault_on m v p [] 0 (file_records f)
  pub holds : number ≡ 0 → Indexed v (laid_at File f) (records_counted f) (file_records f) held places seens

-- the counts and the tables that a pass leaves
pub record Left : Type 0 where
  pub held : List ℕ
  pub places : List ℕ
  pub seens : List ℕ

abbrev pub left : List ℕ → List ℕ → List ℕ → Left
left held places seens = record { held = held; places = places; seens = seens }

-- the pass over the first 512 of these records
unfoldable pub records_left : List ℕ → List ℕ → List ℕ → List ℕ → Left
records_left v f places seens =
    let s : Scan = scan_of v (laid_at File f) (min (records_counted f) log_places) places seens in
    left s.held s.places s.seens

-- the tables that it leaves
unfoldable pub tables_left : List ℕ → List ℕ → Tables → Tables
tables_left v f t = tables (records_left v f t.places t.seens).places (records_left v f t.places t.seens).seens

-- the tables that checking an SAB1 file leaves: no record is judged if a block has a fault
unfoldable pub file_tables : List ℕ → Tables → Tables
file_tables f t = cond (eqb (blocks_fault f 0 (blocks_in f)).number 0) (tables_left no_counts f t) t

-- number, place, archive, unit, record count and vector, with the log and the base left
abbrev pub read_back_of : ℕ → ℕ → ℕ → ℕ → ℕ → List ℕ → List ℕ → List ℕ → ReadBack
read_back_of n p a u k v log base = record { number = n; place = p; archive = a; sender = u; records = k; vector = v; log = log; base = base }
