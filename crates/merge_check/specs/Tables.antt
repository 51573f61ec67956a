-- What is known of a file that was checked: where its records stand, and the table that has their positions.
-- Assumes nothing.
use Rattle.std.specs.Prelude.{ℕ, ◌≤◌, ◌<◌, ◌≡◌, true, List, length}
use Rattle.std.proofs.Math.Option.{none, some}
use Rattle.model.specs.Lengths.{log_places}
use Rattle.model.specs.Record.{Rec, well_formed}
use Rattle.model.specs.Log.{count, vector_of, by_id}
use Rattle.model.specs.File.{file_records, checked_fault}
use Rattle.log_closure.specs.Tables.{places_size, position_of}
use Rattle.log_check.specs.declared.Layout.TheVariants.{File}
use Rattle.log_check.specs.Places.{laid_at, Laid}
use Rattle.log_check.specs.InOrder.{listed}

-- the table of positions has the records of the list m, which stand below top, and no others
pub record Positioned (at : ℕ → Rec) (top : ℕ) (m : List Rec) (held places : List ℕ) : Type 0 where
  pub counts : held ≡ vector_of m
  pub long : length places ≡ places_size
  pub few : length m ≤ log_places
  pub room : top ≤ 518
  pub below : (u c : ℕ) → u < 8 → 1 ≤ c → c ≤ count u m → position_of places u c < top
  pub found : (u c : ℕ) → u < 8 → 1 ≤ c → c ≤ count u m → by_id u c m ≡ some (at (position_of places u c))
  pub beyond : (u c : ℕ) → count u m < c → by_id u c m ≡ none

-- the first n records are well formed
pub record AllFormed (at : ℕ → Rec) (n : ℕ) : Type 0 where
  pub each : (i : ℕ) → i < n → well_formed (at i) ≡ true

-- a file without a fault, of total records
pub record Fine (f : List ℕ) (total : ℕ) : Type 0 where
  pub right : (checked_fault f).number ≡ 0
  pub few : total ≤ log_places
  pub laid : Laid File f total
  pub formed : AllFormed (laid_at File f) total
  pub records : file_records f ≡ listed (laid_at File f) 0 total
  pub counted : total ≡ length (file_records f)
