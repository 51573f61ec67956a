-- Names by marks and by positions.
-- Assumes nothing.
use Rattle.std.specs.Prelude.{ℕ, ◌*◌, ◌≤◌, ◌<◌, ◌≡◌, List, get_or, length}
use Rattle.std.proofs.Math.Option.{some}
use Rattle.model.specs.Lengths.{log_places}
use Rattle.model.specs.Record.{Rec, unit_of, number_of}
use Rattle.model.specs.Log.{count, by_id, records_of}
use Rattle.log_closure.specs.Tables.{places_size, position_of}
use Rattle.log_check.specs.declared.Layout.TheVariants.{Log}
use Rattle.log_check.specs.Places.{laid_at}
use Rattle.order_model.specs.Order.{name_at}

-- a mark for each unit and number
abbrev pub marks_size : ℕ
marks_size = 4096

-- counts that have slots
pub record Few (held : List ℕ) : Type 0 where
  pub few : (u : ℕ) → u < 8 → get_or held u 0 ≤ 512

-- the table has the positions of the n records of a log
pub record Positions (log places : List ℕ) (n : ℕ) : Type 0 where
  pub long : length places ≡ places_size
  pub below : (u c : ℕ) → u < 8 → 1 ≤ c → c ≤ count u (records_of log) → position_of places u c < n
  pub found : (u c : ℕ) → u < 8 → 1 ≤ c → c ≤ count u (records_of log) → by_id u c (records_of log) ≡ some (laid_at Log log (position_of places u c))

-- the position of the record that the name at place i names
unfoldable pub place_named : List ℕ → List ℕ → ℕ → ℕ
place_named list places i = position_of places (unit_of (name_at list i)) (number_of (name_at list i))

-- that record
unfoldable pub named_at : List ℕ → List ℕ → List ℕ → ℕ → Rec
named_at log list places i = laid_at Log log (place_named list places i)

-- the first n names have slots, and positions in a log
pub record Named (list places : List ℕ) (n : ℕ) : Type 0 where
  pub table : length places ≡ places_size
  pub bytes : (i : ℕ) → i < n → 4 * i < length list
  pub first : (i : ℕ) → i < n → 1 ≤ number_of (name_at list i)
  pub few : (i : ℕ) → i < n → number_of (name_at list i) ≤ 512
  pub inside : (i : ℕ) → i < n → place_named list places i < log_places
