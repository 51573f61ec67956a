-- What the tests for a sound log decide, as facts to reason with.
-- Assumes nothing.
use Rattle.std.specs.Prelude.{ℕ, suc, ◌+◌, ◌≤◌, ◌<◌, ◌≡◌, true, ◌⊎◌, List, [], ◌∷◌}
use Rattle.model.specs.Record.{Rec, unit, num, seen, well_formed}
use Rattle.model.specs.Log.{rank, count, no_counts, count_on}
use Rattle.log_laws.specs.Members.{Has}

-- the record r behind the base vector and the records pre, which stand last first
pub record Next (base : List ℕ) (pre : List Rec) (r : Rec) : Type 0 where
  pub formed : well_formed r ≡ true
  pub next : num r ≡ suc (count_on base (unit r) pre)
  pub within : (u : ℕ) → u < 8 → seen r u ≤ count_on base u pre
  pub closed : (s : Rec) → Has s pre → num s ≡ seen r (unit s) → (v : ℕ) → v < 8 → seen s v ≤ seen r v
  pub above : (s : Rec) → Has s pre → rank s < rank r

-- the records l behind the records pre
abbrev pub SoundAfter : List ℕ → List Rec → List Rec → Type 0
SoundAfter base pre [] = Unit {0}
SoundAfter base pre (r ∷ l) = Next base pre r × SoundAfter base (r ∷ pre) l

-- a log whose records are well formed and closed, in strictly rising rank, each number one above the earlier records of its
-- unit, each seen within the counts before it
abbrev pub SoundOn : List ℕ → List Rec → Type 0
SoundOn base l = SoundAfter base [] l

-- such a log with no record before it
abbrev pub Sound : List Rec → Type 0
Sound l = SoundOn no_counts l

-- the record r may join the log that has pre before a place and l behind it
pub record Joins (base : List ℕ) (pre l : List Rec) (r : Rec) : Type 0 where
  pub formed : well_formed r ≡ true
  pub next : num r ≡ suc (count_on base (unit r) pre + count (unit r) l)
  pub within : (u : ℕ) → u < 8 → seen r u ≤ count_on base u pre + count u l
  pub closed : (s : Rec) → Has s pre ⊎ Has s l → num s ≡ seen r (unit s) → (v : ℕ) → v < 8 → seen s v ≤ seen r v
