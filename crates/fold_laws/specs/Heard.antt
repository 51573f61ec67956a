-- What the meeting rule rests on: which records their makers had heard of.
-- Assumes nothing.
use Rattle.std.specs.Prelude.{ℕ, ◌≤◌, ◌<◌, ◌≡◌, ◌⊎◌, List}
use Rattle.model.specs.Record.{Rec, unit, num, seen}
use Rattle.model.specs.Log.{count}
use Rattle.log_laws.specs.Members.{Has, Sub}
use Rattle.log_laws.specs.Sound.{Sound}

-- q is within what the maker of r had heard, r counted
abbrev pub Heard : Rec → Rec → Type 0
Heard q r = (num q ≤ seen r (unit q)) ⊎ ((unit q ≡ unit r) × (num q ≤ num r))

-- r was made by a unit that held such records
pub record Made (used : List Rec) (r : Rec) : Type 0 where
  pub held : List Rec
  pub sound : Sound held
  pub from : Sub held used
  pub saw : (u : ℕ) → u < 8 → seen r u ≡ count u held

-- of each unit but b that made a record, one that is held has heard of q
abbrev pub Behind : ℕ → List Rec → List Rec → Rec → Type 0
Behind b used held q = (r : Rec) → Has r used → (unit r ≡ b → ⊥) → (s : Rec) × Has s held × (unit s ≡ unit r) × Heard q s
