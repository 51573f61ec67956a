-- All records of two lists, and no others.
-- Assumes nothing.
use Rattle.std.specs.Prelude.{◌⊎◌, List}
use Rattle.model.specs.Record.{Rec}
use Rattle.log_laws.specs.Members.{Has, Sub}
use Rattle.log_laws.specs.Sound.{Sound}

-- the list u is sound, and has the records of a and of b and no others
pub record Both (a b u : List Rec) : Type 0 where
  pub sound : Sound u
  pub first : Sub a u
  pub second : Sub b u
  pub from : (s : Rec) → Has s u → Has s a ⊎ Has s b
