-- What a call may do to the log and the buffer that it is lent.
-- Assumes nothing.
use Rattle.std.specs.Prelude.{ℕ, ◌≡◌, true, List, length}
use Rattle.model.specs.Log.{sound_log}
use Rattle.base_model.specs.Base.{sound_state}
use Rattle.call_model.specs.Read.{ReadBack}
use Rattle.call_model.specs.Outcome.{Outcome}
use Rattle.call_model.specs.Fold.{fold_of}
use Rattle.model.specs.Merge.{Merged}

-- a sound log and base, of their stated lengths
pub record Good (log base : List ℕ) : Type 0 where
  pub long : (length log ≡ 40960) × (length base ≡ 43032)
  pub sound : sound_state log base ≡ true

-- a sound log without folded records, of its stated length
pub record GoodLog (log : List ℕ) : Type 0 where
  pub long : length log ≡ 40960
  pub sound : sound_log log ≡ true

-- a call that only reads the base: accepted it leaves a good log, refused every byte as it was
pub record Keeps (log base lent : List ℕ) (o : Outcome) : Type 0 where
  pub accepted : o.number ≡ 0 → Good o.log base
  pub refused : (o.number ≡ 0 → ⊥) → (o.log ≡ log) × (o.lent ≡ lent)

-- a call that writes the base
pub record KeepsBase (log base : List ℕ) (o : Outcome) : Type 0 where
  pub accepted : o.number ≡ 0 → Good o.log o.lent
  pub refused : (o.number ≡ 0 → ⊥) → (o.log ≡ log) × (o.lent ≡ base)

-- of folding, whatever it is lent
abbrev pub FoldKeeps : Type 0
FoldKeeps = (u : ℕ) (log base : List ℕ) (m : ℕ) (work : List ℕ) → KeepsBase log base (fold_of u log base m work)

-- and so does reading a file into a lent log and base
pub record Reads (log base : List ℕ) (o : ReadBack) : Type 0 where
  pub accepted : o.number ≡ 0 → Good o.log o.base
  pub refused : (o.number ≡ 0 → ⊥) → (o.log ≡ log) × (o.base ≡ base)

-- and so does merging two files, with the log and the file that are lent
pub record Merges (log lent : List ℕ) (m : Merged) : Type 0 where
  pub accepted : m.number ≡ 0 → GoodLog m.log
  pub refused : (m.number ≡ 0 → ⊥) → (m.log ≡ log) × (m.lent ≡ lent)
