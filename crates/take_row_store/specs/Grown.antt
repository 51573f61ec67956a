-- Records laid behind those of a log, in the order of their coming, and put in by rank.
-- Assumes nothing.
use Rattle.std.specs.Prelude.{ℕ, suc, ◌+◌, ◌-◌, ◌≤◌, ◌<◌, ◌≡◌, List, length}
use Rattle.model.specs.Record.{Rec}
use Rattle.model.specs.Log.{rank}
use Rattle.log_laws.specs.Sound.{SoundOn}
use Rattle.log_check.specs.declared.Layout.TheVariants.{Log}
use Rattle.log_check.specs.Places.{laid_at}
use Rattle.log_insert.specs.Where.{insert_to}

-- 518 places of 80 bytes: those of a log, and six for the block that is judged
abbrev pub work_size : ℕ
work_size = 41440

-- record j of those that stand from the place start on
unfoldable pub new_at : ℕ → List ℕ → ℕ → Rec
new_at start work j = laid_at Log work (start + j)

-- the records l, and those that stand from the place start up to the place used put in by rank
unfoldable pub held_in : List Rec → ℕ → List ℕ → ℕ → List Rec
held_in l start work used = insert_to l (new_at start work) (used - start)

-- each record put in leaves records that are sound behind the base vector v, and they are as many as the places count
pub record Grown (v : List ℕ) (l : List Rec) (start : ℕ) (work : List ℕ) (used : ℕ) : Type 0 where
  pub from : start ≤ used
  pub few : used ≤ 512
  pub first : start ≡ length l
  pub sound : (j : ℕ) → j ≤ used - start → SoundOn v (insert_to l (new_at start work) j)

-- the records from a place up to another rise in rank
pub record Run (work : List ℕ) (from to : ℕ) : Type 0 where
  pub rises : (j : ℕ) → from ≤ j → suc j < to → rank (laid_at Log work j) < rank (laid_at Log work (suc j))
