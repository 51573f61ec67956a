-- A row taken, on the plain machine of demand 3.
-- Assumes nothing.
use Rattle.std.specs.Prelude.{ℕ, zero, suc, ◌<◌, ◌≡◌, List, [], ◌∷◌}
use Rattle.model.specs.File.{blocks_in, block_at}
use Rattle.row_model.specs.Row.{take_row_of}
use Rattle.machine.specs.Machine.{Call, takes, Bench, block_given, done, play}

-- unit u takes the blocks that were given as numbers at k, at (k + 1) and on, n of them
unfoldable pub takes_from : ℕ → (ℕ → ℕ) → ℕ → ℕ → List Call
takes_from u at k zero = []
takes_from u at k (suc n) = takes u (at k) ∷ takes_from u at (suc k) n

-- a row taken by unit u of the bench s is the takes of its blocks in turn, up to the first that is refused
pub record RowPlays (archive : ℕ) (s : Bench) (u : ℕ) (row : List ℕ) (at : ℕ → ℕ) : Type 0 where
  -- the log is the one that playing the takes of the blocks taken leaves
  pub log : (take_row_of archive u (s.logs u) (s.bases u) row).log ≡ (play archive s (takes_from u at 0 (take_row_of archive u (s.logs u) (s.bases u) row).taken)).logs u
  -- each of these takes answers 0
  pub zeros : (k : ℕ) → k < (take_row_of archive u (s.logs u) (s.bases u) row).taken → (done archive (play archive s (takes_from u at 0 k)) (takes u (at k))).number ≡ 0
  -- and the take of the block behind them answers the number that stopped the row
  pub stop : ((take_row_of archive u (s.logs u) (s.bases u) row).stopped ≡ 0 → ⊥)
      → (done archive (play archive s (takes_from u at 0 (take_row_of archive u (s.logs u) (s.bases u) row).taken)) (takes u (at (take_row_of archive u (s.logs u) (s.bases u) row).taken))).number
      ≡ (take_row_of archive u (s.logs u) (s.bases u) row).stopped

-- for any bench, and a row whose blocks were given
abbrev pub EveryRowPlays : Type 0
EveryRowPlays =
    (archive : ℕ) (s : Bench) (u : ℕ) (row : List ℕ) (at : ℕ → ℕ)
    → ((k : ℕ) → k < blocks_in row → block_at row k ≡ (block_given s (at k)).bytes)
    → RowPlays archive s u row at
