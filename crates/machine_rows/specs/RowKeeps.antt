-- What the calls of a row may do to what they are lent.
-- Assumes nothing.
use Rattle.std.specs.Prelude.{ℕ, ◌≡◌, ◌↔◌, List, get_or}
use Rattle.model.specs.Table.{table_bytes}
use Rattle.model.specs.File.{blocks_in}
use Rattle.base_model.specs.Base.{tree_of}
use Rattle.row_model.specs.Row.{take_row_of, try_of, hand_row_of}
use Rattle.call_laws.specs.Keeps.{Good, Keeps}
use Rattle.row_laws.specs.Stopped.{Stop}

-- whatever a call is lent, an accepted one leaves a good log, a refused one every byte as it was; the base is only read
pub record RowCallsKeep : Type 0 where
  pub taking : (archive u : ℕ) (log base row : List ℕ)
      → ((take_row_of archive u log base row).number ≡ 0 → Good (take_row_of archive u log base row).log base)
      × (((take_row_of archive u log base row).number ≡ 0 → ⊥) → (take_row_of archive u log base row).log ≡ log)
  pub trying : (archive u : ℕ) (log base row copy tree report : List ℕ)
      → ((try_of archive u log base row copy tree report).number ≡ 0 → Good (try_of archive u log base row copy tree report).copy base)
      × (((try_of archive u log base row copy tree report).number ≡ 0 → ⊥)
      → ((try_of archive u log base row copy tree report).copy ≡ copy)
      × ((try_of archive u log base row copy tree report).tree ≡ tree)
      × ((try_of archive u log base row copy tree report).report ≡ report))
  -- an accepted trial leaves the copy as taking the row would leave the log, shows the tree of that log behind the base, and reports what
  -- taking would answer
  pub tried_as_taken : (archive u : ℕ) (log base row copy tree report : List ℕ) → (try_of archive u log base row copy tree report).number ≡ 0
      → ((take_row_of archive u log base row).number ≡ 0)
      × ((try_of archive u log base row copy tree report).copy ≡ (take_row_of archive u log base row).log)
      × ((try_of archive u log base row copy tree report).tree ≡ table_bytes (tree_of (take_row_of archive u log base row).log base))
      × (get_or (try_of archive u log base row copy tree report).report 0 0 ≡ (take_row_of archive u log base row).taken)
      × (get_or (try_of archive u log base row copy tree report).report 1 0 ≡ (take_row_of archive u log base row).stopped)
  pub handing_out : (archive u : ℕ) (log base v lent : List ℕ) → Keeps log base lent (hand_row_of archive u log base v lent)
  -- what stops a row is none of 1, 2, 19 and 21
  pub stops : (archive u : ℕ) (log base row : List ℕ) → Stop (take_row_of archive u log base row).stopped
  -- of an accepted one all blocks were taken exactly if nothing stopped it
  pub whole : (archive u : ℕ) (log base row : List ℕ) → (take_row_of archive u log base row).number ≡ 0
      → ((take_row_of archive u log base row).stopped ≡ 0) ↔ ((take_row_of archive u log base row).taken ≡ blocks_in row)
