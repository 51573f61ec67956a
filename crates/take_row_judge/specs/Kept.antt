-- The records held while the blocks of a row are judged: those of the log, and the new ones laid behind them. The list m and the base vector
-- v are those of the lent base.
-- Assumes nothing.
use Rattle.std.specs.Prelude.{ℕ, ◌*◌, ◌≡◌, true, List, [], length, get_or, take}
use Rattle.model.specs.Record.{Rec}
use Rattle.model.specs.Log.{vector_on, records_of, log_bytes}
use Rattle.model.specs.Block.{block_records}
use Rattle.base_model.specs.Base.{lists_all, base_vector, sound_base}
use Rattle.call_model.specs.Outcome.{outcome, refused, taken, takes_all, take_of}
use Rattle.log_closure.specs.Tables.{Indexed}
use Rattle.log_check.specs.declared.Layout.TheVariants.{Log}
use Rattle.log_check.specs.Places.{laid_at}
use Rattle.take_row_store.specs.Grown.{held_in, Grown}
use Rattle.row_model.specs.Row.{tried, try_all}

-- a sound base with the list m and the base vector v
pub record Footing (m : ℕ) (v base : List ℕ) : Type 0 where
  pub long : length base ≡ 43032
  pub sound : sound_base base ≡ true
  pub list : m ≡ get_or base 0 0
  pub folded : v ≡ base_vector base

-- the records of l and those laid behind them are held: work has each at its place, the tables have them all, and each unit is listed
pub record Kept (m : ℕ) (v : List ℕ) (l : List Rec) (start : ℕ) (work : List ℕ) (used : ℕ) (held places seens : List ℕ) : Type 0 where
  pub grown : Grown v l start work used
  pub indexed : Indexed v (laid_at Log work) used (held_in l start work used) held places seens
  pub listed : lists_all m (vector_on v (held_in l start work used)) ≡ true

-- what judging the records of a block gives, where work and n stand for before: the number of the refusal, or 0 with all records held
pub record JudgedInto (m : ℕ) (v : List ℕ) (l : List Rec) (start : ℕ) (block work : List ℕ) (n number : ℕ) (work' : List ℕ) (used : ℕ) (held places seens : List ℕ) : Type 0 where
  pub refuses : (number ≡ 0 → ⊥) → takes_all m v (held_in l start work n) (block_records block) ≡ refused number
  pub accepts : number ≡ 0 → takes_all m v (held_in l start work n) (block_records block) ≡ taken (held_in l start work' used)
  pub kept : number ≡ 0 → Kept m v l start work' used held places seens
  pub front : take (80 * n) work' ≡ take (80 * n) work

-- what judging a block gives: it answers as the take would, and leaves what the take would leave, counted
pub record JudgedOne (m : ℕ) (v base : List ℕ) (l : List Rec) (start archive u : ℕ) (block work : List ℕ) (n number : ℕ) (work' : List ℕ) (used : ℕ) (held places seens : List ℕ) : Type 0 where
  pub answers : outcome number 0 (log_bytes (held_in l start work' used)) [] 0 ≡ take_of archive u (log_bytes (held_in l start work n)) base block
  pub grown : Grown v l start work' used
  pub counts : held ≡ vector_on v (held_in l start work' used)
  pub kept : number ≡ 0 → Kept m v l start work' used held places seens

-- what judging a row gives
pub record JudgedRow (v base log : List ℕ) (start archive u : ℕ) (row : List ℕ) (n number : ℕ) (work : List ℕ) (used : ℕ) (held : List ℕ) : Type 0 where
  pub answers : tried n number (log_bytes (held_in (records_of log) start work used)) ≡ try_all archive u log base row
  pub grown : Grown v (records_of log) start work used
  pub counts : held ≡ vector_on v (held_in (records_of log) start work used)
