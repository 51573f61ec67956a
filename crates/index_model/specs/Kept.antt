-- The calls that carry an index: what each answers, and what it leaves of the log, of the index and of what else it is lent. A unit that
-- keeps no index lends no bytes.
-- Document 02, K6 and K10.
-- Assumes nothing.
use Rattle.std.specs.Prelude.{ℕ, Bool, true, cond, not, ◌&&◌, ◌||◌, List, [], eqb, length, replicate}
use Rattle.model.specs.Numbers.{bad_buffer}
use Rattle.model.specs.Lengths.{tree_size}
use Rattle.model.specs.Log.{records_of}
use Rattle.model.specs.Table.{table_bytes}
use Rattle.base_model.specs.Base.{base_vector, tree_of}
use Rattle.call_model.specs.Outcome.{Outcome, outcome, guarded, start_of, stamped, act_of, act_work, take_of}
use Rattle.row_model.specs.Row.{RowTaken, take_row_of}
use Rattle.index_model.specs.Index.{index_size, index_of}
use Rattle.index_model.specs.Acting.{change_in}

-- the index of a lent log and base, made afresh from their tree
abbrev pub index_of_log : List ℕ → List ℕ → List ℕ
index_of_log log base = index_of (tree_of log base)

-- an index, and work memory as long as a tree table
abbrev pub index_lent : List ℕ → List ℕ → Bool
index_lent i work = eqb (length i) index_size && eqb (length work) tree_size

-- 1, 19; then the fresh index. No unit is given: 0 passes [F115]
unfoldable pub indexed_of : List ℕ → List ℕ → List ℕ → List ℕ → Outcome
indexed_of log base lent work = guarded 0 log base lent (index_lent lent work) (outcome 0 0 log (index_of_log log base) 0)

-- the table of a tree in the work memory, or what was there [F152]
abbrev pub table_if : Bool → List ℕ → List ℕ → List ℕ → List ℕ
table_if b log base work = cond b (table_bytes (tree_of log base)) work

-- what it leaves in the work memory: the tree table, or as it was where it is refused
unfoldable pub indexed_work : List ℕ → List ℕ → List ℕ → List ℕ → List ℕ
indexed_work log base lent work = table_if (eqb (indexed_of log base lent work).number 0) log base work

-- ---- an index is lent, or none

-- 40,964 bytes, or none [F112]
unfoldable pub index_fits : List ℕ → Bool
index_fits i = eqb (length i) 0 || eqb (length i) index_size

-- what becomes of a lent index that is to be j: none stays none
unfoldable pub if_lent : List ℕ → List ℕ → List ℕ
if_lent i j = cond (eqb (length i) 0) i j

-- of a take, which needs work memory for an index alone: both are lent, or neither [F153]
unfoldable pub both_fit : List ℕ → List ℕ → Bool
both_fit i work = (eqb (length i) 0 && eqb (length work) 0) || index_lent i work

-- ---- starting, acting, taking

-- the number and place answered, the log and the index left, and of a start the base
pub record Kept : Type 0 where
  pub number : ℕ
  pub place : ℕ
  pub log : List ℕ
  pub index : List ℕ
  pub lent : List ℕ

abbrev pub kept : ℕ → ℕ → List ℕ → List ℕ → List ℕ → Kept
kept n p log i lent = record { number = n; place = p; log = log; index = i; lent = lent }

-- 1 for an index of another length, before all else; then what the call without an index answers. If that accepts, the index becomes j;
-- a refusal leaves it [F112] [F113]
unfoldable pub kept_of : Bool → List ℕ → List ℕ → List ℕ → Outcome → List ℕ → Kept
kept_of fit log lent i o j =
    cond fit
    (kept o.number o.place o.log (cond (eqb o.number 0) (if_lent i j) i) o.lent)
    (kept bad_buffer 0 log i lent)

-- the index of the root alone [F113]
unfoldable pub start_kept : ℕ → List ℕ → List ℕ → List ℕ → Kept
start_kept u log base i = kept_of (index_fits i) log base i (start_of u log base) (replicate index_size 0)

-- the one change of the record, with no index made afresh [F114]
unfoldable pub act_kept : ℕ → List ℕ → List ℕ → List ℕ → List ℕ → List ℕ → Kept
act_kept u log base i w work =
    kept_of (index_fits i) log [] i (act_of u log base w work)
    (change_in (stamped u (base_vector base) (records_of log) w) (tree_of log base) i)

-- what an act leaves in the work memory: as without an index [F152]
unfoldable pub act_kept_work : ℕ → List ℕ → List ℕ → List ℕ → List ℕ → List ℕ → List ℕ
act_kept_work u log base i w work = cond (index_fits i) (act_work u log base w work) work

-- made afresh from the log that is left [F114]
unfoldable pub take_kept : ℕ → ℕ → List ℕ → List ℕ → List ℕ → List ℕ → List ℕ → Kept
take_kept archive u log base i b work =
    kept_of (both_fit i work) log [] i (take_of archive u log base b) (index_of_log (take_of archive u log base b).log base)

-- what a take leaves in the work memory: the tree table of the log left, where it is accepted and an index is lent [F152]
unfoldable pub take_kept_work : ℕ → ℕ → List ℕ → List ℕ → List ℕ → List ℕ → List ℕ → List ℕ
take_kept_work archive u log base i b work =
    table_if (index_lent i work && eqb (take_of archive u log base b).number 0) (take_of archive u log base b).log base work

-- ---- taking a row

-- number and place, how many blocks were taken and what stopped the row, the log and the index left
pub record RowKept : Type 0 where
  pub number : ℕ
  pub place : ℕ
  pub taken : ℕ
  pub stopped : ℕ
  pub log : List ℕ
  pub index : List ℕ

abbrev pub row_kept : ℕ → ℕ → ℕ → ℕ → List ℕ → List ℕ → RowKept
row_kept n p k s log i = record { number = n; place = p; taken = k; stopped = s; log = log; index = i }

-- made afresh if a block was taken, also where a later one stops the row [F114]
unfoldable pub row_kept_of : Bool → List ℕ → List ℕ → List ℕ → RowTaken → RowKept
row_kept_of fit log base i o =
    cond fit
    (row_kept o.number o.place o.taken o.stopped o.log
    (cond (eqb o.taken 0) i (if_lent i (index_of_log o.log base))))
    (row_kept bad_buffer 0 0 0 log i)

unfoldable pub take_row_kept : ℕ → ℕ → List ℕ → List ℕ → List ℕ → List ℕ → List ℕ → RowKept
take_row_kept archive u log base i row work = row_kept_of (both_fit i work) log base i (take_row_of archive u log base row)

-- what taking a row leaves in the work memory: the tree table of the log left, where a block was taken and an index is lent [F152]
unfoldable pub take_row_kept_work : ℕ → ℕ → List ℕ → List ℕ → List ℕ → List ℕ → List ℕ → List ℕ
take_row_kept_work archive u log base i row work =
    table_if (index_lent i work && not (eqb (take_row_of archive u log base row).taken 0)) (take_row_of archive u log base row).log base work
