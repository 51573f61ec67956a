-- A row of blocks: taken in turn, tried on a copy of the log, and handed out. The base is read only.
-- Document 02, K4 and K10.
-- Assumes nothing.
use Rattle.std.specs.Prelude.{ℕ, zero, suc, ◌*◌, ◌/◌, ◌%◌, Bool, true, false, cond, not, ◌&&◌, List, [], ◌∷◌, ◌++◌, leb, eqb, length, take, drop}
use Rattle.std.proofs.Math.Option.{Option, none, some}
use Rattle.model.specs.Lengths.{block_size, log_size, file_size, tree_size}
use Rattle.model.specs.Bytes.{two, padded}
use Rattle.model.specs.Vector.{blocks_for, vector_bytes}
use Rattle.model.specs.Record.{Rec}
use Rattle.model.specs.Log.{records_of, lacking}
use Rattle.model.specs.Replay.{Entry, Tree, entry_of, is_disputed, present_ones}
use Rattle.model.specs.Table.{identity_bytes, table_bytes}
use Rattle.base_model.specs.Base.{base_vector, held_on, tree_of}
use Rattle.model.specs.Block.{block_of}
use Rattle.model.specs.File.{header_of, blocks_in, block_at}
use Rattle.call_model.specs.Outcome.{Outcome, outcome, or_refused, guard_number, guarded, asked_number, take_of}

-- ---- the length

-- the length of 0 to 86 whole blocks [F97]
unfoldable pub row_fits : ℕ → Bool
row_fits n = eqb (n % block_size) 0 && leb (n / block_size) 86

-- ---- taking

-- how many blocks were taken, the number that stops the row or 0, and the log afterwards
pub record Tried : Type 0 where
  pub taken : ℕ
  pub stopped : ℕ
  pub log : List ℕ

abbrev pub tried : ℕ → ℕ → List ℕ → Tried
tried k n log = record { taken = k; stopped = n; log = log }

-- the n blocks of a row from block k on, taken in turn up to the first refusal [F98]
unfoldable pub try_from : ℕ → ℕ → List ℕ → List ℕ → List ℕ → ℕ → ℕ → Tried
try_from archive u base row log k zero = tried k 0 log
try_from archive u base row log k (suc n) =
    cond (eqb (take_of archive u log base (block_at row k)).number 0)
    (try_from archive u base row (take_of archive u log base (block_at row k)).log (suc k) n)
    (tried k (take_of archive u log base (block_at row k)).number log)

-- all blocks of a row
unfoldable pub try_all : ℕ → ℕ → List ℕ → List ℕ → List ℕ → Tried
try_all archive u log base row = try_from archive u base row log 0 (blocks_in row)

-- number and place; with number 0 how many blocks were taken and what stopped the row, a number or 0; and the log left
pub record RowTaken : Type 0 where
  pub number : ℕ
  pub place : ℕ
  pub taken : ℕ
  pub stopped : ℕ
  pub log : List ℕ

abbrev pub row_taken : ℕ → ℕ → ℕ → ℕ → List ℕ → RowTaken
row_taken n p k s log = record { number = n; place = p; taken = k; stopped = s; log = log }

-- a refusal leaves the log
abbrev pub took_row : ℕ → List ℕ → Tried → RowTaken
took_row zero log t = row_taken 0 0 t.taken t.stopped t.log
took_row (suc n) log t = row_taken (suc n) 0 0 0 log

-- 1, 21, 2, 19; then the blocks [F98]
unfoldable pub take_row_of : ℕ → ℕ → List ℕ → List ℕ → List ℕ → RowTaken
take_row_of archive u log base row =
    took_row (guard_number u log base true (row_fits (length row))) log (try_all archive u log base row)

-- ---- entries that become disputed

unfoldable pub is_there : Option Entry → Bool
is_there none = false
is_there (some e) = true

-- the tree has the entry k, and it is disputed
unfoldable pub has_disputed : ℕ → Tree → Bool
has_disputed k t = is_there (entry_of k t.entries) && is_disputed k t.asides

-- of some entries of the tree t' those that are disputed there and were no disputed entries of t [F100]
unfoldable pub newly_disputed : Tree → Tree → List Entry → List Entry
newly_disputed t t' [] = []
newly_disputed t t' (e ∷ l) =
    cond (is_disputed e.made t'.asides && not (has_disputed e.made t))
    (e ∷ newly_disputed t t' l)
    (newly_disputed t t' l)

-- the entries of a tree stand by rank of their makers
unfoldable pub became_disputed : Tree → Tree → List Entry
became_disputed t t' = newly_disputed t t' (present_ones t'.entries)

-- ---- trying

-- the report: 20 bytes and 1,024 identities
abbrev pub report_size : ℕ
report_size = 4116

unfoldable pub made_bytes : List Entry → List ℕ
made_bytes [] = []
made_bytes (e ∷ l) = identity_bytes e.made ++ made_bytes l

-- 0 how many blocks would be taken, 1 the number that stops the row or 0, 2-3 how many entries become disputed, 4-19 the vector
-- afterwards, folded records counted, from 20 on 1,024 identities of 4 bytes: these entries by rank of their makers, then zeros [F101] [F151]
unfoldable pub report_bytes : Tried → List ℕ → Tree → Tree → List ℕ
report_bytes o v t t' =
    (o.taken ∷ o.stopped ∷ two (length (became_disputed t t')))
    ++ (vector_bytes v ++ padded 4096 (made_bytes (became_disputed t t')))

-- number and place; the copy of the log, the tree table and the report as they are left. Log and base are only read
pub record Trial : Type 0 where
  pub number : ℕ
  pub place : ℕ
  pub copy : List ℕ
  pub tree : List ℕ
  pub report : List ℕ

abbrev pub trial : ℕ → ℕ → List ℕ → List ℕ → List ℕ → Trial
trial n p copy tree report = record { number = n; place = p; copy = copy; tree = tree; report = report }

-- the copy with the blocks taken, its tree, and the report of the log's tree and this one [F99]
unfoldable pub reported : List ℕ → List ℕ → Tried → Trial
reported log base o =
    trial 0 0 o.log
    (table_bytes (tree_of o.log base))
    (report_bytes o (held_on o.log base) (tree_of log base) (tree_of o.log base))

abbrev pub or_untried : ℕ → List ℕ → List ℕ → List ℕ → Trial → Trial
or_untried zero copy tree report o = o
or_untried (suc n) copy tree report o = trial (suc n) 0 copy tree report

-- the three lent buffers have their stated lengths
unfoldable pub trial_lent : List ℕ → List ℕ → List ℕ → Bool
trial_lent copy tree report =
    eqb (length copy) log_size && (eqb (length tree) tree_size && eqb (length report) report_size)

-- 1, 21, 2, 19; then the blocks, on the copy [F99]
unfoldable pub try_of : ℕ → ℕ → List ℕ → List ℕ → List ℕ → List ℕ → List ℕ → List ℕ → Trial
try_of archive u log base row copy tree report =
    or_untried (guard_number u log base (trial_lent copy tree report) (row_fits (length row))) copy tree report
    (reported log base (try_all archive u log base row))

-- ---- handing out

-- block k of the records w, with the held vector; its place is 0, as in a block handed out alone [F102]
unfoldable pub row_block : ℕ → ℕ → List ℕ → List Rec → ℕ → List ℕ
row_block archive u held w k = block_of (header_of archive u 0 held) (take 6 (drop (6 * k) w))

-- the first n blocks
unfoldable pub row_to : ℕ → ℕ → List ℕ → List Rec → ℕ → List ℕ
row_to archive u held w zero = []
row_to archive u held w (suc n) = row_to archive u held w n ++ row_block archive u held w n

-- all blocks of what the vector v lacks of the records l
unfoldable pub row_of : ℕ → ℕ → List ℕ → List Rec → List ℕ → List ℕ
row_of archive u held l v = row_to archive u held (lacking v l) (blocks_for (length (lacking v l)))

-- 27, or the blocks, with zeros behind the last, and their count [F102] [F146]
unfoldable pub handed_row : ℕ → ℕ → List ℕ → List ℕ → List ℕ → List ℕ → Outcome
handed_row archive u log base v lent =
    or_refused (asked_number v (base_vector base)) log lent
    (outcome 0 0 log
    (padded file_size (row_of archive u (held_on log base) (records_of log) v))
    (blocks_for (length (lacking v (records_of log)))))

-- 1, 21, 19, then that [F102]
unfoldable pub hand_row_of : ℕ → ℕ → List ℕ → List ℕ → List ℕ → List ℕ → Outcome
hand_row_of archive u log base v lent =
    guarded u log base lent (eqb (length lent) file_size) (handed_row archive u log base v lent)
