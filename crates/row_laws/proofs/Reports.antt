-- What stands in a report.
-- Assumes nothing.
use Prim.Native.Nat.{ℕ, ◌+◌, ◌*◌, ◌≤◌}
use native.Mathlib.Omega.{arith}
use mathlib.Core.Path.{◌≡◌, refl}
use mathlib.Core.Bool.{Bool, true, false, cond, not, ◌&&◌}
use mathlib.Core.List.{List, [], ◌∷◌, ◌++◌}
use lib.ListN.{get_or, length, length-append}
use Rattle.model.specs.Bytes.{word, two, padded}
use Rattle.model.specs.Vector.{vector_at, vector_bytes}
use Rattle.model.specs.Replay.{Entry, Tree, is_disputed, present_ones}
use Rattle.model.specs.Table.{identity_bytes}
use Rattle.base_model.specs.Base.{held_on, tree_of}
use Rattle.row_model.specs.Row.{Tried, has_disputed, newly_disputed, became_disputed, made_bytes, report_bytes, reported}
use Rattle.byte_slice.proofs.PutAt.{length-padded}
use Rattle.byte_slice.proofs.Words.{word_at}
use Rattle.vector.proofs.InBytes.{vector_bytes-length, vector_back}
use Rattle.log_laws.proofs.Tests.{vector_on-length}

-- at most all entries become disputed
pub newly_few : (t t' : Tree) (l : List Entry) → length (newly_disputed t t' l) ≤ length l
unfolding newly_disputed
newly_few t t' [] = omega arith
newly_few t t' (e ∷ l) = go (is_disputed e.made t'.asides && not (has_disputed e.made t)) (newly_few t t' l)
  where
    go : (b : Bool) → length (newly_disputed t t' l) ≤ length l → length (cond b (e ∷ newly_disputed t t' l) (newly_disputed t t' l)) ≤ length (e ∷ l)
    go true h = omega arith
    go false h = omega arith

pub became_few : (t t' : Tree) → length (became_disputed t t') ≤ length (present_ones t'.entries)
unfolding became_disputed
became_few t t' = newly_few t t' (present_ones t'.entries)

pub length_made : (l : List Entry) → length (made_bytes l) ≡ 4 * length l
unfolding made_bytes identity_bytes
length_made [] = refl
length_made (e ∷ l) = omega (arith, length-append (identity_bytes e.made) (made_bytes l), length_made l)

module _ (o : Tried) (v : List ℕ) (t t' : Tree) where
  pub report_taken : get_or (report_bytes o v t t') 0 0 ≡ o.taken
  unfolding report_bytes
  report_taken = refl

  pub report_stopped : get_or (report_bytes o v t t') 1 0 ≡ o.stopped
  unfolding report_bytes
  report_stopped = refl

  pub report_count : word (report_bytes o v t t') 2 ≡ length (became_disputed t t')
  unfolding report_bytes
  report_count = word_at (o.taken ∷ o.stopped ∷ []) (length (became_disputed t t')) (vector_bytes v ++ padded 4096 (made_bytes (became_disputed t t')))

  pub report_vector : length v ≡ 8 → vector_at (report_bytes o v t t') 4 ≡ v
  unfolding report_bytes
  report_vector n = vector_back (o.taken ∷ o.stopped ∷ two (length (became_disputed t t'))) v (padded 4096 (made_bytes (became_disputed t t'))) n

  -- there is room for 1,024 entries
  pub length_report : length (present_ones t'.entries) ≤ 1024 → length (report_bytes o v t t') ≡ 4116
  unfolding report_bytes
  length_report h =
      let d : List Entry = became_disputed t t' in
      let k : length (padded 4096 (made_bytes d)) ≡ 4096 = length-padded 4096 (made_bytes d) (omega (arith, length_made d, became_few t t')) in
      omega (arith, length-append (vector_bytes v) (padded 4096 (made_bytes d)), vector_bytes-length v)

-- the vector of a trial's report is the held vector of the copy
pub reported_vector : (log base : List ℕ) (o : Tried) → vector_at (reported log base o).report 4 ≡ held_on o.log base
unfolding reported
reported_vector log base o = report_vector o (held_on o.log base) (tree_of log base) (tree_of o.log base) (vector_on-length _ _)
