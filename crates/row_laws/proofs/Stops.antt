-- What stops a row is none of 1, 2, 19 and 21; and what a row leaves.
-- Assumes nothing.
use Prim.Native.Nat.{ℕ, zero, suc, ◌+◌, ◌*◌, ◌/◌, ◌≤◌}
use native.Mathlib.Omega.{arith}
use mathlib.Core.Path.{◌≡◌, refl}
use mathlib.Core.Logic.{◌⊎◌, inl, inr, ⊎_elim}
use mathlib.Core.Bool.{Bool, true, false, cond, ◌&&◌}
use mathlib.Core.Option.{Option, none, some}
use mathlib.Core.List.{List, [], ◌∷◌}
use lib.Dec.{ltb, eqb}
use lib.ListN.{length, take}
use borrow.Author.Tests.{eq-eqb, ne_eqb}
use Rattle.model.specs.Bytes.{same_bytes}
use Rattle.model.specs.Vector.{covers}
use Rattle.model.specs.Record.{Rec, unit, num, seen_vector, well_formed}
use Rattle.model.specs.Log.{insert, by_id, is_next, is_within, is_closed, records_of}
use Rattle.model.specs.Block.{letters, sums_hold, header_holds, archive_in, block_fault, block_records, given_fault}
use Rattle.model.specs.File.{blocks_in, block_at}
use Rattle.base_model.specs.Base.{is_listed, base_in, base_vector}
use Rattle.call_model.specs.Outcome.{Took, refused, taken, take_new, take_held, is_folded, take_one, takes_all, took_all, took_block, take_of}
use Rattle.row_model.specs.Row.{try_from, try_all}
use Rattle.byte_slice.proofs.Numbers.{eq_or_ne}
use Rattle.byte_slice.proofs.Parts.{part_length}
use Rattle.call_laws.specs.Keeps.{Good}
use Rattle.call_laws.proofs.Calls.{guarded-passes, takes_on, take-keeps}
use Rattle.row_laws.specs.Stopped.{Halt, Stop}

-- ---- one block

stop_cond : (b : Bool) (x y : ℕ) → Stop x → Stop y → Stop (cond b x y)
stop_cond true x y h g = h
stop_cond false x y h g = g

-- where a record refuses a block
Fair : Took → Type 0
Fair (refused n) = Halt n
Fair (taken l) = Unit {0}

module _ where
  fair_cond : (b : Bool) (x y : Took) → Fair x → Fair y → Fair (cond b x y)
  unfolding Fair
  fair_cond true x y h g = h
  fair_cond false x y h g = g

  module _ (p : ℕ) (v : List ℕ) where
    fair_new : (l : List Rec) (r : Rec) → Fair (take_new v l r)
    unfolding take_new Fair
    fair_new l r =
        let last : Took = cond (ltb (length l) 512) (taken (insert r l)) (refused 11) in
        let shut : Took = cond (is_closed v l r) last (refused 9) in
        let over : Took = cond (covers (seen_vector r) v) shut (refused 27) in
        fair_cond (is_next v l r && is_within v l r) over (refused 8)
        (fair_cond (covers (seen_vector r) v) shut (refused 27)
        (fair_cond (is_closed v l r) last (refused 9)
        (fair_cond (ltb (length l) 512) (taken (insert r l)) (refused 11) tt (inl (omega arith, omega arith)))
        (inl (omega arith, omega arith)))
        (inr (inr refl)))
        (inl (omega arith, omega arith))

    fair_held : (o : Option Rec) (l : List Rec) (r : Rec) → Fair (take_held v o l r)
    unfolding take_held Fair
    fair_held none l r = fair_new l r
    fair_held (some s) l r = fair_cond (same_bytes s r) (taken l) (refused 10) tt (inl (omega arith, omega arith))

    fair_one : (l : List Rec) (r : Rec) → Fair (take_one p v l r)
    unfolding take_one Fair
    fair_one l r =
        let one : Took = cond (is_folded v r) (taken l) (take_held v (by_id (unit r) (num r) l) l r) in
        fair_cond (well_formed r) (cond (is_listed p (unit r)) one (refused 26)) (refused 7)
        (fair_cond (is_listed p (unit r)) one (refused 26)
        (fair_cond (is_folded v r) (taken l) (take_held v (by_id (unit r) (num r) l) l r) tt (fair_held (by_id (unit r) (num r) l) l r))
        (inr (inl refl)))
        (inl (omega arith, omega arith))

    fair_all : (l rs : List Rec) → Fair (takes_all p v l rs)
    unfolding takes_all Fair
    fair_all l [] = tt
    fair_all l (r ∷ rs) = go (λ m. fair_all m rs) (take_one p v l r) (fair_one l r)
      where
        go : ((m : List Rec) → Fair (takes_all p v m rs)) → (o : Took) → Fair o → Fair (elim o [ refused n ↦ refused n | taken m ↦ takes_all p v m rs ])
        go h (refused n) f = f
        go h (taken m) f = h m

block_stops : (b : List ℕ) → Stop (block_fault b)
unfolding block_fault
block_stops b =
    stop_cond (same_bytes (take 4 b) letters) (cond (sums_hold b) (cond (header_holds b) 0 5) 4) 3
    (stop_cond (sums_hold b) (cond (header_holds b) 0 5) 4
    (stop_cond (header_holds b) 0 5 (inl refl) (inr (inl (omega arith, omega arith))))
    (inr (inl (omega arith, omega arith))))
    (inr (inl (omega arith, omega arith)))

given_stops : (archive : ℕ) (b : List ℕ) → length b ≡ 512 → Stop (given_fault archive b)
unfolding given_fault
given_stops archive b n =
    rw (eq-eqb (length b) 512 n)
    (stop_cond (eqb (block_fault b) 0) (cond (eqb (archive_in b) archive) 0 6) (block_fault b)
    (stop_cond (eqb (archive_in b) archive) 0 6 (inl refl) (inr (inl (omega arith, omega arith))))
    (block_stops b))

pub take_stops : (archive u : ℕ) (log base b : List ℕ) → u ≤ 7 → Good log base → length b ≡ 512 → Stop (take_of archive u log base b).number
unfolding take_of took_block took_all Fair
take_stops archive u log base b h g n =
    rw (guarded-passes u log base [] true (took_block log base b (given_fault archive b)) refl h g) (faults (given_fault archive b) (given_stops archive b n))
  where
    records : (o : Took) → Fair o → Stop (took_all log o).number
    records (refused n) f = inr f
    records (taken m) f = inl refl

    faults : (n : ℕ) → Stop n → Stop (took_block log base b n).number
    faults zero s = records (takes_on log base (block_records b)) (fair_all (base_in base).list (base_vector base) (records_of log) (block_records b))
    faults (suc n) s = s

-- ---- a row

whole : (row : List ℕ) (k : ℕ) → 512 * k + 512 ≤ length row → length (block_at row k) ≡ 512
unfolding block_at
whole row k h = part_length row (512 * k) 512 h

-- blocks from k on that lie in the row
pub try_stops : (archive u : ℕ) (base row log : List ℕ) (k n : ℕ) → u ≤ 7 → Good log base → 512 * (k + n) ≤ length row → Stop (try_from archive u base row log k n).stopped × Good (try_from archive u base row log k n).log base
unfolding try_from
try_stops archive u base row log k zero h g m = (inl refl, g)
try_stops archive u base row log k (suc n) h g m =
    ⊎_elim
    (λ (z : (take_of archive u log base (block_at row k)).number ≡ 0).
    rw (eq-eqb (take_of archive u log base (block_at row k)).number 0 z)
    (try_stops archive u base row (take_of archive u log base (block_at row k)).log (suc k) n h ((take-keeps archive u log base (block_at row k)).accepted z) (omega arith)))
    (λ (z : (take_of archive u log base (block_at row k)).number ≡ 0 → ⊥).
    rw (ne_eqb (take_of archive u log base (block_at row k)).number 0 z) (take_stops archive u log base (block_at row k) h g (whole row k (omega arith)), g))
    (eq_or_ne (take_of archive u log base (block_at row k)).number 0)

-- the number that stops a row that passed the guard is none of 1, 2, 19 and 21, and the log stays sound
pub stops_never : (archive u : ℕ) (log base row : List ℕ) → u ≤ 7 → Good log base → Stop (try_all archive u log base row).stopped
unfolding try_all blocks_in
stops_never archive u log base row h g = (try_stops archive u base row log 0 (length row / 512) h g (omega arith)).0

pub row_good : (archive u : ℕ) (log base row : List ℕ) → u ≤ 7 → Good log base → Good (try_all archive u log base row).log base
unfolding try_all blocks_in
row_good archive u log base row h g = (try_stops archive u base row log 0 (length row / 512) h g (omega arith)).1
