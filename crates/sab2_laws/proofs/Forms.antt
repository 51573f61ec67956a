-- The first four bytes choose the form. A file of the other form is refused by its letters, or before them by its length.
-- Assumes nothing.
use Prim.Native.Nat.{ℕ, zero, suc, ◌≤◌, ◌<◌}
use native.Mathlib.Omega.{arith}
use mathlib.Core.Path.{◌≡◌, refl, sym, ◌∙◌}
use mathlib.Core.Logic.{⊎_elim}
use mathlib.Core.Bool.{Bool, true, false, cond}
use mathlib.Core.List.{List}
use lib.Dec.{eqb}
use lib.ListN.{length, take, length-take}
use lib.Seq.{take-take}
use borrow.Author.Tests.{eq-eqb}
use Rattle.model.specs.Bytes.{same_bytes, part}
use Rattle.model.specs.Block.{letters, block_fault, given_fault}
use Rattle.model.specs.File.{file_length, blocks_in, block_at, Fault, fault, or_else, file_fault, checked_fault}
use Rattle.model.specs.Merge.{merged, unless, unless_any, merge_of}
use Rattle.call_model.specs.Read.{read_of}
use Rattle.run_model.specs.Runs.{letters2, block_fault_as}
use Rattle.run_model.specs.Blocks.{file_block_fault_as, blocks_fault_as}
use Rattle.sab2_model.specs.Sab2.{sab2_fits, said_rows, sab2_blocks_fault, sab2_fault, checked_sab2, is_sab2, either_fault}
use Rattle.sab2_model.specs.Calls.{read_either, read_either_of, converted, or_converted, to_sab2_of, way_back, to_sab1_of}
use Rattle.byte_slice.proofs.Numbers.{bool_cases}
use Rattle.byte_slice.proofs.Compare.{same_eq, same_lengths}
use Rattle.block_laws.proofs.Faults as Faults
use Rattle.run_laws.proofs.Sab1.{blocks_fault_sab1}
use Rattle.file_laws.proofs.Rewritten as Sab1
use Rattle.sab2_laws.proofs.Counts.{fits_from}

-- ---- the letters

-- no file has both
not_both : (f : List ℕ) → is_sab2 f ≡ true → same_bytes (take 4 f) letters ≡ false
unfolding is_sab2 same_bytes
not_both f e = rw (same_eq (take 4 f) letters2 e)

-- one whose first block passes as SAB1 does not begin with SAB2
pub sab1_begins : (f : List ℕ) → same_bytes (take 4 f) letters ≡ true → is_sab2 f ≡ false
unfolding is_sab2 same_bytes
sab1_begins f e = rw (same_eq (take 4 f) letters e)

-- a file of fewer than four bytes is SAB1
pub short_begins : (f : List ℕ) → length f < 4 → is_sab2 f ≡ false
unfolding is_sab2
short_begins f h = sym (same_lengths (take 4 f) letters2 (λ e. omega (arith, length-take 4 f)))

-- the blocks of a file that begins otherwise
module _ (t f : List ℕ) (r : ℕ) (e : same_bytes (take 4 f) t ≡ false) where
  first_block : block_fault_as t (block_at f 0) ≡ 3
  unfolding block_fault_as block_at part
  first_block = rw (take-take 4 512 f (omega arith), e)

  first_fault_lem : file_block_fault_as t r f 0 ≡ 3
  unfolding file_block_fault_as
  first_fault_lem = rw first_block

  pub other_letters : (n : ℕ) → 1 ≤ n → blocks_fault_as t r f 0 n ≡ fault 3 0
  unfolding blocks_fault_as
  other_letters zero h = absurd (omega arith)
  other_letters (suc n) h = rw first_fault_lem

-- ---- each form under the checks of the other: 3 at place 0, or 2 for a length that these do not take

some_blocks : (f : List ℕ) → file_length f ≡ true → 1 ≤ blocks_in f
some_blocks f a = (Sab1.whole f a).1

-- a refusal of a file for its form
abbrev pub form_fault : Bool → Fault
form_fault fits = cond fits (fault 3 0) (fault 2 0)

pub sab2_as_sab1 : (f : List ℕ) → is_sab2 f ≡ true → checked_fault f ≡ form_fault (file_length f)
unfolding file_fault or_else fault
sab2_as_sab1 f e =
    ⊎_elim
    (λ (a : file_length f ≡ true). rw (a, blocks_fault_sab1 f (blocks_in f) 0, other_letters letters f 0 (not_both f e) (blocks_in f) (some_blocks f a)))
    (λ (a : file_length f ≡ false). rw a)
    (bool_cases (file_length f))

pub sab1_as_sab2 : (f : List ℕ) → is_sab2 f ≡ false → checked_sab2 f ≡ form_fault (sab2_fits (length f))
unfolding checked_sab2 sab2_fault sab2_blocks_fault is_sab2 or_else fault
sab1_as_sab2 f e =
    ⊎_elim
    (λ (a : sab2_fits (length f) ≡ true). rw (a, other_letters letters2 f (said_rows f) e (blocks_in f) (fits_from f a).1))
    (λ (a : sab2_fits (length f) ≡ false). rw a)
    (bool_cases (sab2_fits (length f)))

-- ---- the calls that know one form

pub form_number : (b : Bool) → (form_fault b).number ≡ cond b 3 2
unfolding fault
form_number true = refl
form_number false = refl

form_tested : (b : Bool) → eqb (form_fault b).number 0 ≡ false
unfolding fault
form_tested true = refl
form_tested false = refl

form_place : (b : Bool) → (form_fault b).place ≡ 0
unfolding fault
form_place true = refl
form_place false = refl

-- merging refuses a first file of SAB2, and behind a right first file a second
pub merge_first : (f g log lent : List ℕ) → is_sab2 f ≡ true → length log ≡ 40960 → length lent ≡ 44032 → merge_of f g log lent ≡ merged (form_fault (file_length f)).number 0 1 0 log lent
unfolding merge_of unless_any unless
merge_first f g log lent e n m =
    rw (eq-eqb (length log) 40960 n, eq-eqb (length lent) 44032 m, sab2_as_sab1 f e, form_tested (file_length f), form_place (file_length f))

pub merge_second : (f g log lent : List ℕ) → (checked_fault f).number ≡ 0 → is_sab2 g ≡ true → length log ≡ 40960 → length lent ≡ 44032
    → merge_of f g log lent ≡ merged (form_fault (file_length g)).number 0 2 0 log lent
unfolding merge_of unless_any unless
merge_second f g log lent a e n m =
    rw (
      eq-eqb (length log) 40960 n,
      eq-eqb (length lent) 44032 m,
      eq-eqb (checked_fault f).number 0 a,
      sab2_as_sab1 g e,
      form_tested (file_length g),
      form_place (file_length g),
    )

-- a conversion refuses the form that it makes
pub up_refuses : (f lent : List ℕ) → is_sab2 f ≡ true → length lent ≡ 95232 → to_sab2_of f lent ≡ converted (form_fault (file_length f)).number 0 0 lent
unfolding to_sab2_of or_converted
up_refuses f lent e n = rw (eq-eqb (length lent) 95232 n, sab2_as_sab1 f e, form_tested (file_length f), form_place (file_length f))

pub back_refuses : (f lent : List ℕ) → is_sab2 f ≡ false → length lent ≡ 44032 → to_sab1_of f lent ≡ converted (form_fault (sab2_fits (length f))).number 0 0 lent
unfolding to_sab1_of or_converted way_back or_else
back_refuses f lent e n =
    let b : Bool = sab2_fits (length f) in
    rw (eq-eqb (length lent) 44032 n, sab1_as_sab2 f e, form_tested b, form_tested b, form_place b)

-- a block of SAB2 is no block to take
pub sab2_block_given : (archive : ℕ) (b : List ℕ) → length b ≡ 512 → is_sab2 b ≡ true → given_fault archive b ≡ 3
unfolding given_fault block_fault_as
sab2_block_given archive b n e =
    let z : block_fault b ≡ 3 = Faults.fault_sab1 b ∙ rw (not_both b e) in
    rw (eq-eqb (length b) 512 n, z)

-- ---- a file that does not begin with SAB2 is checked and read as before

pub sab1_fault : (f : List ℕ) → is_sab2 f ≡ false → either_fault f ≡ checked_fault f
unfolding either_fault
sab1_fault f e = rw e

pub sab1_read : (log base f : List ℕ) → is_sab2 f ≡ false → read_either_of log base f ≡ read_of log base f
unfolding read_either_of read_either read_of either_fault
sab1_read log base f e = rw e

pub sab2_fault_lem : (f : List ℕ) → is_sab2 f ≡ true → either_fault f ≡ checked_sab2 f
unfolding either_fault
sab2_fault_lem f e = rw e
