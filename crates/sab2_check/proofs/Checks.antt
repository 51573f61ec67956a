-- Every check of an SAB2 file: one law for each way out, over plain values.
-- Assumes nothing.
use Prim.Native.Nat.{ℕ, ◌+◌, ◌-◌, ◌*◌, ◌/◌, ◌%◌, ◌≤◌}
use native.Mathlib.Omega.{arith}
use mathlib.Core.Path.{◌≡◌, refl, sym, ap, ◌∙◌}
use mathlib.Core.Bool.{Bool, true, false, not, ◌&&◌}
use mathlib.Core.List.{List, []}
use lib.Dec.{leb, eqb}
use lib.ListN.{get_or, length, take, drop, length-take, length-drop}
use lib.Seq.{take_all}
use borrow.Author.Tests.{ne_eqb, eqb-true, leb-true, not-true, not-false}
use Rattle.model.specs.Bytes.{word, part}
use Rattle.model.specs.Vector.{blocks_for}
use Rattle.model.specs.Record.{Rec}
use Rattle.model.specs.Log.{all_to}
use Rattle.model.specs.Block.{vector_in}
use Rattle.model.specs.File.{blocks_in, block_at, fault, or_else, records_counted, file_record, file_records_from, file_records}
use Rattle.base_model.specs.Base.{lists_all, base_vector, sound_base}
use Rattle.run_model.specs.Runs.{letters2}
use Rattle.run_model.specs.Blocks.{blocks_fault_as}
use Rattle.sab2_model.specs.Rows.{row_count, rows_said, base_from, tail_blank, rows_hold_for, rows_hold}
use Rattle.sab2_model.specs.Sab2.{said_rows, row_blocks, sab2_blocks_fault, sab2_rows, sab2_base, record_part, sab2_records, base_stands, rows_stand, records_fault_on, counts_fault_on, held_fault, sab2_fault, checked_sab2, sab2_fits}
use Rattle.byte_slice.proofs.Numbers.{and_true, not_both}
use Rattle.run_laws.proofs.Rewritten.{rows_inside, held}
use Rattle.base_head.specs.Head.{BaseHead, headed, head_of}
use Rattle.read_file_blocks.proofs.Agreement.{blocks_counted}
use Rattle.refusal.proofs.Refusals.{not_zero}
use Rattle.sab2_check.specs.Told.{number_told}
use Rattle.sab2_check.specs.declared.FileFault.{FileFault}
use Rattle.sab2_check.specs.declared.FileFault.TheVariants.{Block, Base}

pub blocks_asked : (f : List ℕ) {r : ℕ} → r ≡ said_rows f → (r + 5) / 6 ≡ row_blocks f
unfolding row_blocks blocks_for
blocks_asked f e = rw e

-- ---- list and base

module _ (f : List ℕ) {t : Bool} (e : t ≡ rows_hold (sab2_rows f)) where
  pub rows_fail : not t ≡ true → false ≡ rows_stand (sab2_rows f)
  unfolding rows_stand
  rows_fail h = rw (← e, not-true t h)

  module _ (h : not t ≡ false) {b : List ℕ} (l : t ≡ true → b ≡ sab2_base f) {m n k : ℕ} {v : List ℕ} (eh : headed m v n k ≡ head_of b) where
    base_is : b ≡ sab2_base f
    base_is = l (not-false t h)

    list_is : m ≡ get_or (sab2_base f) 0 0
    unfolding head_of
    list_is = ap (λ (x : BaseHead). x.list) eh ∙ rw base_is

    vector_is : v ≡ base_vector (sab2_base f)
    unfolding head_of
    vector_is = ap (λ (x : BaseHead). x.folded) eh ∙ rw base_is

    stands_as : rows_stand (sab2_rows f) ≡ (lists_all m v && sound_base b)
    unfolding rows_stand base_stands sab2_base
    stands_as = rw (← e, not-false t h, list_is, vector_is, base_is)

    pub list_fails : {u : Bool} → u ≡ lists_all m v → not u ≡ true → false ≡ rows_stand (sab2_rows f)
    list_fails {u} eu z = sym (stands_as ∙ rw (← eu, not-true u z))

    pub base_decides : {u w : Bool} → u ≡ lists_all m v → not u ≡ false → w ≡ sound_base b → w ≡ rows_stand (sab2_rows f)
    base_decides {u} eu z ew = ew ∙ sym (stands_as ∙ rw (← eu, not-false u z))

pub none_left : (o s : List ℕ) → false ≡ true → o ≡ s
none_left o s e = absurd (not_both false e refl)

pub base_left_lem : (f b : List ℕ) {t : Bool} → not t ≡ false → (t ≡ true → b ≡ sab2_base f) → b ≡ sab2_base f
base_left_lem f b {t} h l = l (not-false t h)

-- rows that keep their layout are few
two_few : (rows : List Rec) → rows_hold rows ≡ true → (word (get_or rows 0 []) 2 ≤ 512) × (word (get_or rows 0 []) 4 ≤ 512)
unfolding rows_hold rows_hold_for
two_few rows h =
    let e = word (get_or rows 0 []) 2 in
    let a = word (get_or rows 0 []) 4 in
    let (x, y) = and_true (leb e 512) (leb a 512 && all_to (length rows) (tail_blank rows e a)) h in
    let (z, w) = and_true (leb a 512) (all_to (length rows) (tail_blank rows e a)) y in
    (leb-true e 512 x, leb-true a 512 z)

first_row : (f : List ℕ) → get_or (sab2_rows f) 0 [] ≡ file_record f 0
unfolding sab2_rows said_rows rows_said row_count file_records_from
first_row f = refl

few_for : (e a : ℕ) → e ≤ 512 → a ≤ 512 → blocks_for (row_count e a) ≤ 100
unfolding blocks_for row_count
few_for e a h g = omega arith

few_blocks : (f : List ℕ) → rows_stand (sab2_rows f) ≡ true → row_blocks f ≤ 100
unfolding rows_stand row_blocks said_rows rows_said
few_blocks f e =
    let (h, _) = and_true (rows_hold (sab2_rows f)) (base_stands (base_from (sab2_rows f))) e in
    let (x, y) = rw (first_row f) at (two_few (sab2_rows f) h) in
    few_for (word (file_record f 0) 2) (word (file_record f 0) 4) x y

-- ---- the blocks, then what they hold

module _ (f : List ℕ) (n : ℕ) (whole : length f ≡ 512 * n) where
  counted : blocks_in f ≡ n
  counted = blocks_counted f n whole

  passed : (sab2_blocks_fault f).number ≡ 0 → (blocks_fault_as letters2 (said_rows f) f 0 (blocks_in f)).number ≡ 0
  unfolding sab2_blocks_fault
  passed z = z

  whole_blocks : length f ≡ 512 * blocks_in f
  whole_blocks = rw counted whole

  module _ (some : 1 ≤ n) (z : (sab2_blocks_fault f).number ≡ 0) where
    some_blocks : 1 ≤ blocks_in f
    some_blocks = rw counted some

    inside : row_blocks f ≤ n
    unfolding row_blocks
    inside = rw counted at (rows_inside letters2 (said_rows f) f whole_blocks some_blocks (passed z))

    pub rows_room : 512 * row_blocks f ≤ length f
    rows_room = omega (arith, inside)

    -- the blocks behind the rows
    part_rest : take (512 * n - 512 * row_blocks f) (drop (512 * row_blocks f) f) ≡ record_part f
    unfolding record_part
    part_rest = take_all (512 * n - 512 * row_blocks f) (drop (512 * row_blocks f) f) (omega (arith, length-drop (512 * row_blocks f) f))

    few_behind : records_counted (record_part f) ≤ 6 * (n - row_blocks f)
    unfolding record_part row_blocks
    few_behind = rw counted at (held letters2 (said_rows f) f whole_blocks some_blocks (passed z)).all

    module _ {p : ℕ} (ep : p ≡ row_blocks f) where
      pub rows_inside_file : p ≤ n
      rows_inside_file = omega (arith, inside)

      pub part_order : 512 * p ≤ 512 * n
      part_order = omega (arith, inside)

      pub part_length : length (take (512 * n - 512 * p) (drop (512 * p) f)) ≡ 512 * (n - p)
      part_length = omega (arith, inside, length-take (512 * n - 512 * p) (drop (512 * p) f), length-drop (512 * p) f)

      pub part_few : records_counted (take (512 * n - 512 * p) (drop (512 * p) f)) ≤ 6 * (n - p)
      part_few = rw (ep, part_rest) few_behind

      pub few_in_front : rows_stand (sab2_rows f) ≡ true → p ≤ 100
      few_in_front e = omega (arith, few_blocks f e)

      pub held-behind : (x y : ℕ) {b v : List ℕ} {m i j : ℕ} → b ≡ sab2_base f → headed m v i j ≡ head_of b
          → fault x y ≡ or_else (records_fault_on m v p [] 0 (file_records (take (512 * n - 512 * p) (drop (512 * p) f)))) (counts_fault_on v n (vector_in (take (512 - 0) (drop 0 f))) (file_records (take (512 * n - 512 * p) (drop (512 * p) f))))
          → fault x y ≡ held_fault true (sab2_base f) (row_blocks f) n (vector_in (block_at f 0)) (sab2_records f)
      unfolding held_fault or_else fault sab2_records block_at part head_of
      held-behind x y eb eh e =
          let em = ap (λ (x : BaseHead). x.list) eh in
          let ev = ap (λ (x : BaseHead). x.folded) eh in
          e ∙ rw (em, ev, eb, ep, part_rest)

module _ (f : List ℕ) (n : ℕ) (whole : length f ≡ 512 * n) (r bn bp : ℕ) (er : r ≡ said_rows f) (eb : fault bn bp ≡ blocks_fault_as letters2 r f 0 n) where
  blocks_are : sab2_blocks_fault f ≡ fault bn bp
  unfolding sab2_blocks_fault
  blocks_are = rw (blocks_counted f n whole, ← er, ← eb)

  pub block_refused : (bn ≡ 0 → ⊥) → fault bn bp ≡ sab2_fault f
  unfolding sab2_fault or_else fault
  block_refused h = sym (rw (blocks_are, ne_eqb bn 0 h))

  pub blocks_pass : bn ≡ 0 → (sab2_blocks_fault f).number ≡ 0
  unfolding fault
  blocks_pass z = rw blocks_are z

  pub rows_lie : 1 ≤ n → bn ≡ 0 → 512 * row_blocks f ≤ length f
  rows_lie some z = rows_room f n whole some (blocks_pass z)

  module _ (z : bn ≡ 0) {t : Bool} (et : t ≡ rows_stand (sab2_rows f)) where
    then_held : sab2_fault f ≡ held_fault t (sab2_base f) (row_blocks f) n (vector_in (block_at f 0)) (sab2_records f)
    unfolding sab2_fault or_else fault
    then_held = rw (blocks_are, z, ← et, blocks_counted f n whole)

    pub base_refused : not t ≡ true → fault 31 0 ≡ sab2_fault f
    unfolding held_fault or_else fault
    base_refused h = sym (then_held ∙ rw (not-true t h))

    pub stands_so : not t ≡ false → rows_stand (sab2_rows f) ≡ true
    stands_so h = sym et ∙ not-false t h

    pub behind_decides : not t ≡ false → (x y : ℕ) → fault x y ≡ held_fault true (sab2_base f) (row_blocks f) n (vector_in (block_at f 0)) (sab2_records f) → fault x y ≡ sab2_fault f
    behind_decides h x y e = e ∙ sym (then_held ∙ rw (not-false t h))

-- ---- the length

module _ (f : List ℕ) {t : Bool} (e : t ≡ (eqb (length f % 512) 0 && (leb 1 (length f / 512) && leb (length f / 512) 186))) where
  fits_as_lem : sab2_fits (length f) ≡ t
  unfolding sab2_fits
  fits_as_lem = sym e

  pub not_whole : not t ≡ true → fault 2 0 ≡ checked_sab2 f
  unfolding checked_sab2
  not_whole h = rw (fits_as_lem, not-true t h)

  module _ (h : not t ≡ false) where
    tests : (length f % 512 ≡ 0) × (1 ≤ length f / 512) × (length f / 512 ≤ 186)
    tests =
        let (p, q) = and_true (eqb (length f % 512) 0) (leb 1 (length f / 512) && leb (length f / 512) 186) (sym e ∙ not-false t h) in
        let (r, s) = and_true (leb 1 (length f / 512)) (leb (length f / 512) 186) q in
        (eqb-true (length f % 512) 0 p, leb-true 1 (length f / 512) r, leb-true (length f / 512) 186 s)

    pub whole_file : length f ≡ 512 * (length f / 512)
    whole_file = omega (arith, tests.0)

    pub some_block : 1 ≤ length f / 512
    some_block = tests.1

    pub few_file : length f / 512 ≤ 186
    few_file = tests.2

    pub whole-checked : (n p : ℕ) → fault n p ≡ sab2_fault f → fault n p ≡ checked_sab2 f
    unfolding checked_sab2
    whole-checked n p q = q ∙ rw (fits_as_lem, not-false t h)

-- ---- the fault of a file

-- no fault has the number of success
pub not_none : (e : FileFault) → number_told e ≡ 0 → ⊥
not_none (Block fault) z = not_zero fault.refusal z
not_none Base z = omega arith
