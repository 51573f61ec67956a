-- An accepted file of either form with one byte changed is refused: by the sums of its block, whatever form its letters then choose.
-- Assumes nothing.
use Prim.Native.Nat.{ℕ, ◌+◌, ◌*◌, ◌/◌, ◌%◌, ◌≤◌, ◌<◌}
use native.Mathlib.Omega.{arith}
use mathlib.Core.Path.{◌≡◌, sym, ap, ◌∙◌}
use mathlib.Core.Logic.{⊎_elim}
use mathlib.Core.Bool.{true, false}
use mathlib.Core.List.{List}
use lib.ListN.{get_or, length, set, length-set}
use lib.Seq.{ext_get_or, get_or-set_same, get_or-set_other}
use Rattle.model.specs.Bytes.{part}
use Rattle.model.specs.Block.{letters, sums_hold}
use Rattle.model.specs.File.{block_at, blocks_in}
use Rattle.run_model.specs.Runs.{letters2}
use Rattle.sab2_model.specs.Sab2.{said_rows, is_sab2, either_fault}
use Rattle.byte_slice.proofs.Numbers.{eq_or_ne, bool_cases}
use Rattle.byte_slice.proofs.Parts.{part_length, get_d_part}
use Rattle.block_laws.proofs.Faults.{three_passed}
use Rattle.block_laws.proofs.Noticed.{noticed_sums}
use Rattle.run_laws.proofs.Again.{Bytes}
use Rattle.run_laws.proofs.Rewritten as Runs
use Rattle.call_laws.proofs.Reading.{checked-right}
use Rattle.file_laws.proofs.Rewritten as Sab1
use Rattle.sab2_laws.proofs.Forms.{sab1_fault, sab2_fault_lem}
use Rattle.sab2_laws.proofs.Rewritten as Sab2

-- whole blocks, in each of which the sums hold
record Summed (f : List ℕ) : Type 0 where
  whole : length f ≡ 512 * blocks_in f
  sums : (k : ℕ) → k < blocks_in f → sums_hold (block_at f k) ≡ true

accepted_summed : (f : List ℕ) → (either_fault f).number ≡ 0 → Summed f
accepted_summed f e =
    ⊎_elim
    (λ (a : is_sab2 f ≡ true).
    let c = rw (sab2_fault_lem f a) at e in
    let (w, n, _) = Sab2.lengths f c in
    record { whole = w; sums = λ k h. (three_passed letters2 (block_at f k) (Runs.agreeing letters2 (said_rows f) f w n (Sab2.blocks_right f c) k h).good).1 })
    (λ (a : is_sab2 f ≡ false).
    let (x, y) = checked-right f (rw (sab1_fault f a) at e) in
    record { whole = (Sab1.lengths f x y).0; sums = λ k h. (three_passed letters (block_at f k) (Sab1.agreeing f x y k h).good).1 })
    (bool_cases (is_sab2 f))

-- an accepted file has a first block
pub whole_accepted : (f : List ℕ) → (either_fault f).number ≡ 0 → 512 ≤ length f
whole_accepted f e =
    ⊎_elim
    (λ (a : is_sab2 f ≡ true). let (w, n, _) = Sab2.lengths f (rw (sab2_fault_lem f a) at e) in omega arith)
    (λ (a : is_sab2 f ≡ false).
    let (x, y) = checked-right f (rw (sab1_fault f a) at e) in
    let (w, n) = Sab1.lengths f x y in
    omega arith)
    (bool_cases (is_sab2 f))

-- the block of the changed byte has that byte changed
block_set : (f : List ℕ) (k j z : ℕ) → 512 * k + 512 ≤ length f → j < 512 → block_at (set f (512 * k + j) z) k ≡ set (block_at f k) j z
unfolding block_at
block_set f k j z h b =
    let n : length (part (set f (512 * k + j) z) (512 * k) 512) ≡ 512 = part_length (set f (512 * k + j) z) (512 * k) 512 (omega (arith, length-set f (512 * k + j) z)) in
    let m : length (part f (512 * k) 512) ≡ 512 = part_length f (512 * k) 512 h in
    ext_get_or 0 (part (set f (512 * k + j) z) (512 * k) 512) (set (part f (512 * k) 512) j z) (omega (arith, length-set (part f (512 * k) 512) j z))
    (λ i q.
    get_d_part (set f (512 * k + j) z) (512 * k) 512 i (omega arith)
    ∙ ⊎_elim
    (λ (e : i ≡ j). rw e (get_or-set_same f (512 * k + j) z 0 (omega arith) ∙ sym (get_or-set_same (part f (512 * k) 512) j z 0 (omega arith))))
    (λ (e : i ≡ j → ⊥).
    get_or-set_other f (512 * k + j) (512 * k + i) z 0 (λ x. e (omega arith))
    ∙ sym (get_or-set_other (part f (512 * k) 512) j i z 0 e ∙ get_d_part f (512 * k) 512 i (omega arith)))
    (eq_or_ne i j))

long_block : (f : List ℕ) (k : ℕ) → 512 * k + 512 ≤ length f → length (block_at f k) ≡ 512
unfolding block_at
long_block f k h = part_length f (512 * k) 512 h

byte_of : (f : List ℕ) (k j : ℕ) → j < 512 → get_or (block_at f k) j 0 ≡ get_or f (512 * k + j) 0
unfolding block_at
byte_of f k j h = get_d_part f (512 * k) 512 j h

-- every place and every other value
pub altered_refused : (f : List ℕ) (i z : ℕ) → Bytes f → (either_fault f).number ≡ 0 → i < length f → z < 256 → (get_or f i 0 ≡ z → ⊥) → (either_fault (set f i z)).number ≡ 0 → ⊥
altered_refused f i z g e h q d y =
    let S : Summed f = accepted_summed f e in
    let T : Summed (set f i z) = accepted_summed (set f i z) y in
    let m : length (set f i z) ≡ length f = length-set f i z in
    let k : i / 512 < blocks_in f = omega (arith, S.whole) in
    let k' : i / 512 < blocks_in (set f i z) = omega (arith, S.whole, T.whole) in
    let l : length (block_at f (i / 512)) ≡ 512 = long_block f (i / 512) (omega (arith, S.whole)) in
    let s : 512 * (i / 512) + i % 512 ≡ i = omega arith in
    let x : get_or (block_at f (i / 512)) (i % 512) 0 ≡ get_or f i 0 = byte_of f (i / 512) (i % 512) (omega arith) ∙ ap (λ n. get_or f n 0) s in
    let p : block_at (set f i z) (i / 512) ≡ set (block_at f (i / 512)) (i % 512) z =
    ap (λ n. block_at (set f n z) (i / 512)) (sym s) ∙ block_set f (i / 512) (i % 512) z (omega (arith, S.whole)) (omega arith) in
    noticed_sums (block_at f (i / 512)) (i % 512) z l (omega arith) (rw x (g i)) q (rw x d) (S.sums (i / 512) k) (rw p at (T.sums (i / 512) k'))
