-- The blocks of an accepted plan one after another, over plain values.
-- Assumes nothing.
use Prim.Native.Nat.{ℕ, zero, suc, ◌+◌, ◌-◌, ◌*◌, ◌/◌, ◌≤◌, ◌<◌}
use native.Mathlib.Numerals.{add-one}
use native.Mathlib.Omega.{arith}
use mathlib.Core.Path.{◌≡◌, refl, sym, ap, subst, ◌∙◌}
use mathlib.Core.Logic.{⊎_elim}
use mathlib.Core.List.{List}
use lib.Dec.{eqb}
use lib.ListN.{length, take, drop, replicate, length-take, length-drop}
use borrow.Author.Tests.{eqb-true, eqb-false}
use Rattle.model.specs.Bytes.{part}
use Rattle.model.specs.File.{Fault, fault, block_at}
use Rattle.byte_slice.proofs.Numbers.{cond_cases}
use Rattle.byte_slice.proofs.Parts.{part_is}
use Rattle.plan_model.specs.Plan.{piece_fault, piece_fault_at, plan_archive, plan_fault_from, plan_fault, plan_block_fault, pieces, Round, round, new_round, block_done, blocks_done, round_of}
use Rattle.plan_units.specs.Units.{Units}
use Rattle.plan_units.proofs.Logs.{units_new}
use Rattle.plan_units.proofs.Holding.{accepted_piece}
use Rattle.plan_round.proofs.Rounds.{block_goes}

one_more : (archive : ℕ) (f : List ℕ) (s : Round) (k n : ℕ) → blocks_done archive s f k (suc n) ≡ blocks_done archive (block_done archive s (block_at f k)) f (suc k) n
unfolding blocks_done
one_more archive f s k n = refl

-- ---- each block passed

first_passes : (f : List ℕ) (n k : ℕ) → (plan_fault_from f k (suc n)).number ≡ 0
    → (piece_fault (plan_archive f) k (block_at f k) ≡ 0) × ((plan_fault_from f (suc k) n).number ≡ 0)
unfolding plan_fault_from fault
first_passes f n k h =
    let x : ℕ = piece_fault (plan_archive f) k (block_at f k) in
    ⊎_elim
    (λ c. (eqb-true x 0 c.0, ap (λ (y : Fault). y.number) (sym c.1) ∙ h))
    (λ c. absurd (eqb-false x 0 c.0 (ap (λ (y : Fault). y.number) (sym c.1) ∙ h)))
    (cond_cases (eqb x 0) (plan_fault_from f (suc k) n) (piece_fault_at x k))

piece_passes : (f : List ℕ) (n k j : ℕ) → (plan_fault_from f k n).number ≡ 0 → j < n → piece_fault (plan_archive f) (k + j) (block_at f (k + j)) ≡ 0
piece_passes f zero k j h l = absurd (omega arith)
piece_passes f (suc n) k zero h l = let e : k + 0 ≡ k = omega arith in rw e (first_passes f n k h).0
piece_passes f (suc n) k (suc j) h l =
    let e : k + suc j ≡ suc k + j = omega arith in
    rw e (piece_passes f n (suc k) j (first_passes f n k h).1 (omega arith))

module _ (f : List ℕ) (archive n k : ℕ) (accepted : (plan_fault f).number ≡ 0) (own : archive ≡ plan_archive f) (all : n ≡ (length f + 511) / 512) (lt : k < n) where
  passes : piece_fault archive k (block_at f k) ≡ 0
  unfolding plan_fault pieces
  passes =
      let e : 0 + k ≡ k = omega arith in
      let p = piece_passes f ((length f + 511) / 512) 0 k accepted (omega arith) in
      rw own (subst (λ (j : ℕ). piece_fault (plan_archive f) j (block_at f j) ≡ 0) e p)

  pub few_skipped : (j : ℕ) → j ≤ 5 * k → j + 5 < 65536
  few_skipped j h = omega (arith, (accepted_piece archive k (block_at f k) passes).0)

  pub block_inside : 512 * k + 512 ≤ length f
  unfolding block_at part
  block_inside =
      let e = (accepted_piece archive k (block_at f k) passes).1 in
      omega (arith, length-take 512 (drop (512 * k) f), length-drop (512 * k) f)

  pub block_long : length (take (512 * k + 512 - 512 * k) (drop (512 * k) f)) ≡ 512
  unfolding block_at
  block_long = rw (part_is f (512 * k) 512) (accepted_piece archive k (block_at f k) passes).1

  pub block_passes : plan_block_fault archive (take (512 * k + 512 - 512 * k) (drop (512 * k) f)) ≡ 0
  unfolding block_at
  block_passes = rw (part_is f (512 * k) 512) (accepted_piece archive k (block_at f k) passes).2

  -- ---- block after block

  module _ (s s' : List ℕ) (m j m' j' : ℕ) (units : Units s)
      (done : round s' m' j' ≡ block_done archive (round s m j) (take (512 * k + 512 - 512 * k) (drop (512 * k) f))) where
    goes : Units s' × (j' ≤ j + 5)
    goes =
        subst (λ (x : Round). Units x.logs × (x.skipped ≤ j + 5)) (sym done)
        (block_goes archive (round s m j) (take (512 * k + 512 - 512 * k) (drop (512 * k) f)) units block_passes)

    pub units_on : Units s'
    units_on = goes.0

    pub skipped_on : j ≤ 5 * k → j' ≤ 5 * (k + 1)
    skipped_on h = omega (arith, goes.1)

    pub goes_on_lem : blocks_done archive (round s m j) f k (n - k) ≡ round_of f → blocks_done archive (round s' m' j') f (k + 1) (n - (k + 1)) ≡ round_of f
    unfolding block_at
    goes_on_lem inv =
        let t : Round = block_done archive (round s m j) (block_at f k) in
        let e : n - k ≡ suc (n - (k + 1)) = omega arith in
        let h : round s' m' j' ≡ t = rw (part_is f (512 * k) 512) at done in
        ap (λ (x : Round). blocks_done archive x f (k + 1) (n - (k + 1))) h
        ∙ ap (λ (i : ℕ). blocks_done archive t f i (n - (k + 1))) (add-one k)
        ∙ sym (one_more archive f (round s m j) k (n - (k + 1)))
        ∙ ap (blocks_done archive (round s m j) f k) (sym e)
        ∙ inv

-- ---- the start and the end

pub cleared : (s : List ℕ) (n : ℕ) {z : List ℕ} → z ≡ replicate (length s) 0 → length s ≡ n → z ≡ replicate n 0
cleared s n e h = e ∙ ap (λ (k : ℕ). replicate k 0) h

pub starts : (f : List ℕ) {archive n : ℕ} {logs : List ℕ} → archive ≡ plan_archive f → n ≡ (length f + 511) / 512 → logs ≡ replicate 327680 0
    → blocks_done archive (round logs 0 0) f 0 (n - 0) ≡ round_of f
unfolding round_of pieces
starts f {archive} {n} {logs} own all z =
    let e : n - 0 ≡ n = omega arith in
    ap (λ (a : ℕ). blocks_done a (round logs 0 0) f 0 (n - 0)) own
    ∙ ap (λ (l : List ℕ). blocks_done (plan_archive f) (round l 0 0) f 0 (n - 0)) z
    ∙ ap (blocks_done (plan_archive f) new_round f 0) (e ∙ all)

pub units_start : (logs : List ℕ) → logs ≡ replicate 327680 0 → Units logs
units_start logs z = rw z units_new

pub logs_are : (f : List ℕ) {logs : List ℕ} {m j : ℕ} → round logs m j ≡ round_of f → logs ≡ (round_of f).logs
logs_are f e = ap (λ (x : Round). x.logs) e

pub skipped_are : (f : List ℕ) {logs : List ℕ} {m j : ℕ} → round logs m j ≡ round_of f → j ≡ (round_of f).skipped
skipped_are f e = ap (λ (x : Round). x.skipped) e

pub ends : (f : List ℕ) (archive n k : ℕ) (t : Round) → k ≤ n → n ≤ k → blocks_done archive t f k (n - k) ≡ round_of f → t ≡ round_of f
unfolding blocks_done
ends f archive n k t l g inv = let e : n - k ≡ 0 = omega arith in rw e at inv
