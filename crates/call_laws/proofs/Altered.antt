-- A block with one byte changed is refused, and the log stays.
-- Assumes nothing.
use Prim.Native.Nat.{ℕ, zero, suc, ◌<◌}
use native.Mathlib.Omega.{arith}
use mathlib.Core.Path.{◌≡◌, refl}
use mathlib.Core.Bool.{true}
use mathlib.Core.List.{List, []}
use lib.ListN.{get_or, length, set}
use Rattle.model.specs.Block.{block_fault, given_fault}
use Rattle.call_model.specs.Outcome.{refusal, or_refused, guard_number, guarded, took_block, take_of}
use Rattle.block_laws.proofs.Noticed.{altered_given}

pub altered_taken : (archive u : ℕ) (log base b : List ℕ) (i z : ℕ) → length b ≡ 512 → i < 512 → get_or b i 0 < 256 → z < 256 → (get_or b i 0 ≡ z → ⊥) → block_fault b ≡ 0
    → ((take_of archive u log base (set b i z)).number ≡ 0 → ⊥) × ((take_of archive u log base (set b i z)).log ≡ log)
unfolding take_of guarded took_block
altered_taken archive u log base b i z l h p q d e = go (given_fault archive (set b i z)) (altered_given archive b i z l h p q d e)
  where
    checked : (k n : ℕ) → ((or_refused k log [] (refusal (suc n) log [])).number ≡ 0 → ⊥) × ((or_refused k log [] (refusal (suc n) log [])).log ≡ log)
    checked zero n = (λ x. omega arith, refl)
    checked (suc k) n = (λ x. omega arith, refl)

    go : (n : ℕ) → (n ≡ 0 → ⊥)
        → ((guarded u log base [] true (took_block log base (set b i z) n)).number ≡ 0 → ⊥) × ((guarded u log base [] true (took_block log base (set b i z) n)).log ≡ log)
    go zero x = absurd (x refl)
    go (suc n) x = checked (guard_number u log base true true) n
