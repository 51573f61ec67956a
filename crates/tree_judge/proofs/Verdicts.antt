-- The two numbers of a judgement are those of its verdict.
-- Assumes nothing.
use Prim.Native.Nat.{ℕ}
use mathlib.Core.Path.{◌≡◌, refl, sym, ap, ◌∙◌}
use mathlib.Core.Logic.{⊎_elim}
use borrow.Author.Tests.{ne_eqb}
use Rattle.model.specs.Replay.{Verdict, reason_of}
use Rattle.byte_slice.proofs.Numbers.{eq_or_ne}
use Rattle.tree_judge.specs.Judged.{verdict_of, marked_of}

both : (n k : ℕ) → (reason_of (verdict_of n k) ≡ n) × (marked_of (verdict_of n k) ≡ k)
unfolding verdict_of reason_of marked_of
both n k =
    ⊎_elim
    (λ (p : n ≡ 0). ⊎_elim (λ (q : k ≡ 0). rw (p, q) (refl, refl)) (λ (q : k ≡ 0 → ⊥). rw (p, ne_eqb k 0 q) (refl, refl)) (eq_or_ne k 0))
    (λ (p : n ≡ 0 → ⊥). rw (ne_eqb n 0 p) (refl, refl))
    (eq_or_ne n 0)

-- a verdict gives both numbers
pub verdict_numbers : (n k : ℕ) (v : Verdict) → verdict_of n k ≡ v → (n ≡ reason_of v) × (k ≡ marked_of v)
verdict_numbers n k v e = (sym (both n k).0 ∙ ap reason_of e, sym (both n k).1 ∙ ap marked_of e)
