-- The records that a vector lacks of a sound log are as many as it is behind.
-- Assumes nothing.
use Prim.Native.Nat.{ℕ, zero, suc, ◌+◌, ◌-◌, min}
use native.Mathlib.Omega.{arith}
use mathlib.Core.Path.{◌≡◌, refl, sym, ap, ◌∙◌}
use mathlib.Core.List.{List, []}
use lib.ListN.{get_or, length, take, length-take}
use Rattle.model.specs.Vector.{lacks_to, lacks_of, handed_count}
use Rattle.model.specs.Record.{Rec}
use Rattle.model.specs.Log.{sum_to, count, vector_of, lacking}
use Rattle.log_laws.specs.Sound.{Sound}
use Rattle.log_laws.proofs.Sums.{sum_to-eq}
use Rattle.log_laws.proofs.Counts.{count-nil, length-counts, unit_of_lem}
use Rattle.log_laws.proofs.Lacking.{has_lacking, count-lacking}
use Rattle.log_laws.proofs.Tests.{vector_of_get_d}

lacks_sum : (a b : List ℕ) (n : ℕ) → lacks_to a b n ≡ sum_to n (λ u. get_or b u 0 - get_or a u 0)
unfolding lacks_to
lacks_sum a b zero = refl
lacks_sum a b (suc n) = ap (λ (x : ℕ). x + (get_or b n 0 - get_or a n 0)) (lacks_sum a b n)

-- of a sound log
pub lacking-length : (v : List ℕ) (l : List Rec) → Sound l → length (lacking v l) ≡ lacks_of v (vector_of l)
unfolding lacks_of
lacking-length v l h =
    let m : List Rec = lacking v l in
    sym (length-counts m (λ r i. unit_of_lem [] l r h (has_lacking v l r i)))
    ∙ sum_to-eq 8 (λ u. count u m) (λ u. get_or (vector_of l) u 0 - get_or v u 0)
    (λ u k. omega (arith, count-lacking v u [] l h, vector_of_get_d l u k, count-nil u))
    ∙ sym (lacks_sum v (vector_of l) 8)

-- so the lesser of 6 and what is lacked is handed out
pub handed-count : (v : List ℕ) (l : List Rec) → Sound l → length (take 6 (lacking v l)) ≡ handed_count v (vector_of l)
unfolding handed_count
handed-count v l h = length-take 6 (lacking v l) ∙ ap (min 6) (lacking-length v l h)
