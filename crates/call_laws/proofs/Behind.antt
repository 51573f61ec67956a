-- The records that a vector lacks of a log behind a base are as many as it is behind, if it covers the base vector.
-- Assumes nothing.
use Prim.Native.Nat.{ℕ, zero, suc, ◌+◌, ◌-◌, min}
use native.Mathlib.Omega.{arith}
use mathlib.Core.Path.{◌≡◌, refl, sym, ap, ◌∙◌}
use mathlib.Core.Bool.{true}
use mathlib.Core.List.{List, []}
use lib.ListN.{get_or, length, take, length-take}
use Rattle.model.specs.Vector.{covers, lacks_to, lacks_of, handed_count}
use Rattle.model.specs.Record.{Rec}
use Rattle.model.specs.Log.{sum_to, count, vector_on, lacking}
use Rattle.vector.proofs.Dominance.{covers_at}
use Rattle.log_laws.specs.Sound.{SoundOn}
use Rattle.log_laws.proofs.Sums.{sum_to-eq}
use Rattle.log_laws.proofs.Counts.{count-nil, length-counts, unit_of_on}
use Rattle.log_laws.proofs.Lacking.{has_lacking, count_lacking_on}
use Rattle.log_laws.proofs.Tests.{vector_on_get_d}

lacks_sum : (a b : List ℕ) (n : ℕ) → lacks_to a b n ≡ sum_to n (λ u. get_or b u 0 - get_or a u 0)
unfolding lacks_to
lacks_sum a b zero = refl
lacks_sum a b (suc n) = ap (λ (x : ℕ). x + (get_or b n 0 - get_or a n 0)) (lacks_sum a b n)

pub lacking_length_on : (base v : List ℕ) (l : List Rec) → SoundOn base l → covers v base ≡ true → length (lacking v l) ≡ lacks_of v (vector_on base l)
unfolding lacks_of
lacking_length_on base v l h c =
    let m : List Rec = lacking v l in
    sym (length-counts m (λ r i. unit_of_on base [] l r h (has_lacking v l r i)))
    ∙ sum_to-eq 8 (λ u. count u m) (λ u. get_or (vector_on base l) u 0 - get_or v u 0)
    (λ u k. omega (arith, count_lacking_on base v u [] l h, vector_on_get_d base l u k, count-nil u, covers_at v base c u k))
    ∙ sym (lacks_sum v (vector_on base l) 8)

-- so the lesser of 6 and what is lacked is handed out
pub handed_count_on : (base v : List ℕ) (l : List Rec) → SoundOn base l → covers v base ≡ true → length (take 6 (lacking v l)) ≡ handed_count v (vector_on base l)
unfolding handed_count
handed_count_on base v l h c = length-take 6 (lacking v l) ∙ ap (min 6) (lacking_length_on base v l h c)
