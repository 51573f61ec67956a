-- What the goals of this crate ask for.
-- Assumes nothing.
use Rattle.std.proofs.Common.{ℕ, true, ◌&&◌, List, [], ◌∷◌, ◌≡◌, ◌+◌, ◌-◌, ◌≤◌, refl, ap, length, append_assoc, arith, add-one}
use Rattle.std.specs.Cmp.Lexicographic.{pointwise}
use Rattle.std.specs.List.{copy_within}
use lib.Dec.{eqb}
use lib.ListN.{set}
use Rattle.model.specs.Bytes.{same_bytes, blank, part, put_at}
use Rattle.byte_slice.proofs.Compare.{run-next, run_end, blank-next, blank-differs, blank_end}
use Rattle.byte_slice.proofs.Parts.{part_length}
use Rattle.byte_slice.proofs.PutAt.{mid_put, sets_put}
use Rattle.byte_slice.proofs.Words.{put_halves}

-- the library's comparison of slices is that of the rules
pub pointwise_same : (a b : List ℕ) → pointwise eqb a b ≡ same_bytes a b
unfolding same_bytes
pointwise_same [] [] = refl
pointwise_same [] (y ∷ b) = refl
pointwise_same (x ∷ a) [] = refl
pointwise_same (x ∷ a) (y ∷ b) = ap (λ t. eqb x y && t) (pointwise_same a b)

-- no bytes are zeros
pub no_run : (s : List ℕ) (at : ℕ) → true ≡ blank (part s at 0)
unfolding blank part
no_run s at = refl

-- two bytes stored one behind the other
pub two_put : (d : List ℕ) (at a b : ℕ) → at + 2 ≤ length d → set (set d at a) (at + 1) b ≡ put_at d at (a ∷ b ∷ [])
two_put d at a b h = rw add-one (sets_put d at (a ∷ b ∷ []) h)

-- a part that is copied elsewhere is written there
pub copied_put : (d : List ℕ) (from to at : ℕ) → from ≤ to → to ≤ length d → copy_within d from to at ≡ put_at d at (part d from (to - from))
unfolding part put_at
copied_put d from to at h g =
    let n : length (part d from (to - from)) ≡ to - from = part_length d from (to - from) (omega arith) in
    rw (n, append_assoc)

pub ruleset ways = (pointwise_same, no_run, run-next, run_end, blank-next, blank-differs, blank_end, mid_put, two_put, copied_put, put_halves)
