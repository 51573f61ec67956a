-- What the goals of this crate ask for.
use Rattle.std.proofs.Common.{ℕ, List, ◌≡◌, true, refl}
use Rattle.model.specs.Vector.{covers_to, lacks_to}
use Rattle.vector.proofs.Distances.{lacks_next, lacks_ends}
use Rattle.vector.proofs.Dominance.{covers-next, covers_ends}
use Rattle.vector.proofs.Higher.{has_room, one_higher}
use Rattle.vector.proofs.InBytes.{vector_at_flat}

pub no_counts : (a b : List ℕ) → true ≡ covers_to a b 0
unfolding covers_to
no_counts a b = refl

pub none_lacks : (a b : List ℕ) → 0 ≡ lacks_to a b 0
unfolding lacks_to
none_lacks a b = refl

pub ruleset ways = (no_counts, covers-next, covers_ends, none_lacks, lacks_next, lacks_ends, vector_at_flat, has_room, one_higher)
