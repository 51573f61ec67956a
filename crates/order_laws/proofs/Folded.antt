-- Where nothing is folded, the base of a sound state has no entry and no aside: the state shows the plain replay of its log.
-- Assumes nothing.
use Prim.Native.Nat.{ℕ}
use native.Mathlib.Omega.{arith}
use mathlib.Core.Path.{◌≡◌, refl, ap}
use mathlib.Core.Bool.{true}
use mathlib.Core.List.{List, [], ◌∷◌}
use lib.ListN.{length}
use Rattle.model.specs.Bytes.{blank}
use Rattle.model.specs.Record.{unit_of}
use Rattle.model.specs.Log.{no_counts, records_of, sound_log}
use Rattle.model.specs.Replay.{Entry, Aside, Tree, empty_tree, replay_from, replay}
use Rattle.base_model.specs.Base.{base_vector, base_tree, sound_base, sound_state, tree_of}
use Rattle.byte_slice.proofs.Compare.{blank-eq, blank_get_d}
use Rattle.vector.proofs.InBytes.{vector_at-length}
use Rattle.log_laws.proofs.Members.{All}
use Rattle.tree_laws.specs.Trees.{EntryFits, AsideFits, SoundTree}
use Rattle.base_laws.proofs.Folds.{state_base, state_log}
use Rattle.base_laws.proofs.Claims.{sound_tree}

-- an identity that is named has a number of at least 1, and a vector of zeros has none
no_entries : (v : List ℕ) (es : List Entry) → blank v ≡ true → All (EntryFits v) es → es ≡ []
no_entries v [] z a = refl
no_entries v (e ∷ es) z a =
    let n = a.0.own_named in
    absurd (omega (arith, n.0, n.1, blank_get_d v (unit_of e.made) z))

no_asides : (v : List ℕ) (l : List Aside) → blank v ≡ true → All (AsideFits v) l → l ≡ []
no_asides v [] z a = refl
no_asides v (x ∷ l) z a =
    let n = a.0.who_named in
    absurd (omega (arith, n.0, n.1, blank_get_d v (unit_of x.who) z))

no_tree : (v : List ℕ) (t : Tree) → blank v ≡ true → SoundTree v t → t ≡ empty_tree
unfolding empty_tree
no_tree v t z s =
    let a = no_entries v t.entries z s.entries_fit in
    let b = no_asides v t.asides z s.asides_fit in
    λ i. record { entries = a i; asides = b i }

-- a sound base whose vector is all zero has an empty tree
pub no_base : (base : List ℕ) → length base ≡ 43032 → sound_base base ≡ true → blank (base_vector base) ≡ true → base_tree base ≡ empty_tree
no_base base n s z = no_tree (base_vector base) (base_tree base) z (sound_tree base n s)

-- eight zeros
pub no_vector : (base : List ℕ) → blank (base_vector base) ≡ true → base_vector base ≡ no_counts
unfolding base_vector
no_vector base z = rw (vector_at-length base 8) at (blank-eq (base_vector base) z)

module _ (log base : List ℕ) (n : length base ≡ 43032) (s : sound_state log base ≡ true) (z : blank (base_vector base) ≡ true) where
  pub plain_tree : tree_of log base ≡ replay (records_of log)
  unfolding tree_of replay
  plain_tree = rw (no_base base n (state_base log base s) z)

  pub plain_log : sound_log log ≡ true
  unfolding sound_log
  plain_log = rw (no_vector base z) at (state_log log base s)
