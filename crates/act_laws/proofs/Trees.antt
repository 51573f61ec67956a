-- The tree of the records of a log, replayed from a sound tree, is sound on the vector that counts them too.
-- Assumes nothing.
use Prim.Native.Nat.{ℕ, suc, ◌+◌, ◌≤◌, ◌<◌}
use native.Mathlib.Omega.{arith}
use mathlib.Core.Path.{sym, ap, ◌∙◌}
use mathlib.Core.List.{List, [], ◌∷◌}
use lib.ListN.{get_or}
use Rattle.model.specs.Record.{Rec, unit}
use Rattle.model.specs.Log.{count, count_on, vector_on}
use Rattle.model.specs.Replay.{Tree, step, replay_from}
use Rattle.log_laws.specs.Sound.{Next, SoundAfter, SoundOn}
use Rattle.log_laws.proofs.Formed.{well_unit}
use Rattle.log_laws.proofs.Counts.{count-nil, count_own, count_plus, count_shift}
use Rattle.log_laws.proofs.Tests.{vector_on_get_d}
use Rattle.tree_laws.specs.Trees.{SoundTree}
use Rattle.tree_laws.proofs.Trees.{sound_wider, sound_step}

sound_next : (v : List ℕ) (t : Tree) (pre : List Rec) (r : Rec) → Next v pre r → SoundTree (vector_on v pre) t → SoundTree (vector_on v (r ∷ pre)) (step t r)
sound_next v t pre r n =
    let b : unit r < 8 = well_unit r n.formed in
    sound_step (vector_on v pre) (vector_on v (r ∷ pre)) t r n.formed
    (n.next ∙ ap suc (sym (vector_on_get_d v pre (unit r) b)))
    (λ u k. omega (arith, n.within u k, vector_on_get_d v pre u k))
    (λ u k. omega (arith, vector_on_get_d v pre u k, vector_on_get_d v (r ∷ pre) u k, count_plus u r pre))
    (omega (arith, n.next, vector_on_get_d v (r ∷ pre) (unit r) b, count_own r pre))

-- w counts the records pre, which stand last first, and those of l
sound_replay : (v w : List ℕ) (t : Tree) (pre l : List Rec) → ((u : ℕ) → u < 8 → count_on v u pre + count u l ≤ get_or w u 0) → SoundAfter v pre l
    → SoundTree (vector_on v pre) t → SoundTree w (replay_from t l)
unfolding replay_from
sound_replay v w t pre [] c h s = sound_wider (vector_on v pre) w t (λ u k. omega (arith, c u k, count-nil u, vector_on_get_d v pre u k)) s
sound_replay v w t pre (r ∷ l) c h s =
    sound_replay v w (step t r) (r ∷ pre) l (λ u k. omega (arith, c u k, count_shift u r pre l)) h.1 (sound_next v t pre r h.0 s)

-- the tree of a base, and of the records of a sound log on it
pub sound_on : (v : List ℕ) (t : Tree) (l : List Rec) → SoundOn v l → SoundTree v t → SoundTree (vector_on v l) (replay_from t l)
sound_on v t l h s =
    sound_replay v (vector_on v l) t [] l (λ u k. omega (arith, count-nil u, vector_on_get_d v l u k)) h
    (sound_wider v (vector_on v []) t (λ u k. omega (arith, vector_on_get_d v [] u k, count-nil u)) s)
