-- Records behind a base: the tree that they leave is sound on the vector that counts them, and those behind a first run are sound behind it.
-- Assumes nothing.
use Prim.Native.Nat.{ℕ, suc, ◌+◌, ◌≤◌, ◌<◌}
use native.Mathlib.Omega.{arith}
use mathlib.Core.Path.{◌≡◌, sym, ap, ◌∙◌}
use mathlib.Core.Logic.{inl}
use mathlib.Core.List.{List, [], ◌∷◌, ◌++◌}
use lib.ListN.{get_or}
use lib.Seq.{ext_get_or}
use Rattle.model.specs.Record.{Rec, unit}
use Rattle.model.specs.Log.{count, count_on, vector_on}
use Rattle.model.specs.Replay.{Tree, step, replay_from, trim}
use Rattle.log_laws.specs.Sound.{Next, SoundAfter}
use Rattle.log_laws.proofs.Formed.{well_unit}
use Rattle.log_laws.proofs.Members.{append_has}
use Rattle.log_laws.proofs.Counts.{count-nil, count_own, count_plus, count-append}
use Rattle.log_laws.proofs.Tests.{vector_on-length, vector_on_get_d}
use Rattle.tree_laws.specs.Trees.{SoundTree}
use Rattle.tree_laws.proofs.Trees.{Wider, sound_wider, sound_step}
use Rattle.tree_laws.proofs.Settling.{replay-append}
use Rattle.tree_laws.proofs.Trimming.{trim_again, replay-alike}

-- ---- records put before others, last first

unfoldable pub onto : List Rec → List Rec → List Rec
onto [] pre = pre
onto (x ∷ p) pre = onto p (x ∷ pre)

onto_count : (u : ℕ) (p pre : List Rec) → count u (onto p pre) ≡ count u p + count u pre
unfolding onto
onto_count u [] pre = omega (arith, count-nil u)
onto_count u (x ∷ p) pre = omega (arith, onto_count u p (x ∷ pre), count_plus u x pre, count_plus u x p)

-- ---- the tree

-- vectors that count one another's records
wider_count : (v : List ℕ) (p q : List Rec) → ((u : ℕ) → count u p ≤ count u q) → Wider (vector_on v p) (vector_on v q)
wider_count v p q h u k = omega (arith, vector_on_get_d v p u k, vector_on_get_d v q u k, h u)

sound_next : (v : List ℕ) (t : Tree) (pre : List Rec) (r : Rec) → Next v pre r → SoundTree (vector_on v pre) t → SoundTree (vector_on v (r ∷ pre)) (step t r)
sound_next v t pre r n =
    let b : unit r < 8 = low in
    sound_step (vector_on v pre) (vector_on v (r ∷ pre)) t r n.formed
    (n.next ∙ ap suc (sym (vector_on_get_d v pre (unit r) b)))
    (λ u k. omega (arith, n.within u k, vector_on_get_d v pre u k))
    (wider_count v pre (r ∷ pre) (λ u. omega (arith, count_plus u r pre)))
    (omega (arith, n.next, vector_on_get_d v (r ∷ pre) (unit r) b, count_own r pre))
  where
    low : unit r < 8
    low = well_unit r n.formed

sound_replay : (v : List ℕ) (t : Tree) (pre l : List Rec) → SoundAfter v pre l → SoundTree (vector_on v pre) t → SoundTree (vector_on v (onto l pre)) (replay_from t l)
unfolding onto replay_from
sound_replay v t pre [] h s = s
sound_replay v t pre (r ∷ l) h s = sound_replay v (step t r) (r ∷ pre) l h.1 (sound_next v t pre r h.0 s)

-- the tree of a base, and of the records of a sound log behind it
pub sound_on : (v : List ℕ) (t : Tree) (l : List Rec) → SoundAfter v [] l → SoundTree v t → SoundTree (vector_on v l) (replay_from t l)
sound_on v t l h s =
    sound_wider (vector_on v (onto l [])) (vector_on v l) (replay_from t l) (wider_count v (onto l []) l (λ u. omega (arith, onto_count u l [], count-nil u)))
    (sound_replay v t [] l h (sound_wider v (vector_on v []) t (λ u k. omega (arith, vector_on_get_d v [] u k, count-nil u)) s))

-- from a first run's tree without removed entries the rest leaves the same
pub replay-behind : (t : Tree) (p l : List Rec) → trim (replay_from (trim (replay_from t p)) l) ≡ trim (replay_from t (p ++ l))
replay-behind t p l = replay-alike l (trim (replay_from t p)) (replay_from t p) (trim_again (replay_from t p)) ∙ ap trim (sym (replay-append t p l))

-- ---- the log

back : (v : List ℕ) (pre p l : List Rec) → SoundAfter v pre (p ++ l) → SoundAfter v (onto p pre) l
unfolding onto
back v pre [] l h = h
back v pre (x ∷ p) l h = back v (x ∷ pre) p l h.1

-- records in front may go into the vector
shed_all : (v w : List ℕ) (q : List Rec) → ((u : ℕ) → u < 8 → get_or w u 0 ≡ count_on v u q) → (pre l : List Rec) → SoundAfter v (pre ++ q) l → SoundAfter w pre l
shed_all v w q c pre [] h = tt
shed_all v w q c pre (r ∷ l) h = (one h.0, shed_all v w q c (r ∷ pre) l h.1)
  where
    one : Next v (pre ++ q) r → Next w pre r
    one n =
        record {
          formed = n.formed;
          next = omega (arith, n.next, count-append (unit r) pre q, c (unit r) (well_unit r n.formed));
          within = λ u k. omega (arith, n.within u k, count-append u pre q, c u k);
          closed = λ s i. n.closed s (append_has pre q s (inl i));
          above = λ s i. n.above s (append_has pre q s (inl i));
        }

-- the records behind p are sound behind the vector that counts p too
pub shed_on : (v w : List ℕ) (p l : List Rec) → ((u : ℕ) → u < 8 → get_or w u 0 ≡ count_on v u p) → SoundAfter v [] (p ++ l) → SoundAfter w [] l
shed_on v w p l c h = shed_all v w (onto p []) (λ u k. omega (arith, c u k, onto_count u p [], count-nil u)) [] l (back v [] p l h)

-- ---- the vector

-- counted in two runs
pub vector_behind : (v : List ℕ) (p l : List Rec) → vector_on (vector_on v p) l ≡ vector_on v (p ++ l)
vector_behind v p l =
    ext_get_or 0 (vector_on (vector_on v p) l) (vector_on v (p ++ l)) (vector_on-length (vector_on v p) l ∙ sym (vector_on-length v (p ++ l)))
    (λ u k.
    let g : u < 8 = omega (arith, vector_on-length (vector_on v p) l) in
    omega (arith, vector_on_get_d (vector_on v p) l u g, vector_on_get_d v p u g, vector_on_get_d v (p ++ l) u g, count-append u p l))
