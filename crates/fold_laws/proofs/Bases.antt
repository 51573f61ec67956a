-- What a fold leaves is sound, from any sound base and log: the tree on the new vector, and the log that is left.
-- Assumes nothing.
use Prim.Native.Nat.{ℕ, zero, suc, ◌≤◌}
use native.Mathlib.Omega.{arith}
use mathlib.Core.Path.{◌≡◌, sym, ap, ◌∙◌, subst}
use mathlib.Core.Logic.{◌⊎◌, inl, inr}
use mathlib.Core.Bool.{true, false, cond}
use mathlib.Core.List.{List, [], ◌++◌}
use lib.Dec.{leb}
use lib.ListN.{length, take, drop, take-append-drop}
use borrow.Author.Tests.{leb-true}
use Rattle.model.specs.Record.{Rec}
use Rattle.model.specs.Log.{no_counts, vector_on}
use Rattle.model.specs.Replay.{Entry, Tree, empty_tree, present_ones, replay_from, replay, trim}
use Rattle.call_model.specs.Fold.{heard_run, counts_as_base, longest, run_of}
use Rattle.byte_slice.proofs.Numbers.{bool_cases, and_true}
use Rattle.log_laws.specs.Sound.{SoundOn, Sound}
use Rattle.log_laws.proofs.Counts.{sound_front, sound_front_on, no_counts_lem}
use Rattle.log_laws.proofs.Tests.{vector_on_get_d}
use Rattle.tree_laws.specs.Trees.{SoundTree}
use Rattle.tree_laws.proofs.Trees.{sound_wider, sound_empty, sound_trim}
use Rattle.tree_laws.proofs.Trimming.{present_again}
use Rattle.take_laws.proofs.Held.{shed, shed_on}
use Rattle.act_laws.proofs.Trees.{sound_on}
use Rattle.fold_laws.specs.Worlds.{Store, Kept}

-- ---- a fold of n records

pub fold_sound : (v : List ℕ) (t : Tree) (l : List Rec) (n : ℕ) → SoundOn v l → SoundTree v t
    → SoundTree (vector_on v (take n l)) (trim (replay_from t (take n l))) × SoundOn (vector_on v (take n l)) (drop n l)
fold_sound v t l n h s =
    let both : SoundOn v (take n l ++ drop n l) = subst (SoundOn v) (sym (take-append-drop n l)) h in (
      sound_trim (vector_on v (take n l)) (replay_from t (take n l)) (sound_on v t (take n l) (sound_front_on v [] (take n l) (drop n l) both) s),
      shed_on v (vector_on v (take n l)) (take n l) (drop n l) (λ u k. vector_on_get_d v (take n l) u k) both,
    )

-- its base has at most 512 entries and 512 asides, if the one before had
longest-counts : (t : Tree) (l : List Rec) (n : ℕ) → counts_as_base t l 0 ≡ true → counts_as_base t l (longest t l n) ≡ true
unfolding longest
longest-counts t l zero h = h
longest-counts t l (suc n) h = go (bool_cases (counts_as_base t l (suc n))) (longest-counts t l n h)
  where
    go : (counts_as_base t l (suc n) ≡ true) ⊎ (counts_as_base t l (suc n) ≡ false) → counts_as_base t l (longest t l n) ≡ true
        → counts_as_base t l (cond (counts_as_base t l (suc n)) (suc n) (longest t l n)) ≡ true
    go (inl e) k = rw e e
    go (inr e) k = rw e k

pub run-counts : (m u : ℕ) (v : List ℕ) (t : Tree) (l : List Rec) → counts_as_base t l 0 ≡ true → counts_as_base t l (run_of m u v t l) ≡ true
unfolding run_of
run-counts m u v t l = longest-counts t l (heard_run m u v l l)

-- the rows of a base that counts
pub base_rows_lem : (t : Tree) (l : List Rec) → counts_as_base t l 0 ≡ true → (length (present_ones t.entries) ≤ 512) × (length t.asides ≤ 512)
unfolding counts_as_base replay_from
base_rows_lem t l h =
    let (a, b) = and_true (leb (length (present_ones t.entries)) 512) (leb (length t.asides) 512) h in
    (leb-true (length (present_ones t.entries)) 512 a, leb-true (length t.asides) 512 b)

-- ---- the stores that calls leave

pub kept_log : (used : List Rec) (s : Store) → Kept used s → SoundOn s.base.vector s.log
kept_log used s k = shed s.base.vector s.folded s.log k.counts k.sound

pub kept_base : (used : List Rec) (s : Store) → Kept used s → SoundTree s.base.vector s.base.tree
unfolding replay
kept_base used s k =
    let p : List Rec = s.folded in
    let h : Sound p = sound_front [] p s.log k.sound in
    let x : SoundTree (vector_on no_counts p) (trim (replay_from empty_tree p)) =
    sound_trim (vector_on no_counts p) (replay_from empty_tree p) (sound_on no_counts empty_tree p h (sound_empty no_counts)) in
    subst (SoundTree s.base.vector) (sym k.based)
    (sound_wider (vector_on no_counts p) s.base.vector (trim (replay_from empty_tree p)) (λ u b. omega (arith, vector_on_get_d no_counts p u b, no_counts_lem u, k.counts u b)) x)

-- all rows of the base are those of present entries, and at most 512 of each kind
pub kept_rows : (used : List Rec) (s : Store) → Kept used s → (length s.base.tree.entries ≤ 512) × (length s.base.tree.asides ≤ 512)
unfolding trim
kept_rows used s k =
    let (a, b) = base_rows_lem s.base.tree [] k.rows in
    let e : present_ones s.base.tree.entries ≡ s.base.tree.entries =
    ap (λ (t : Tree). present_ones t.entries) k.based ∙ present_again (replay s.folded).entries ∙ ap (λ (t : Tree). t.entries) (sym k.based) in
    (subst (λ (x : List Entry). length x ≤ 512) e a, b)
