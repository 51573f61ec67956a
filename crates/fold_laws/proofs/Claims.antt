-- Folding, of every world that accepted calls leave from the first on: theorems (i) to (v) of K10 at the level of records.
-- Assumes nothing.
use Prim.Native.Nat.{ℕ, ◌≤◌, ◌<◌}
use native.Mathlib.Omega.{arith}
use mathlib.Core.Path.{◌≡◌, refl, ap}
use mathlib.Core.Logic.{◌⊎◌, inl, inr}
use mathlib.Core.Bool.{true, false}
use mathlib.Core.List.{List, []}
use lib.ListN.{get_or, length, take, drop}
use Rattle.model.specs.Record.{Rec, unit, seen}
use Rattle.model.specs.Log.{count, vector_of, count_on, vector_on, sound_after}
use Rattle.model.specs.Replay.{Tree, replay_from, replay, trim}
use Rattle.model.specs.Table.{table_bytes}
use Rattle.base_model.specs.Base.{is_listed}
use Rattle.call_model.specs.Fold.{heard_run, counts_as_base, run_of, folded_base}
use Rattle.log_laws.specs.Sound.{SoundOn}
use Rattle.log_laws.specs.Members.{Has, Agree}
use Rattle.log_laws.proofs.Formed.{well_unit}
use Rattle.log_laws.proofs.Counts.{count-nil, unit_of_on}
use Rattle.log_laws.proofs.Tests.{means_sound_on}
use Rattle.tree_laws.specs.Trees.{SoundTree}
use Rattle.take_laws.proofs.Take.{above_base}
use Rattle.take_laws.proofs.Union.{all_eight}
use Rattle.fold_laws.specs.Worlds.{Store, held_of, vector_held, run, folded_by, World, Event, bare, play, AllAccepted, Naming, Keeping, Inv}
use Rattle.fold_laws.proofs.Stores as Stores
use Rattle.fold_laws.proofs.Worlds as Worlds
use Rattle.fold_laws.proofs.Alike as Alike
use Rattle.fold_laws.proofs.Twice as Twice
use Rattle.fold_laws.proofs.Bases as Bases

-- ---- the run that is folded: it counts, and no longer one within what all have heard does

pub longest_run : (m u : ℕ) (v : List ℕ) (t : Tree) (l : List Rec) → counts_as_base t l 0 ≡ true
    → (counts_as_base t l (run_of m u v t l) ≡ true) × ((k : ℕ) → run_of m u v t l < k → k ≤ heard_run m u v l l → counts_as_base t l k ≡ false)
unfolding run_of
longest_run m u v t l h = (Bases.run-counts m u v t l h, Twice.longest_beyond t l (heard_run m u v l l))

-- base and log stay sound, whatever records in front are folded, from any sound base and log
pub any_fold_sound : (v : List ℕ) (t : Tree) (l : List Rec) (n : ℕ) → SoundOn v l → SoundTree v t
    → SoundTree (vector_on v (take n l)) (trim (replay_from t (take n l))) × SoundOn (vector_on v (take n l)) (drop n l)
any_fold_sound = Bases.fold_sound

-- a second fold by the same list folds nothing, of any sound base and log
pub any_second_fold : (m u : ℕ) (v : List ℕ) (t : Tree) (l : List Rec) (n : ℕ) → n ≡ run_of m u v t l → SoundOn v l → SoundTree v t
    → run_of m u (vector_on v (take n l)) (trim (replay_from t (take n l))) (drop n l) ≡ 0
any_second_fold m u v t l n e h s =
    let left = (Bases.fold_sound v t l n h s).1 in
    Twice.nothing_more m u v t l n e
    (λ q i. (unit_of_on (vector_on v (take n l)) [] (drop n l) q left i, above_base (vector_on v (take n l)) [] (drop n l) q left i))

-- ---- from the first world on

module _ (es : List Event) (ok : AllAccepted bare es) where
  abbrev w : World
  w = play bare es

  inv : Inv w
  inv = Worlds.inv_play bare es Worlds.bare_inv ok

  -- ---- (i) the replay from the base shows what the replay of all records held shows, and the vector counts them all

  pub replay_of_all : (u : ℕ) → table_bytes (replay_from (w.stores u).base.tree (w.stores u).log) ≡ table_bytes (replay (held_of (w.stores u)))
  replay_of_all u = Stores.kept_shown w.used (w.stores u) (inv.kept u)

  pub vector_of_all : (u : ℕ) → vector_held (w.stores u) ≡ vector_of (held_of (w.stores u))
  vector_of_all u = Stores.kept_vector w.used (w.stores u) (inv.kept u)

  -- ---- (iv) base and log are sound, the base is of at most 512 rows each, and the list names the units of all records held

  pub base_sound : (u : ℕ) → SoundTree (w.stores u).base.vector (w.stores u).base.tree
  base_sound u = Bases.kept_base w.used (w.stores u) (inv.kept u)

  pub base_fits : (u : ℕ) → (length (w.stores u).base.tree.entries ≤ 512) × (length (w.stores u).base.tree.asides ≤ 512)
  base_fits u = Bases.kept_rows w.used (w.stores u) (inv.kept u)

  pub log_sound : (u : ℕ) → sound_after (w.stores u).base.vector [] (w.stores u).log ≡ true
  log_sound u = means_sound_on (w.stores u).base.vector (w.stores u).log (Bases.kept_log w.used (w.stores u) (inv.kept u))

  pub units_listed : (u : ℕ) (r : Rec) → Has r (held_of (w.stores u)) → is_listed (w.stores u).base.list (unit r) ≡ true
  units_listed u = (inv.kept u).listed

  -- ---- (v) a second fold by the same list folds nothing

  pub second_fold : (u m : ℕ) → run u m (folded_by u m (w.stores u)) ≡ 0
  unfolding folded_base
  second_fold u m =
      let s : Store = w.stores u in
      any_second_fold m u s.base.vector s.base.tree s.log (run u m s) refl (Bases.kept_log w.used s (inv.kept u)) (base_sound u)

  -- no number is used twice by its unit
  module _ (agree : Agree w.used w.used) where
    -- ---- (ii) equal vectors: the same records held, the same tree and asides shown; and the same log if the base vectors are equal too

    module _ (a b : ℕ)
        (e : (x : ℕ) → x < 8 → count_on (w.stores a).base.vector x (w.stores a).log ≡ count_on (w.stores b).base.vector x (w.stores b).log) where
      pub same_held : held_of (w.stores a) ≡ held_of (w.stores b)
      same_held = Alike.same_held w.used (w.stores a) (w.stores b) agree (inv.kept a) (inv.kept b) e

      pub same_shown : table_bytes (replay_from (w.stores a).base.tree (w.stores a).log) ≡ table_bytes (replay_from (w.stores b).base.tree (w.stores b).log)
      same_shown = Alike.same_shown w.used (w.stores a) (w.stores b) agree (inv.kept a) (inv.kept b) e

      pub same_log : ((x : ℕ) → x < 8 → get_or (w.stores a).base.vector x 0 ≡ get_or (w.stores b).base.vector x 0) → (w.stores a).log ≡ (w.stores b).log
      same_log = Alike.same_log w.used (w.stores a) (w.stores b) agree (inv.kept a) (inv.kept b) e

    -- ---- (iii) passing: every list names each unit that acts, and the vector of b never falls, or b has folded nothing

    module _ (b : ℕ) (named : Naming w.used es) (steady : Keeping b bare es ⊎ ((w.stores b).folded ≡ [])) where
      low : (r : Rec) → Has r w.used → unit r < 8
      low r i = well_unit r (inv.formed r i)

      -- a record that b does not hold covers the base of b: 27 is answered to none
      pub never_27 : (r : Rec) → Has r w.used → (Has r (held_of (w.stores b)) → ⊥) → (u : ℕ) → u < 8 → get_or (w.stores b).base.vector u 0 ≤ seen r u
      never_27 r i d u k = go steady
        where
          go : Keeping b bare es ⊎ ((w.stores b).folded ≡ []) → get_or (w.stores b).base.vector u 0 ≤ seen r u
          go (inl s) =
              Stores.covers_base w.used b (w.stores b) agree inv.formed inv.made (inv.kept b)
              (Worlds.back_play w.used bare es low Worlds.bare_inv ok named (λ x q j. absurd j) b)
              (Worlds.own_play b bare es Worlds.bare_inv ok s (λ x j. absurd j))
              r i d u k
          go (inr e) = omega (arith, (inv.kept b).counts u k, ap (count u) e, count-nil u)

      -- and its unit is listed at b: nor is 26
      pub never_26 : (r : Rec) → Has r w.used → is_listed (w.stores b).base.list (unit r) ≡ true
      never_26 = Worlds.lists_play w.used bare es low named (λ u r i. all_eight (unit r) (low r i)) b
