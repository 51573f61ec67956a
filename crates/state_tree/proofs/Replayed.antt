-- The records of a sound state's log may be replayed from the tree of its base, and what comes of it is the tree of the state.
-- Assumes nothing.
use Prim.Native.Nat.{ℕ, ◌+◌, ◌*◌, ◌/◌, ◌%◌, ◌≤◌, ◌<◌}
use native.Mathlib.Omega.{arith}
use mathlib.Core.Path.{◌≡◌, refl, sym}
use mathlib.Core.Logic.{⊎_elim}
use mathlib.Core.Bool.{true, ◌&&◌}
use mathlib.Core.List.{List, []}
use lib.ListN.{get_or, length}
use Rattle.model.specs.Bytes.{word}
use Rattle.model.specs.Record.{Rec, identity, unit, num, self_of}
use Rattle.model.specs.Log.{count_on, records_of, sound_log_on}
use Rattle.model.specs.Replay.{replay_from}
use Rattle.base_model.specs.Base.{base_vector, base_tree, lists_all, held_on, sound_base, sound_state, tree_of}
use Rattle.byte_slice.proofs.Numbers.{and_true, eq_or_ne}
use Rattle.log_laws.specs.Members.{Has}
use Rattle.log_laws.specs.Sound.{SoundOn}
use Rattle.log_laws.proofs.Counts.{numbers_on, unit_of_on, count-nil}
use Rattle.log_laws.proofs.Tests.{vector_on_get_d}
use Rattle.encoding_laws.proofs.Logs.{sound_records_on, sound_few}
use Rattle.log_check.specs.declared.Layout.TheVariants.{Log}
use Rattle.log_check.specs.Places.{laid_at, Laid}
use Rattle.log_check.specs.InOrder.{listed}
use Rattle.log_check.proofs.Sound.{listed_records, log_laid}
use Rattle.tree_table.specs.Rows.{tree_in}
use Rattle.hash_chains.specs.Chains.{nodes_in}
use Rattle.tree_lookup.specs.Roles.{role_of, Works, Holds}
use Rattle.tree_lookup.proofs.Working.{works_tree, works_holds}
use Rattle.tree_replay.specs.Playable.{Playable}
use Rattle.tree_replay.proofs.Sound.{playable_on}
use Rattle.base_laws.proofs.Trees.{sound_tells}
use Rattle.base_load.specs.Loading.{Loads, tree_to}
use Rattle.state_tree.specs.Small.{Small}
use Rattle.state_tree.proofs.Loads.{sound_loads, not_there}

tree_to_lem : (base : List ℕ) → tree_to base (word base 2) (word base 4) ≡ base_tree base
unfolding tree_to base_tree
tree_to_lem base = refl

-- ---- counts of 16 bits

pub held_small : (v w : List ℕ) → v ≡ w → Small v → Small w
held_small v w e s = rw (← e) s

-- ---- a sound state told apart

module _ (log base : List ℕ) (s : sound_state log base ≡ true) where
  pub state_base : sound_base base ≡ true
  unfolding sound_state
  state_base = (and_true (sound_base base) (sound_log_on (base_vector base) log && lists_all (get_or base 0 0) (held_on log base)) s).0

  pub state_log : sound_log_on (base_vector base) log ≡ true
  unfolding sound_state
  state_log =
      (and_true (sound_log_on (base_vector base) log) (lists_all (get_or base 0 0) (held_on log base))
      (and_true (sound_base base) (sound_log_on (base_vector base) log && lists_all (get_or base 0 0) (held_on log base)) s).1).0

  pub state_records : SoundOn (base_vector base) (records_of log)
  state_records = sound_records_on (base_vector base) log state_log

-- ---- room for all of them

module _ (log base : List ℕ) (s : sound_state log base ≡ true) (k : ℕ) (c : k ≡ length (records_of log)) where
  pub entries_room : (n : ℕ) → n ≡ word base 2 → n + k ≤ 1024
  entries_room n e = omega (arith, sound_few log, (sound_tells base (state_base log base s)).few_entries)

  pub asides_room : (m : ℕ) → m ≡ word base 4 → m + k ≤ 1024
  asides_room m f = omega (arith, sound_few log, (sound_tells base (state_base log base s)).few_asides)

  pub both_room : (n m : ℕ) → n ≡ word base 2 → m ≡ word base 4 → n + m + k ≤ 1536
  both_room n m e f = omega (arith, sound_few log, (sound_tells base (state_base log base s)).few_entries, (sound_tells base (state_base log base s)).few_asides)

  pub nodes_room : (n : ℕ) → n ≡ word base 2 → (register : List ℕ) → nodes_in 4097 register ≡ n → nodes_in 4097 register + k ≤ 1536
  nodes_room n e register nodes = omega (arith, sound_few log, (sound_tells base (state_base log base s)).few_entries)

module _ (log base : List ℕ) (s : sound_state log base ≡ true) (held : List ℕ) (are : Small held) (is : held ≡ held_on log base) (len : length base ≡ 43032) where
  small : Small (held_on log base)
  small = held_small held (held_on log base) is are

  counts_small : (u : ℕ) → u < 8 → count_on (base_vector base) u (records_of log) < 65536
  counts_small u h = omega (arith, small.at u h, vector_on_get_d (base_vector base) (records_of log) u h)

  base_small : Small (base_vector base)
  base_small = record { at = λ u h. omega (arith, counts_small u h) }

  module _ (n m : ℕ) (e : n ≡ word base 2) (f : m ≡ word base 4) where
    pub state_loads : Loads base n m
    state_loads = rw (e, f) (sound_loads base len (state_base log base s) base_small)

    -- what `replay` is asked once the base is loaded
    module _ (table register : List ℕ) (w : Works table register n m (tree_to base n m)) (k : ℕ) (c : k ≡ length (records_of log)) where
      fresh : (r : Rec) → Has r (records_of log) → role_of (self_of r) (tree_in table n m) ≡ 0
      unfolding self_of identity
      fresh r i =
          let v = base_vector base in
          let so = state_records log base s in
          let u : unit r < 8 = unit_of_on v [] (records_of log) r so i in
          let a = (numbers_on v [] (records_of log) r so i).0 in
          let b = count-nil (unit r) in
          let x : (8 * num r + unit r) % 8 ≡ unit r = omega arith in
          let y : (8 * num r + unit r) / 8 ≡ num r = omega arith in
          rw (works_tree table register n m (tree_to base n m) w, e, f)
          (not_there base len (state_base log base s) (8 * num r + unit r) (rw (x, y) (omega arith)))

      pub log_plays : Playable (tree_in table n m) (laid_at Log log) k
      log_plays =
          playable_on (base_vector base) (tree_in table n m) (laid_at Log log) k (records_of log) (sym (listed_records log k c)) (sym c) (state_records log base s) counts_small fresh

      pub base_holds : Holds table register n m
      base_holds = works_holds table register n m (tree_to base n m) w

      pub log_lies : length log ≡ 40960 → Laid Log log k
      log_lies h = log_laid log k c h

      pub state_replayed : (b' register' : List ℕ) (x y : ℕ) → Works b' register' x y (replay_from (tree_in table n m) (listed (laid_at Log log) 0 k)) → Works b' register' x y (tree_of log base)
      unfolding tree_of
      state_replayed b' register' x y o =
          let z : replay_from (tree_in table n m) (listed (laid_at Log log) 0 k) ≡ replay_from (base_tree base) (records_of log) =
          (rw (works_tree table register n m (tree_to base n m) w, listed_records log k c, e, f, tree_to_lem base)) in
          rw (← z) o

pub plays_on : (table register base : List ℕ) (n m : ℕ) → Works table register n m (tree_to base n m) → (held : List ℕ) → Small held → (log : List ℕ) → sound_state log base ≡ true → held ≡ held_on log base
    → length base ≡ 43032 → n ≡ word base 2 → m ≡ word base 4 → (k : ℕ) → k ≡ length (records_of log) → Playable (tree_in table n m) (laid_at Log log) k
plays_on table register base n m w held are log s is len e f k c = log_plays log base s held are is len n m e f table register w k c
