-- A run of records replayed from the base of a state.
-- Assumes nothing.
use Prim.Native.Nat.{ℕ, zero, suc, ◌+◌, ◌≤◌, ◌<◌}
use native.Mathlib.Omega.{arith}
use mathlib.Core.Path.{◌≡◌, refl, ap, ◌∙◌}
use mathlib.Core.Bool.{true}
use mathlib.Core.List.{List}
use lib.ListN.{length, take, replicate}
use Rattle.model.specs.Bytes.{word}
use Rattle.model.specs.Record.{Rec}
use Rattle.model.specs.Log.{records_of}
use Rattle.model.specs.Replay.{Tree, is_present, present_ones, replay_from}
use Rattle.base_model.specs.Base.{base_tree, base_entry, base_entries, held_on, sound_state}
use Rattle.call_model.specs.Fold.{longest}
use Rattle.fold_count_laws.specs.Counted.{present_count}
use Rattle.fold_run.proofs.Runs.{records_front}
use Rattle.hash_chains.specs.Chains.{nodes_in}
use Rattle.log_check.specs.declared.Layout.TheVariants.{Log}
use Rattle.log_check.specs.Places.{laid_at, Laid}
use Rattle.log_check.specs.InOrder.{listed}
use Rattle.log_check.proofs.Sound.{log_laid}
use Rattle.tree_table.specs.Rows.{tree_in}
use Rattle.tree_lookup.specs.Roles.{Works, Holds}
use Rattle.tree_lookup.proofs.Working.{works_tree, works_holds}
use Rattle.tree_replay.specs.Playable.{Playable}
use Rattle.base_load.specs.Loading.{Loads, tree_to}
use Rattle.state_tree.specs.Small.{Small}
use Rattle.state_tree.proofs.Replayed.{state_loads, plays_on, entries_room, asides_room, both_room, nodes_room}
use Rattle.fold_tree.specs.Table.{Table}

tree_to_lem : (base : List ℕ) → tree_to base (word base 2) (word base 4) ≡ base_tree base
unfolding tree_to base_tree
tree_to_lem base = refl

-- all entries of a base are present
all_present : (b : List ℕ) (i n : ℕ) → ((j : ℕ) → j < i + n → is_present (base_entry b j) ≡ true) → length (present_ones (base_entries b i n)) ≡ n
unfolding base_entries present_ones
all_present b i zero h = refl
all_present b i (suc n) h = rw (h i (omega arith)) (ap suc (all_present b (suc i) n (λ j k. h j (omega arith))))

loads_present : (b : List ℕ) (n m : ℕ) → Loads b n m → present_count (tree_to b n m) ≡ n
unfolding present_count tree_to
loads_present b n m l = all_present b 0 n (λ j k. l.here j (omega arith))

-- the first of some records may be played
playable_front : (t : Tree) (at : ℕ → Rec) (n k : ℕ) → n ≤ k → Playable t at k → Playable t at n
playable_front t at n k h p =
    record {
      asks = λ i g. p.asks i (omega arith);
      own = λ i g. p.own i (omega arith);
      apart = λ i j g l. p.apart i j g (omega arith);
      fresh = λ i g. p.fresh i (omega arith);
    }

-- ---- what replaying the first n records is asked once the base is loaded

module _ (log base : List ℕ) (s : sound_state log base ≡ true) (held : List ℕ) (are : Small held) (is : held ≡ held_on log base) (len : length base ≡ 43032) (e₀ m₀ : ℕ) (e : e₀ ≡ word base 2) (f : m₀ ≡ word base 4)
    (k : ℕ) (few : k ≤ length (records_of log)) where
  pub run_loads : Loads base e₀ m₀
  run_loads = state_loads log base s held are is len e₀ m₀ e f

  pub run_entries : e₀ + k ≤ 1024
  run_entries = omega (arith, entries_room log base s (length (records_of log)) refl e₀ e)

  pub run_asides : m₀ + k ≤ 1024
  run_asides = omega (arith, asides_room log base s (length (records_of log)) refl m₀ f)

  pub run_both : e₀ + m₀ + k ≤ 1536
  run_both = omega (arith, both_room log base s (length (records_of log)) refl e₀ m₀ e f)

  pub run_nodes : (register : List ℕ) → nodes_in 4097 register ≡ e₀ → nodes_in 4097 register + k ≤ 1536
  run_nodes register n = omega (arith, nodes_room log base s (length (records_of log)) refl e₀ e register n)

  pub run_lies : length log ≡ 40960 → Laid Log log k
  run_lies h = let l = log_laid log (length (records_of log)) refl h in record { inside = λ i g. l.inside i (omega arith) }

-- the table that the base was loaded into
module _ (table register base : List ℕ) (e₀ m₀ : ℕ) (w : Works table register e₀ m₀ (tree_to base e₀ m₀)) where
  pub run_holds : Holds table register e₀ m₀
  run_holds = works_holds table register e₀ m₀ (tree_to base e₀ m₀) w

  table_is : e₀ ≡ word base 2 → m₀ ≡ word base 4 → tree_in table e₀ m₀ ≡ base_tree base
  table_is e f = works_tree table register e₀ m₀ (tree_to base e₀ m₀) w ∙ rw (e, f) (tree_to_lem base)

  pub run_plays : (held : List ℕ) → Small held → (log : List ℕ) → sound_state log base ≡ true → held ≡ held_on log base → length base ≡ 43032 → e₀ ≡ word base 2 → m₀ ≡ word base 4
      → (k : ℕ) → k ≤ length (records_of log) → Playable (tree_in table e₀ m₀) (laid_at Log log) k
  run_plays held are log s is len e f k few =
      playable_front (tree_in table e₀ m₀) (laid_at Log log) k (length (records_of log)) few
      (plays_on table register base e₀ m₀ w held are log s is len e f (length (records_of log)) refl)

  pub run_present : (held : List ℕ) → Small held → (log : List ℕ) → sound_state log base ≡ true → held ≡ held_on log base → length base ≡ 43032 → e₀ ≡ word base 2 → m₀ ≡ word base 4
      → present_count (tree_in table e₀ m₀) ≡ e₀
  run_present held are log s is len e f =
      rw (works_tree table register e₀ m₀ (tree_to base e₀ m₀) w) (loads_present base e₀ m₀ (state_loads log base s held are is len e₀ m₀ e f))

  pub run-longest : (l : List Rec) (k : ℕ) {n : ℕ} → e₀ ≡ word base 2 → m₀ ≡ word base 4 → n ≡ longest (tree_in table e₀ m₀) l k → n ≡ longest (base_tree base) l k
  run-longest l k e f q = rw (table_is e f) at q

  pub run_works : (l : List Rec) (b' register' : List ℕ) (x y : ℕ) → e₀ ≡ word base 2 → m₀ ≡ word base 4 → Works b' register' x y (replay_from (tree_in table e₀ m₀) l) → Works b' register' x y (replay_from (base_tree base) l)
  run_works l b' register' x y e f v = rw (table_is e f) at v

  pub run_replayed : (log : List ℕ) (k : ℕ) (b' register' : List ℕ) (x y : ℕ) → k ≤ length (records_of log) → e₀ ≡ word base 2 → m₀ ≡ word base 4
      → Works b' register' x y (replay_from (tree_in table e₀ m₀) (listed (laid_at Log log) 0 k)) → Works b' register' x y (replay_from (base_tree base) (take k (records_of log)))
  run_replayed log k b' register' x y few e f v = rw (records_front log k few) (rw (table_is e f) at v)

-- ---- the table alone

pub works_table : (b register : List ℕ) (n m : ℕ) (t : Tree) → Works b register n m t → Table b n m t
works_table b register n m t w =
    record { bytes = w.bytes; rows = w.rows; notes = w.notes; rows_fit_lem = w.rows_fit_lem; notes_fit = w.notes_fit; proper = w.proper }

pub zeroed : (n : ℕ) (b₀ b : List ℕ) → length b₀ ≡ n → b ≡ replicate (length b₀) 0 → b ≡ replicate n 0
zeroed n b₀ b h e = rw h at e
