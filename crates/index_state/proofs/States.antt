-- The tree of a sound state has an index: at most 1,024 entries, each of which a row holds; and the index is made from the table that shows it.
-- Assumes nothing.
use Prim.Native.Nat.{ℕ, ◌+◌, ◌≤◌, ◌<◌}
use native.Mathlib.Omega.{arith}
use mathlib.Core.Path.{◌≡◌, ap}
use mathlib.Core.Bool.{true}
use mathlib.Core.List.{List, [], ◌∷◌, ◌++◌}
use lib.Dec.{leb}
use lib.ListN.{get_or, length, length-append}
use Rattle.model.specs.Bytes.{word}
use Rattle.model.specs.Record.{Rec, op, self_of}
use Rattle.model.specs.Log.{records_of}
use Rattle.model.specs.Replay.{Entry, Tree, Verdict, fits, aside, judge, step, replay_from, present_ones}
use Rattle.model.specs.Table.{table_bytes}
use Rattle.base_model.specs.Base.{base_tree, held_on, sound_state, tree_of}
use Rattle.log_laws.proofs.Members.{All, all_map}
use Rattle.encoding_laws.proofs.Logs.{sound_few}
use Rattle.tree_laws.specs.Trees.{EntryFits, SoundTree}
use Rattle.tree_laws.specs.Replayed.{makers, making, makes_fit}
use Rattle.tree_laws.proofs.Steps.{cond_elim, makers-replay}
use Rattle.tree_laws.proofs.Roots.{length-makers, present_few}
use Rattle.base_laws.proofs.Folds.{state_base, state_tree}
use Rattle.base_laws.proofs.Trees.{sound_tells}
use Rattle.base_laws.proofs.Numbered.{entries_count}
use Rattle.tree_table.specs.Rows.{Proper, AllProper}
use Rattle.index_model.specs.Index.{index_places, index_of}
use Rattle.index_laws.specs.Copied.{index_from}
use Rattle.index_laws.proofs.Exact.{Rowed, all_has, has_all, has_present}
use Rattle.index_laws.proofs.Acting.{Fit}
use Rattle.index_laws.proofs.Made.{made_fresh, count_few}
use Rattle.index_laws.proofs.Rowed.{named-range, tree_rowed, tree_fit}

-- ---- at most one entry more for a record

making_few : (v : Verdict) (r : Rec) → length (making v r) ≤ 1
unfolding making
making_few fits r = cond_elim (λ (x : List ℕ). length x ≤ 1) (leb (op r) 2) (self_of r ∷ []) [] (λ _. omega arith) (λ _. omega arith)
making_few (aside n k) r = omega arith

makes_few : (t : Tree) (l : List Rec) → length (makes_fit t l) ≤ length l
unfolding makes_fit
makes_few t [] = omega arith
makes_few t (r ∷ l) = omega (arith, length-append (making (judge r t) r) (makes_fit (step t r) l), making_few (judge r t) r, makes_few (step t r) l)

pub replay_few : (t : Tree) (l : List Rec) → length (replay_from t l).entries ≤ length t.entries + length l
replay_few t l =
    let es : List Entry = (replay_from t l).entries in
    let q : length (makers es) ≡ length (makers t.entries ++ makes_fit t l) = ap (λ (x : List ℕ). length x) (makers-replay t l) in
    omega (arith, length-makers es, length-makers t.entries, length-append (makers t.entries) (makes_fit t l), makes_few t l)

nobody : Entry
nobody = record { made = 0; kind = 0; inside = 0; label = []; contents = 0; date = []; mark = []; placing = 0 }

proper_all : (l : List Entry) → All Proper l → AllProper l
proper_all [] a = tt
proper_all (e ∷ l) a = (a.0, proper_all l a.1)

module _ (log base : List ℕ) (long : length base ≡ 43032) (sound : sound_state log base ≡ true) where
  -- 512 of the base, and one for each record of the log
  pub shown_few : length (present_ones (tree_of log base).entries) ≤ index_places
  unfolding tree_of base_tree
  shown_few =
      let n = (sound_tells base (state_base log base sound)).few_entries in
      omega (arith, present_few (replay_from (base_tree base) (records_of log)).entries, replay_few (base_tree base) (records_of log), entries_count base 0 (word base 2), sound_few log)

  module _ (small : (u : ℕ) → u < 8 → get_or (held_on log base) u 0 < 65536) where
    tree_sound : SoundTree (held_on log base) (tree_of log base)
    tree_sound = state_tree log base sound long

    pub state_rowed : All Rowed (tree_of log base).entries
    state_rowed = tree_rowed (held_on log base) small (tree_of log base) tree_sound

    pub state_fit : Fit (tree_of log base).entries
    state_fit = tree_fit (held_on log base) small (tree_of log base) tree_sound shown_few

    proper : (e : Entry) → EntryFits (held_on log base) e → Proper e
    proper e f =
        record {
          range = named-range (held_on log base) small e.made f.own_named;
          date_long = f.date_length;
          label_long = f.label_length;
          mark_long = f.mark_length;
        }

    pub state_proper : AllProper (present_ones (tree_of log base).entries)
    state_proper =
        let a : All Proper (tree_of log base).entries = all_map proper (tree_of log base).entries tree_sound.entries_fit in
        let es : List Entry = present_ones (tree_of log base).entries in
        proper_all es (all_has Proper es (λ x i. has_all Proper (tree_of log base).entries x a (has_present (tree_of log base).entries x i).0))

    -- the table that shows the tree counts at most 1,024 entries, and of it the index is made
    pub table_few : word (table_bytes (tree_of log base)) 0 ≤ index_places
    table_few = count_few (tree_of log base) shown_few state_proper

    pub index_made : index_from (table_bytes (tree_of log base)) (word (table_bytes (tree_of log base)) 0) ≡ index_of (tree_of log base)
    index_made = made_fresh (tree_of log base) shown_few state_proper nobody
