-- The records of a sound log may be replayed from the root alone on.
-- Assumes nothing.
use Prim.Native.Nat.{ℕ, zero, suc, ◌+◌, ◌≤◌, ◌<◌}
use native.Mathlib.Omega.{arith}
use mathlib.Core.Path.{◌≡◌, refl, sym, ap, ap₂, ◌∙◌}
use mathlib.Core.Logic.{inl, inr, ⊎_elim}
use mathlib.Core.Bool.{true}
use mathlib.Core.List.{List, [], ◌∷◌, ◌++◌}
use lib.Dec.{eqb}
use lib.ListN.{get_or, length, replicate, length-replicate, replicate-append-replicate}
use Rattle.model.specs.Bytes.{padded}
use Rattle.model.specs.Record.{Rec, root, identity, unit, num, seen, identity_at, self_of, object_of, folder_of, well_formed}
use Rattle.model.specs.Log.{rank, count, count_on, no_counts, records_of, sound_log}
use Rattle.model.specs.Replay.{Tree, empty_tree, replay_from, replay}
use Rattle.model.specs.Table.{entry_rows, aside_rows, flagged, work_bytes}
use Rattle.byte_slice.proofs.Numbers.{eq_or_ne}
use Rattle.byte_slice.proofs.PutAt.{padded-nil}
use Rattle.log_laws.specs.Members.{Has}
use Rattle.log_laws.specs.Sound.{SoundAfter, SoundOn, Sound}
use Rattle.log_laws.proofs.Formed.{well_length, well_unit}
use Rattle.log_laws.proofs.Counts.{above_all_on, formed_on, number_held_on, seen_within_on, no_counts_lem}
use Rattle.log_laws.proofs.Same.{unique_on}
use Rattle.encoding_laws.proofs.Logs.{sound_records, sound_few}
use Rattle.record.specs.WellFormed.{Named}
use Rattle.record.proofs.Fields.{well_head}
use Rattle.record.proofs.Claims.{object_named, folder_root_or_named}
use Rattle.tree_laws.proofs.Steps.{cond_elim}
use Rattle.tree_table.specs.Rows.{entries_from, asides_from, tree_in, InRange}
use Rattle.tree_lookup.specs.Roles.{row_from, note_from, row_of, note_of, behind_rows, role_of, Named as Roles, Works, Holds}
use Rattle.hash_chains.specs.Chains.{nodes_in, first_of, Chains}
use Rattle.tree_maps.specs.Keys.{register_size, children_of, Keyed}
use Rattle.tree_lookup.proofs.Working.{works_holds}
use Rattle.tree_judge.specs.Judged.{Asks}
use Rattle.log_check.specs.declared.Layout.TheVariants.{Log}
use Rattle.log_check.specs.Places.{laid_at}
use Rattle.log_check.specs.InOrder.{listed}
use Rattle.log_check.proofs.Sound.{listed_records}
use Rattle.tree_replay.specs.Playable.{Playable}

-- ---- what a well-formed record names

named-range : (r : Rec) (at : ℕ) → Named r at → ((v : ℕ) → v < 8 → seen r v < 65536) → InRange (identity_at r at)
unfolding identity_at identity
named-range r at n h =
    let a = n.unit_known in
    let c = n.number in
    let d = n.within in
    let e = h (get_or r at 0) (omega arith) in
    record { low = omega arith; high = omega arith }

pub formed_asks : (r : Rec) → well_formed r ≡ true → ((v : ℕ) → v < 8 → seen r v < 65536) → Asks r
unfolding object_of folder_of
formed_asks r e h =
    record {
      long = well_length r e;
      known = (well_head r e).op_from;
      to = (well_head r e).op_to;
      folder = λ g.
          ⊎_elim (λ (z : folder_of r ≡ root). inl z) (λ (z : Named r 24 × (folder_of r ≡ root → ⊥)). inr (named-range r 24 z.0 h)) (folder_root_or_named r e g);
      object = λ g. named-range r 20 (object_named r e g).0 h;
    }

-- ---- positions in a sound log

has_listed : (at : ℕ → Rec) (i m j : ℕ) → i ≤ j → j < i + m → Has (at j) (listed at i m)
unfolding listed
has_listed at i zero j h g = absurd (omega arith)
has_listed at i (suc m) j h g =
    ⊎_elim (λ (q : j ≡ i). inl (ap at q)) (λ (q : j ≡ i → ⊥). inr (has_listed at (suc i) m j (omega arith) (omega arith))) (eq_or_ne j i)

rank_rises : (base : List ℕ) (at : ℕ → Rec) (i m : ℕ) (pre : List Rec) → SoundAfter base pre (listed at i m) → (p q : ℕ) → i ≤ p → p < q → q < i + m → rank (at p) < rank (at q)
unfolding listed
rank_rises base at i zero pre s p q h g l = absurd (omega arith)
rank_rises base at i (suc m) pre s p q h g l =
    ⊎_elim
    (λ (e : p ≡ i). above_all_on base (at i ∷ pre) (listed at (suc i) m) (at p) (at q) s.1 (inl (ap at e)) (has_listed at (suc i) m q (omega arith) (omega arith)))
    (λ (e : p ≡ i → ⊥). rank_rises base at (suc i) m (at i ∷ pre) s.1 p q (omega arith) g (omega arith))
    (eq_or_ne p i)

pub count_few : (u : ℕ) (l : List Rec) → count u l ≤ length l
unfolding count
count_few u [] = omega arith
count_few u (r ∷ l) =
    cond_elim (λ (x : ℕ). x ≤ suc (length l)) (eqb (unit r) u) (suc (count u l)) (count u l) (λ _. omega (arith, count_few u l)) (λ _. omega (arith, count_few u l))

self_unit : (r s : Rec) → unit r < 8 → unit s < 8 → self_of r ≡ self_of s → unit r ≡ unit s
unfolding self_of identity
self_unit r s a b e = omega arith

self_num : (r s : Rec) → unit r < 8 → unit s < 8 → self_of r ≡ self_of s → num r ≡ num s
unfolding self_of identity
self_num r s a b e = omega arith

empty_role : (k : ℕ) → role_of k empty_tree ≡ 0
unfolding role_of row_of note_of behind_rows row_from note_from empty_tree
empty_role k = refl

-- the records of a log that is sound behind a base vector may be replayed from a tree that has none of them
pub playable_on : (base : List ℕ) (t : Tree) (at : ℕ → Rec) (n : ℕ) (l : List Rec) → l ≡ listed at 0 n → length l ≡ n → SoundOn base l → ((u : ℕ) → u < 8 → count_on base u l < 65536)
    → ((r : Rec) → Has r l → role_of (self_of r) t ≡ 0) → Playable t at n
unfolding self_of identity
playable_on base t at n l e c s low fresh =
    let has : (i : ℕ) → i < n → Has (at i) l = λ i h. rw e (has_listed at 0 n i (omega arith) (omega arith)) in
    let well : (i : ℕ) → i < n → well_formed (at i) ≡ true = λ i h. formed_on base [] l (at i) s (has i h) in
    let under : (i : ℕ) → i < n → unit (at i) < 8 = λ i h. well_unit (at i) (well i h) in
    record {
      asks = λ i h. formed_asks (at i) (well i h) (λ v g. omega (arith, seen_within_on base l (at i) s (has i h) v g, low v g));
      own = λ i h.
          let a = under i h in
          let d = (well_head (at i) (well i h)).number in
          let f = number_held_on base l (at i) s (has i h) in
          let g = low (unit (at i)) a in
          record { low = omega arith; high = omega arith };
      apart = λ i j h g q.
          let same : at j ≡ at i =
          unique_on base [] l s (at j) (at i) (has j g) (has i (omega arith)) (self_unit (at j) (at i) (under j g) (under i (omega arith)) q) (self_num (at j) (at i) (under j g) (under i (omega arith)) q) in
          let rises = rank_rises base at 0 n [] (rw e at s) i j (omega arith) h (omega arith) in
          let level : rank (at j) ≡ rank (at i) = ap rank same in
          absurd (omega arith);
      fresh = λ i h. fresh (at i) (has i h);
    }

pub sound_playable : (at : ℕ → Rec) (n : ℕ) (l : List Rec) → l ≡ listed at 0 n → length l ≡ n → n ≤ 512 → Sound l → Playable empty_tree at n
sound_playable at n l e c few s =
    playable_on no_counts empty_tree at n l e c s (λ u h. omega (arith, count_few u l, no_counts_lem u)) (λ r i. empty_role (self_of r))

-- ---- the start: all zero

table-zeros : (a b : ℕ) → replicate (4 + (a + b)) 0 ≡ (0 ∷ 0 ∷ 0 ∷ 0 ∷ []) ++ (padded a [] ++ padded b [])
table-zeros a b =
    let z : List ℕ = replicate (a + b) 0 in
    sym (replicate-append-replicate {A = ℕ} 4 (a + b) 0)
    ∙ ap (λ (x : List ℕ). 0 ∷ 0 ∷ 0 ∷ 0 ∷ x) (sym (replicate-append-replicate a b 0) ∙ ap₂ (λ (x y : List ℕ). x ++ y) (sym (padded-nil a)) (sym (padded-nil b)))

pub zeros-at : (n i : ℕ) → get_or (replicate {A = ℕ} n 0) i 0 ≡ 0
zeros-at zero i = refl
zeros-at (suc n) zero = refl
zeros-at (suc n) (suc i) = zeros-at n i

blank_nodes : (from : ℕ) → nodes_in from (replicate register_size 0) ≡ 0
unfolding nodes_in
blank_nodes from = zeros-at register_size (from + 4096)

blank_chains : (from : ℕ) → from + 4097 ≤ register_size → Chains from (replicate register_size 0)
unfolding first_of
blank_chains from h =
    let none = blank_nodes from in
    record {
      long = rw (length-replicate {A = ℕ} register_size 0) h;
      few = omega arith;
      firsts = λ i g. omega (arith, zeros-at register_size (from + i));
      falls = λ q i g. absurd (omega arith);
    }

blank_keyed : Keyed (replicate register_size 0) 0 []
unfolding children_of
blank_keyed =
    let none = blank_nodes 4097 in
    record {
      wide = length-replicate {A = ℕ} register_size 0;
      chains = blank_chains 4097 (omega arith);
      rows = λ q h g. absurd (omega arith);
      counted = λ p h. zeros-at register_size (8194 + p);
      spare = λ p h g. zeros-at register_size (8194 + p);
      kept = λ i d h p. absurd (omega arith);
    }

blank-named : Roles (replicate register_size 0) empty_tree
unfolding empty_tree
blank-named =
    let none = blank_nodes 0 in
    record {
      chains = blank_chains 0 (omega arith);
      count = none;
      roles = λ q h g. absurd (omega arith);
      found = λ k u h. absurd (h (empty_role k));
    }

pub start_works : (b register : List ℕ) → b ≡ replicate 86020 0 → register ≡ replicate register_size 0 → Works b register 0 0 empty_tree
unfolding work_bytes flagged empty_tree entry_rows aside_rows row_of note_of row_from note_from
start_works b register e f =
    record {
      bytes = e ∙ table-zeros 73728 12288;
      rows = refl;
      notes = refl;
      rows_fit_lem = omega arith;
      notes_fit = omega arith;
      proper = tt;
      lone = tt;
      marks = tt;
      apart = λ k. inl refl;
      housed = tt;
      named = rw f blank-named;
      keyed = rw f blank_keyed;
    }

-- ---- what `replay_log` is asked, over plain values

pub empty_rows : (b : List ℕ) → tree_in b 0 0 ≡ empty_tree
unfolding tree_in empty_tree entries_from asides_from
empty_rows b = refl

pub start_holds : (b register : List ℕ) → b ≡ replicate 86020 0 → register ≡ replicate register_size 0 → Holds b register 0 0
start_holds b register e f = works_holds b register 0 0 empty_tree (start_works b register e f)

pub start_nodes : (register : List ℕ) (n : ℕ) → register ≡ replicate register_size 0 → n ≤ 512 → nodes_in 4097 register + n ≤ 1536
start_nodes register n f h =
    let z : nodes_in 4097 register ≡ 0 = rw f (blank_nodes 4097) in
    omega arith

module _ (b : List ℕ) (n : ℕ) (c : n ≡ length (records_of b)) where
  pub few_records : n ≤ 512
  few_records = omega (arith, sound_few b)

  pub log_room : 0 + n ≤ 1024
  log_room = omega (arith, sound_few b)

  pub log_both : 0 + 0 + n ≤ 1536
  log_both = omega (arith, sound_few b)

  pub log_playable : (table : List ℕ) → sound_log b ≡ true → Playable (tree_in table 0 0) (laid_at Log b) n
  log_playable table s =
      rw (empty_rows table)
      (sound_playable (laid_at Log b) n (records_of b) (sym (listed_records b n c)) (sym c) (omega (arith, sound_few b)) (sound_records b s))

  pub log_replayed : (b' register' : List ℕ) (x y : ℕ) (table : List ℕ) → Works b' register' x y (replay_from (tree_in table 0 0) (listed (laid_at Log b) 0 n)) → Works b' register' x y (replay (records_of b))
  unfolding replay
  log_replayed b' register' x y table w = rw (empty_rows table, listed_records b n c) at w
