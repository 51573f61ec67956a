-- Records replayed one after another.
-- Assumes nothing.
use Prim.Native.Nat.{ℕ, zero, suc, ◌+◌, ◌-◌, ◌≤◌, ◌<◌}
use native.Mathlib.Numerals.{add-one}
use native.Mathlib.Nat.{zero-add}
use native.Mathlib.Omega.{arith}
use mathlib.Core.Path.{◌≡◌, refl, sym, ◌∙◌}
use mathlib.Core.List.{List, [], ◌∷◌}
use lib.ListN.{length, take, drop}
use Rattle.model.specs.Record.{Rec, self_of}
use Rattle.model.specs.Replay.{Tree, step, replay_from}
use Rattle.byte_slice.proofs.Parts.{part_is}
use Rattle.tree_laws.proofs.Settling.{replay-append}
use Rattle.tree_table.specs.Rows.{tree_in}
use Rattle.tree_lookup.specs.Roles.{role_of, Works, Holds}
use Rattle.tree_lookup.proofs.Working.{works_tree, works_holds}
use Rattle.tree_amend.specs.Effects.{Takes}
use Rattle.log_check.specs.declared.Layout.{Layout}
use Rattle.log_check.specs.Places.{offset_of, laid_at, Laid}
use Rattle.log_check.specs.InOrder.{listed}
use Rattle.log_check.proofs.Lists.{listed_more}
use Rattle.tree_replay.specs.Playable.{Playable}
use Rattle.tree_replay.proofs.Stepping.{step_grows, step_more, step_role}

-- one record more
pub replay-next : (t : Tree) (at : ℕ → Rec) (i : ℕ) → replay_from t (listed at 0 (i + 1)) ≡ step (replay_from t (listed at 0 i)) (at i)
unfolding replay_from
replay-next t at i = rw (listed_more at 0 i, zero-add i) (replay-append t (listed at 0 i) (at i ∷ []))

replay-suc : (t : Tree) (at : ℕ → Rec) (i : ℕ) → replay_from t (listed at 0 (suc i)) ≡ step (replay_from t (listed at 0 i)) (at i)
replay-suc t at i = rw (add-one i) at (replay-next t at i)

replay-none : (t : Tree) (at : ℕ → Rec) → replay_from t (listed at 0 0) ≡ t
unfolding replay_from listed
replay-none t at = refl

-- n records make at most n rows
pub replay_entries : (t : Tree) (at : ℕ → Rec) (i : ℕ) → length (replay_from t (listed at 0 i)).entries ≤ length t.entries + i
replay_entries t at zero = rw (replay-none t at) (omega arith)
replay_entries t at (suc i) =
    rw (replay-suc t at i) (omega (arith, replay_entries t at i, (step_grows (replay_from t (listed at 0 i)) (at i)).0))

pub replay_asides : (t : Tree) (at : ℕ → Rec) (i : ℕ) → length (replay_from t (listed at 0 i)).asides ≤ length t.asides + i
replay_asides t at zero = rw (replay-none t at) (omega arith)
replay_asides t at (suc i) =
    rw (replay-suc t at i) (omega (arith, replay_asides t at i, (step_grows (replay_from t (listed at 0 i)) (at i)).1))

replay_both : (t : Tree) (at : ℕ → Rec) (i : ℕ)
    → length (replay_from t (listed at 0 i)).entries + length (replay_from t (listed at 0 i)).asides ≤ length t.entries + length t.asides + i
replay_both t at zero = rw (replay-none t at) (omega arith)
replay_both t at (suc i) = rw (replay-suc t at i) (omega (arith, replay_both t at i, step_more (replay_from t (listed at 0 i)) (at i)))

-- a record that is still to come has no role yet
pub replay-fresh : (t : Tree) (at : ℕ → Rec) (n : ℕ) → Playable t at n → (i j : ℕ) → i ≤ j → j < n → role_of (self_of (at j)) (replay_from t (listed at 0 i)) ≡ 0
replay-fresh t at n p zero j h g = rw (replay-none t at) (p.fresh j g)
replay-fresh t at n p (suc i) j h g =
    rw (replay-suc t at i)
    (step_role (self_of (at j)) (replay_from t (listed at 0 i)) (at i) (λ (q : self_of (at i) ≡ self_of (at j)). p.apart i j h g (sym q))
    ∙ replay-fresh t at n p i j (omega arith) g)

-- ---- what `replay` is asked, over plain values

pub record_is : (k : Layout) (bytes : List ℕ) (i at : ℕ) → at ≡ offset_of k i → take (at + 80 - at) (drop at bytes) ≡ laid_at k bytes i
unfolding laid_at
record_is k bytes i at o = part_is bytes at 80 ∙ rw o

module _ (k : Layout) (bytes b₀ register₀ : List ℕ) (n₀ m₀ n : ℕ) (p : Playable (tree_in b₀ n₀ m₀) (laid_at k bytes) n) (w₀ : Holds b₀ register₀ n₀ m₀) (b register : List ℕ) (x y i : ℕ) (w : Works b register x y (replay_from (tree_in b₀ n₀ m₀) (listed (laid_at k bytes) 0 i))) where
  pub turn_entries : i < n → n₀ + n ≤ 1024 → x < 1024
  turn_entries h g =
      let c = w.rows in
      let d = w₀.rows in
      omega (arith, replay_entries (tree_in b₀ n₀ m₀) (laid_at k bytes) i)

  pub turn_asides : i < n → m₀ + n ≤ 1024 → y < 1024
  turn_asides h g =
      let c = w.notes in
      let d = w₀.notes in
      omega (arith, replay_asides (tree_in b₀ n₀ m₀) (laid_at k bytes) i)

  pub turn_both : i < n → n₀ + m₀ + n ≤ 1536 → x + y < 1536
  turn_both h g =
      let c = w.rows in
      let d = w₀.rows in
      let e = w.notes in
      let f = w₀.notes in
      omega (arith, replay_both (tree_in b₀ n₀ m₀) (laid_at k bytes) i)

  pub turn_holds : Holds b register x y
  turn_holds = works_holds b register x y (replay_from (tree_in b₀ n₀ m₀) (listed (laid_at k bytes) 0 i)) w

  module _ (at : ℕ) (o : at ≡ offset_of k i) where
    pub turn_takes : i < n → Takes (tree_in b x y) (take (at + 80 - at) (drop at bytes))
    turn_takes h =
        let t = replay_from (tree_in b₀ n₀ m₀) (listed (laid_at k bytes) 0 i) in
        rw (record_is k bytes i at o, works_tree b register x y t w)
        (record { asks = p.asks i h; own = p.own i h; fresh = replay-fresh (tree_in b₀ n₀ m₀) (laid_at k bytes) n p i i (omega arith) h })

    pub turn_goes : (b' register' : List ℕ) (x' y' : ℕ) → Works b' register' x' y' (step (tree_in b x y) (take (at + 80 - at) (drop at bytes)))
        → Works b' register' x' y' (replay_from (tree_in b₀ n₀ m₀) (listed (laid_at k bytes) 0 (i + 1)))
    turn_goes b' register' x' y' v =
        let t = replay_from (tree_in b₀ n₀ m₀) (listed (laid_at k bytes) 0 i) in
        let u = rw (record_is k bytes i at o, works_tree b register x y t w) at v in
        rw (replay-next (tree_in b₀ n₀ m₀) (laid_at k bytes) i) u

    pub turn_inside : Laid k bytes n → i < n → at + 80 ≤ length bytes
    turn_inside l h = rw o (l.inside i h)

pub play_starts : (k : Layout) (bytes b register : List ℕ) (n m : ℕ) → Holds b register n m → Works b register n m (replay_from (tree_in b n m) (listed (laid_at k bytes) 0 0))
play_starts k bytes b register n m w = rw (replay-none (tree_in b n m) (laid_at k bytes)) w
