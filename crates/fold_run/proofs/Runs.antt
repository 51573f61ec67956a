-- A run of records replayed with its counts.
-- Assumes nothing.
use Prim.Native.Nat.{ℕ, zero, suc, ◌+◌, ◌-◌, ◌≤◌, ◌<◌}
use native.Mathlib.Omega.{arith}
use mathlib.Core.Path.{◌≡◌, refl, sym, ap, ◌∙◌}
use mathlib.Core.Bool.{cond}
use mathlib.Core.List.{List, ◌∷◌}
use lib.Dec.{ltb}
use lib.ListN.{length, take, drop}
use Rattle.model.specs.Record.{Rec, op}
use Rattle.model.specs.Log.{records_of}
use Rattle.model.specs.Replay.{Tree, step, replay_from}
use Rattle.call_model.specs.Fold.{longest}
use Rattle.tree_laws.proofs.Roots.{present_few}
use Rattle.fold_count_laws.specs.Counted.{present_count, count_after, room_in}
use Rattle.fold_count_laws.proofs.Present.{present_step}
use Rattle.fold_count_laws.proofs.Longest.{longest-none, longest-next, longest_most}
use Rattle.tree_table.specs.Rows.{tree_in}
use Rattle.tree_lookup.specs.Roles.{Works, Holds}
use Rattle.log_check.specs.declared.Layout.TheVariants.{Log}
use Rattle.log_check.specs.Places.{offset_of, laid_at}
use Rattle.log_check.specs.InOrder.{listed}
use Rattle.log_check.proofs.Sound.{listed_records}
use Rattle.tree_replay.specs.Playable.{Playable}
use Rattle.tree_replay.proofs.Playing.{replay-next, record_is, turn_goes}

-- ---- the first records of a log

listed_front : (at : ℕ → Rec) (i j n : ℕ) → j ≤ n → take j (listed at i n) ≡ listed at i j
unfolding listed
listed_front at i zero n h = refl
listed_front at i (suc j) zero h = absurd (omega arith)
listed_front at i (suc j) (suc n) h = ap (λ (l : List Rec). at i ∷ l) (listed_front at (suc i) j n (omega arith))

pub records_front : (b : List ℕ) (j : ℕ) → j ≤ length (records_of b) → take j (records_of b) ≡ listed (laid_at Log b) 0 j
records_front b j h =
    ap (take j) (sym (listed_records b (length (records_of b)) refl)) ∙ listed_front (laid_at Log b) 0 j (length (records_of b)) h

-- ---- what `longest_run` is asked, over plain values

pub run_none : (t : Tree) (at : ℕ → Rec) {n : ℕ} → present_count t ≡ n → n ≡ present_count (replay_from t (listed at 0 0))
unfolding replay_from listed
run_none t at e = sym e

pub best_none : (t : Tree) (l : List Rec) → 0 ≡ longest t l 0
best_none t l = sym (longest-none t l)

-- the operation of a record that may be replayed is known
module _ (t : Tree) (bytes : List ℕ) (n : ℕ) (p : Playable t (laid_at Log bytes) n) (i at : ℕ) (o : at ≡ offset_of Log i) (h : i < n) where
  pub run_known : 1 ≤ op (take (at + 80 - at) (drop at bytes))
  run_known = rw (record_is Log bytes i at o) (p.asks i h).known

  pub run_to : op (take (at + 80 - at) (drop at bytes)) ≤ 7
  run_to = rw (record_is Log bytes i at o) (p.asks i h).to

module _ (bytes b₀ register₀ : List ℕ) (n₀ m₀ n : ℕ) (few : n ≤ length (records_of bytes)) (p : Playable (tree_in b₀ n₀ m₀) (laid_at Log bytes) n) (w₀ : Holds b₀ register₀ n₀ m₀) (b register : List ℕ) (x y i : ℕ)
    (w : Works b register x y (replay_from (tree_in b₀ n₀ m₀) (listed (laid_at Log bytes) 0 i))) (c : ℕ) (shown : c ≡ present_count (replay_from (tree_in b₀ n₀ m₀) (listed (laid_at Log bytes) 0 i))) where
  pub run_few : c ≤ 1024
  unfolding present_count
  run_few = let a = w.rows in let d = w.rows_fit_lem in omega (arith, shown, present_few (replay_from (tree_in b₀ n₀ m₀) (listed (laid_at Log bytes) 0 i)).entries)

  module _ (at : ℕ) (o : at ≡ offset_of Log i) (h : i < n) (b' register' : List ℕ) (x' y' : ℕ) (v : Works b' register' x' y' (step (tree_in b x y) (take (at + 80 - at) (drop at bytes)))) where
    now : Works b' register' x' y' (replay_from (tree_in b₀ n₀ m₀) (listed (laid_at Log bytes) 0 (i + 1)))
    now = turn_goes Log bytes b₀ register₀ n₀ m₀ n p w₀ b register x y i w at o b' register' x' y' v

    pub run-next : (q : ℕ) (k : ℕ) → k ≡ op (take (at + 80 - at) (drop at bytes)) → q ≡ count_after k (ltb y y') c → q ≡ present_count (replay_from (tree_in b₀ n₀ m₀) (listed (laid_at Log bytes) 0 (i + 1)))
    run-next q k e f =
        let t = replay_from (tree_in b₀ n₀ m₀) (listed (laid_at Log bytes) 0 i) in
        let r = laid_at Log bytes i in
        let s = replay-next (tree_in b₀ n₀ m₀) (laid_at Log bytes) i in
        let a : length t.asides ≡ y = w.notes in
        let d : length (step t r).asides ≡ y' = rw s at now.notes in
        let g = rw (a, d, ← shown) at (present_step t r (p.asks i h).known) in
        rw (f, e, record_is Log bytes i at o, s) (sym g)

    pub best_next : (q k best l : ℕ) → k ≡ op (take (at + 80 - at) (drop at bytes)) → q ≡ count_after k (ltb y y') c → best ≡ longest (tree_in b₀ n₀ m₀) (records_of bytes) i → l ≡ cond (room_in q y') (i + 1) best
        → l ≡ longest (tree_in b₀ n₀ m₀) (records_of bytes) (i + 1)
    best_next q k best l d f e g =
        let z = longest-next (tree_in b₀ n₀ m₀) (records_of bytes) i in
        let a = now.notes in
        g ∙ rw (z, records_front bytes (i + 1) (omega arith), a, ← run-next q k d f, ← e)

module _ (t : Tree) (bytes : List ℕ) (i n : ℕ) (few : n ≤ length (records_of bytes)) (a : i ≤ n) (z : n ≤ i) where
  pub works_end : {b register : List ℕ} {x y : ℕ} → Works b register x y (replay_from t (listed (laid_at Log bytes) 0 i)) → Works b register x y (replay_from t (take n (records_of bytes)))
  works_end w = let f : i ≡ n = omega arith in rw (records_front bytes n few, ← f) w

  pub best_ends : {best : ℕ} → best ≡ longest t (records_of bytes) i → best ≡ longest t (records_of bytes) n
  best_ends e = let f : i ≡ n = omega arith in rw f at e

  pub best_within : {best : ℕ} → best ≡ longest t (records_of bytes) i → best ≤ n
  best_within e = let f : i ≡ n = omega arith in omega (arith, longest_most t (records_of bytes) i, e)
