-- Records of a sound log may be replayed in any order in which no identity comes twice; and what the replay of those named is asked.
-- Assumes nothing.
use Prim.Native.Nat.{ℕ, zero, suc, ◌+◌, ◌-◌, ◌*◌, ◌≤◌, ◌<◌}
use native.Mathlib.Numerals.{add-one}
use native.Mathlib.Omega.{arith}
use mathlib.Core.Path.{◌≡◌, refl, ap, ◌∙◌}
use mathlib.Core.Logic.{inl, inr, ⊎_elim}
use mathlib.Core.List.{List, []}
use lib.ListN.{length, take, drop, replicate}
use Rattle.model.specs.Record.{Rec, identity, unit, self_of}
use Rattle.model.specs.Replay.{Tree, empty_tree, step, replay_from, replay}
use Rattle.model.specs.Table.{table_bytes}
use Rattle.byte_slice.proofs.Numbers.{eq_or_ne}
use Rattle.log_laws.specs.Members.{Has as Member}
use Rattle.log_laws.specs.Sound.{Sound}
use Rattle.log_laws.proofs.Formed.{well_unit, well_own}
use Rattle.log_laws.proofs.Counts.{formed, number_held, seen_within}
use Rattle.log_admit.proofs.Counts.{count_few}
use Rattle.tree_laws.specs.Replayed.{Has, Distinct, selves}
use Rattle.tree_table.specs.Rows.{tree_in, InRange}
use Rattle.hash_chains.specs.Chains.{nodes_in}
use Rattle.tree_maps.specs.Keys.{register_size}
use Rattle.tree_lookup.specs.Roles.{row_from, note_from, row_of, note_of, behind_rows, role_of, Works}
use Rattle.tree_lookup.proofs.Working.{works_tree}
use Rattle.tree_amend.specs.Effects.{Takes}
use Rattle.log_check.specs.InOrder.{listed}
use Rattle.tree_replay.specs.Playable.{Playable}
use Rattle.tree_replay.proofs.Playing.{replay-next, replay_entries, replay_asides, replay-fresh}
use Rattle.tree_replay.proofs.Sound.{formed_asks, start_works, start_nodes}
use Rattle.tree_replay.proofs.Stepping.{step_more}
use Rattle.order_laws.proofs.Rank.{member_selves}
use Rattle.order_names.specs.Named.{place_named, named_at}
use Rattle.order_names.proofs.Names.{named_lent}

-- ---- any order

has_listed : (at : ℕ → Rec) (i m j : ℕ) → i ≤ j → j < i + m → Member (at j) (listed at i m)
unfolding listed
has_listed at i zero j h g = absurd (omega arith)
has_listed at i (suc m) j h g =
    ⊎_elim (λ (q : j ≡ i). inl (ap at q)) (λ (q : j ≡ i → ⊥). inr (has_listed at (suc i) m j (omega arith) (omega arith))) (eq_or_ne j i)

apart-listed : (at : ℕ → Rec) (i m : ℕ) → Distinct (selves (listed at i m)) → (p q : ℕ) → i ≤ p → p < q → q < i + m → self_of (at q) ≡ self_of (at p) → ⊥
unfolding listed selves
apart-listed at i zero s p q h g l e = absurd (omega arith)
apart-listed at i (suc m) s p q h g l e =
    ⊎_elim
    (λ (w : p ≡ i).
    let b : Has (self_of (at q)) (selves (listed at (suc i) m)) = member_selves (listed at (suc i) m) (at q) (has_listed at (suc i) m q (omega arith) (omega arith)) in
    let c : self_of (at q) ≡ self_of (at i) = e ∙ ap (λ (x : ℕ). self_of (at x)) w in
    s.0 (rw c at b))
    (λ (w : p ≡ i → ⊥). apart-listed at (suc i) m s.1 p q (omega arith) g (omega arith) e)
    (eq_or_ne p i)

empty_role : (k : ℕ) → role_of k empty_tree ≡ 0
unfolding role_of row_of note_of behind_rows row_from note_from empty_tree
empty_role k = refl

own_range : (l : List Rec) (r : Rec) → Sound l → length l ≤ 512 → Member r l → InRange (self_of r)
unfolding self_of identity
own_range l r s f i =
    let w = formed [] l r s i in
    let a = well_unit r w in
    let d = well_own r w in
    let g = number_held l r s i in
    let k = count_few (unit r) l in
    record { low = omega arith; high = omega arith }

pub order_playable : (at : ℕ → Rec) (n : ℕ) (l : List Rec) → Sound l → length l ≤ 512 → ((i : ℕ) → i < n → Member (at i) l) → Distinct (selves (listed at 0 n)) → Playable empty_tree at n
order_playable at n l s f has d =
    record {
      asks = λ i h. formed_asks (at i) (formed [] l (at i) s (has i h)) (λ v g. omega (arith, seen_within l (at i) s (has i h) v g, count_few v l));
      own = λ i h. own_range l (at i) s f (has i h);
      apart = λ i j h g q. apart-listed at 0 n d i j (omega arith) h (omega arith) q;
      fresh = λ i h. empty_role (self_of (at i));
    }

-- ---- what the replay is asked, over plain values

replay-none : (at : ℕ → Rec) → replay_from empty_tree (listed at 0 0) ≡ empty_tree
unfolding replay_from listed
replay-none at = refl

no_rows : (length empty_tree.entries ≡ 0) × (length empty_tree.asides ≡ 0)
unfolding empty_tree
no_rows = (refl, refl)

replay_both : (at : ℕ → Rec) (i : ℕ) → length (replay_from empty_tree (listed at 0 i)).entries + length (replay_from empty_tree (listed at 0 i)).asides ≤ i
replay_both at zero = rw (replay-none at) (omega (arith, no_rows.0, no_rows.1))
replay_both at (suc i) =
    let e = rw (add-one i) at (replay-next empty_tree at i) in
    rw e (omega (arith, replay_both at i, step_more (replay_from empty_tree (listed at 0 i)) (at i)))

pub order_starts : (at : ℕ → Rec) (b register : List ℕ) → b ≡ replicate 86020 0 → register ≡ replicate register_size 0 → Works b register 0 0 (replay_from empty_tree (listed at 0 0))
order_starts at b register e f = rw (replay-none at) (start_works b register e f)

pub order_nodes : (register₀ register : List ℕ) (i n : ℕ) → register₀ ≡ replicate register_size 0 → nodes_in 4097 register ≤ nodes_in 4097 register₀ + i → i < n → n ≤ 512 → nodes_in 4097 register < 1536
order_nodes register₀ register i n e g h f = omega (arith, start_nodes register₀ n e f)

module _ (at : ℕ → Rec) (b register : List ℕ) (x y i n : ℕ) (w : Works b register x y (replay_from empty_tree (listed at 0 i))) (h : i < n) (f : n ≤ 512) where
  pub order_entries : x < 1024
  order_entries = let c = w.rows in omega (arith, replay_entries empty_tree at i, no_rows.0)

  pub order_asides : y < 1024
  order_asides = let c = w.notes in omega (arith, replay_asides empty_tree at i, no_rows.1)

  pub order_both : x + y < 1536
  order_both =
      let c = w.rows in
      let d = w.notes in
      omega (arith, replay_both at i)

module _ (log list places b register : List ℕ) (x y i n p : ℕ) (w : Works b register x y (replay_from empty_tree (listed (named_at log list places) 0 i))) (e : p ≡ place_named list places i) where
  abbrev t : Tree
  t = replay_from empty_tree (listed (named_at log list places) 0 i)

  pub order_takes : Playable empty_tree (named_at log list places) n → i < n → Takes (tree_in b x y) (take (80 * p + 80 - 80 * p) (drop (80 * p) log))
  order_takes k h =
      rw (named_lent log list places i p e, works_tree b register x y t w)
      (record { asks = k.asks i h; own = k.own i h; fresh = replay-fresh empty_tree (named_at log list places) n k i i (omega arith) h })

  pub order_goes : (b' register' : List ℕ) (x' y' : ℕ) → Works b' register' x' y' (step (tree_in b x y) (take (80 * p + 80 - 80 * p) (drop (80 * p) log)))
      → Works b' register' x' y' (replay_from empty_tree (listed (named_at log list places) 0 (i + 1)))
  order_goes b' register' x' y' v =
      let u = rw (named_lent log list places i p e, works_tree b register x y t w) at v in
      rw (replay-next empty_tree (named_at log list places) i) u

pub order_ends : (at : ℕ → Rec) (b register : List ℕ) (x y i n : ℕ) → i ≤ n → n ≤ i → Works b register x y (replay_from empty_tree (listed at 0 i)) → Works b register x y (replay (listed at 0 n))
unfolding replay
order_ends at b register x y i n h g w = let e : i ≡ n = omega arith in rw e at w

-- ---- the table shown

pub order_shown : (l : List Rec) (b register f : List ℕ) (x y : ℕ) → Works b register x y (replay l) → f ≡ table_bytes (tree_in b x y) → f ≡ table_bytes (replay l)
order_shown l b register f x y w e = e ∙ ap table_bytes (works_tree b register x y (replay l) w)

pub zeroed : (b₀ b : List ℕ) → length b₀ ≡ 86020 → b ≡ replicate (length b₀) 0 → b ≡ replicate 86020 0
zeroed b₀ b h e = rw h at e
