-- Chains as they grow and shrink: what is found in them stays found.
-- Assumes nothing.
use Prim.Native.Nat.{ℕ, zero, suc, ◌+◌, ◌≤◌, ◌<◌}
use native.Mathlib.Omega.{arith}
use mathlib.Core.Path.{◌≡◌, sym, ◌∙◌}
use mathlib.Core.Logic.{◌⊎◌, inl, inr, ⊎_elim}
use mathlib.Core.List.{List}
use lib.ListN.{get_or, length, set, length-set}
use lib.Seq.{get_or-set_same, get_or-set_other}
use borrow.Author.Tests.{eq-eqb, ne_eqb}
use Rattle.byte_slice.proofs.Numbers.{eq_or_ne}
use Rattle.hash_chains.specs.Chains.{nodes_in, first_of, behind, row_at, pushed, popped, Chains, Reach, Found}

module _ (from : ℕ) where
  -- ---- what is found from a node on

  pub found_none : (l : List ℕ) (r : ℕ) → Found from l 0 r → ⊥
  found_none l r f = go f.steps f.there
    where
      go : (s : ℕ) → Reach from l s 0 r → ⊥
      go zero x = x
      go (suc s) x = absurd (omega (arith, x.0))

  pub found-next : (l : List ℕ) (q r : ℕ) → Found from l q r → (row_at from l q ≡ r) ⊎ Found from l (behind from l q) r
  found-next l q r f = go f.steps f.there
    where
      go : (s : ℕ) → Reach from l s q r → (row_at from l q ≡ r) ⊎ Found from l (behind from l q) r
      go zero x = absurd x
      go (suc s) x = ⊎_elim (λ y. inl y) (λ y. inr (record { steps = s; there = y })) x.1

  found_here : (l : List ℕ) (q r : ℕ) → 1 ≤ q → row_at from l q ≡ r → Found from l q r
  found_here l q r h e = record { steps = 1; there = (h, inl e) }

  found_later : (l : List ℕ) (q r : ℕ) → 1 ≤ q → Found from l (behind from l q) r → Found from l q r
  found_later l q r h f = record { steps = suc f.steps; there = (h, inr f.there) }

  -- the nodes up to c are the same
  abbrev Alike : List ℕ → List ℕ → ℕ → Type 0
  Alike l m c = (q : ℕ) → 1 ≤ q → q ≤ c → (row_at from m q ≡ row_at from l q) × (behind from m q ≡ behind from l q)

  module _ (l m : List ℕ) (c : ℕ) (a : Alike l m c) (f : (q : ℕ) → 1 ≤ q → q ≤ c → behind from l q < q) where
    reach_kept : (s q r : ℕ) → q ≤ c → Reach from l s q r → Reach from m s q r
    reach_kept zero q r h x = x
    reach_kept (suc s) q r h x = (
      x.0,
      ⊎_elim (λ (e : row_at from l q ≡ r). inl ((a q x.0 h).0 ∙ e))
          (λ (y : Reach from l s (behind from l q) r). inr (rw (a q x.0 h).1 (reach_kept s (behind from l q) r (omega (arith, f q x.0 h)) y)))
          x.1,
    )

    found-kept : (q r : ℕ) → q ≤ c → Found from l q r → Found from m q r
    found-kept q r h x = record { steps = x.steps; there = reach_kept x.steps q r h x.there }

  -- ---- numbers beside the chains are written

  module _ (l m : List ℕ) (w : Chains from l) (same : (i : ℕ) → from ≤ i → i < from + 4097 → get_or m i 0 ≡ get_or l i 0) where
    pub kept_nodes : nodes_in from m ≡ nodes_in from l
    unfolding nodes_in
    kept_nodes = same (from + 4096) (omega arith) (omega arith)

    kept_first : (h : ℕ) → h < 1024 → first_of from m h ≡ first_of from l h
    unfolding first_of
    kept_first h g = same (from + h) (omega arith) (omega arith)

    kept-behind : (q : ℕ) → q ≤ nodes_in from l → behind from m q ≡ behind from l q
    unfolding behind
    kept-behind q g = let f = w.few in same (from + 1023 + q) (omega arith) (omega arith)

    kept_row : (q : ℕ) → q ≤ nodes_in from l → row_at from m q ≡ row_at from l q
    unfolding row_at
    kept_row q g = let f = w.few in same (from + 2559 + q) (omega arith) (omega arith)

    pub kept_chains : length m ≡ length l → Chains from m
    kept_chains e =
        record {
          long = rw e w.long;
          few = rw kept_nodes w.few;
          firsts = λ h g. rw (kept_nodes, kept_first h g) (w.firsts h g);
          falls = λ q h g. let z = rw kept_nodes at g in rw (kept-behind q z) (w.falls q h z);
        }

    pub kept-found : (h r : ℕ) → h < 1024 → Found from l (first_of from l h) r → Found from m (first_of from m h) r
    kept-found h r g f = rw (kept_first h g) (found-kept l m (nodes_in from l) (λ q _ z. (kept_row q z, kept-behind q z)) w.falls (first_of from l h) r (w.firsts h g) f)

    pub kept_rows : (P : ℕ → Type 0) → ((q : ℕ) → 1 ≤ q → q ≤ nodes_in from l → P (row_at from l q)) → (q : ℕ) → 1 ≤ q → q ≤ nodes_in from m → P (row_at from m q)
    kept_rows P f q h g = let z = rw kept_nodes at g in rw (kept_row q z) (f q h z)

  -- ---- a node more

  module _ (l : List ℕ) (h row : ℕ) where
    pushed_cell : (i : ℕ) → (i ≡ from + 2560 + nodes_in from l → ⊥) → (i ≡ from + 1024 + nodes_in from l → ⊥) → (i ≡ from + h → ⊥) → (i ≡ from + 4096 → ⊥) → get_or (pushed from l h row) i 0 ≡ get_or l i 0
    unfolding pushed
    pushed_cell i a b d e =
        let c = nodes_in from l in
        let l1 = set l (from + 2560 + c) row in
        let l2 = set l1 (from + 1024 + c) (first_of from l h) in
        let l3 = set l2 (from + h) (c + 1) in
        get_or-set_other l3 (from + 4096) i (c + 1) 0 e
        ∙ get_or-set_other l2 (from + h) i (c + 1) 0 d
        ∙ get_or-set_other l1 (from + 1024 + c) i (first_of from l h) 0 b
        ∙ get_or-set_other l (from + 2560 + c) i row 0 a

    -- what stands before the chains stays
    pub pushed-below : (i : ℕ) → i < from → get_or (pushed from l h row) i 0 ≡ get_or l i 0
    pushed-below i x = pushed_cell i (λ z. omega arith) (λ z. omega arith) (λ z. omega arith) (λ z. omega arith)

    pub pushed_long : length (pushed from l h row) ≡ length l
    unfolding pushed
    pushed_long = simp length-set

    module _ (w : Chains from l) (room : nodes_in from l < 1536) (low : h < 1024) where
      pub pushed_nodes : nodes_in from (pushed from l h row) ≡ nodes_in from l + 1
      unfolding pushed nodes_in
      pushed_nodes =
          let c = get_or l (from + 4096) 0 in
          let long = w.long in
          let l3 = set (set (set l (from + 2560 + c) row) (from + 1024 + c) (first_of from l h)) (from + h) (c + 1) in
          get_or-set_same l3 (from + 4096) (c + 1) 0 (simp length-set (omega arith))

      -- what stands behind the chains stays
      pub pushed_above : (i : ℕ) → from + 4097 ≤ i → get_or (pushed from l h row) i 0 ≡ get_or l i 0
      pushed_above i x = pushed_cell i (λ z. omega arith) (λ z. omega arith) (λ z. omega arith) (λ z. omega arith)

      pushed_first : first_of from (pushed from l h row) h ≡ nodes_in from l + 1
      unfolding pushed first_of
      pushed_first =
          let c = nodes_in from l in
          let long = w.long in
          let l2 = set (set l (from + 2560 + c) row) (from + 1024 + c) (get_or l (from + h) 0) in
          get_or-set_other (set l2 (from + h) (c + 1)) (from + 4096) (from + h) (c + 1) 0 (λ e. omega arith)
          ∙ get_or-set_same l2 (from + h) (c + 1) 0 (simp length-set (omega arith))

      pushed_first_other : (g : ℕ) → g < 1024 → (g ≡ h → ⊥) → first_of from (pushed from l h row) g ≡ first_of from l g
      unfolding first_of
      pushed_first_other g k e =
          pushed_cell (from + g) (λ z. omega arith) (λ z. omega arith) (λ z. e (omega arith)) (λ z. omega arith)

      pushed-behind : behind from (pushed from l h row) (nodes_in from l + 1) ≡ first_of from l h
      unfolding pushed behind
      pushed-behind =
          let c = nodes_in from l in
          let long = w.long in
          let l1 = set l (from + 2560 + c) row in
          let l2 = set l1 (from + 1024 + c) (first_of from l h) in
          let p : from + 1023 + (c + 1) ≡ from + 1024 + c = omega arith in
          rw p
          (get_or-set_other (set l2 (from + h) (c + 1)) (from + 4096) (from + 1024 + c) (c + 1) 0 (λ e. omega arith)
          ∙ get_or-set_other l2 (from + h) (from + 1024 + c) (c + 1) 0 (λ e. omega arith)
          ∙ get_or-set_same l1 (from + 1024 + c) (first_of from l h) 0 (simp length-set (omega arith)))

      pushed_row : row_at from (pushed from l h row) (nodes_in from l + 1) ≡ row
      unfolding pushed row_at
      pushed_row =
          let c = nodes_in from l in
          let long = w.long in
          let l1 = set l (from + 2560 + c) row in
          let l2 = set l1 (from + 1024 + c) (first_of from l h) in
          let p : from + 2559 + (c + 1) ≡ from + 2560 + c = omega arith in
          rw p
          (get_or-set_other (set l2 (from + h) (c + 1)) (from + 4096) (from + 2560 + c) (c + 1) 0 (λ e. omega arith)
          ∙ get_or-set_other l2 (from + h) (from + 2560 + c) (c + 1) 0 (λ e. omega arith)
          ∙ get_or-set_other l1 (from + 1024 + c) (from + 2560 + c) (first_of from l h) 0 (λ e. omega arith)
          ∙ get_or-set_same l (from + 2560 + c) row 0 (omega arith))

      pushed-alike : Alike l (pushed from l h row) (nodes_in from l)
      unfolding behind row_at
      pushed-alike q a b = (
        pushed_cell (from + 2559 + q) (λ z. omega arith) (λ z. omega arith) (λ z. omega arith) (λ z. omega arith),
        pushed_cell (from + 1023 + q) (λ z. omega arith) (λ z. omega arith) (λ z. omega arith) (λ z. omega arith),
      )

      pub pushed_chains : Chains from (pushed from l h row)
      pushed_chains =
          record {
            long = rw pushed_long w.long;
            few = omega (arith, pushed_nodes);
            firsts = λ g k.
                ⊎_elim (λ (e : g ≡ h). rw (e, pushed_first, pushed_nodes) (omega arith))
                (λ (e : g ≡ h → ⊥). rw (pushed_first_other g k e) (omega (arith, pushed_nodes, w.firsts g k)))
                (eq_or_ne g h);
            falls = λ q a b.
                ⊎_elim (λ (e : q ≡ nodes_in from l + 1). rw (e, pushed-behind) (omega (arith, w.firsts h low)))
                (λ (e : q ≡ nodes_in from l + 1 → ⊥).
                let z : q ≤ nodes_in from l = omega (arith, pushed_nodes) in
                rw (pushed-alike q a z).1 (w.falls q a z))
                (eq_or_ne q (nodes_in from l + 1));
          }

      -- the row is found, and what was found still is
      pub pushed_new : Found from (pushed from l h row) (first_of from (pushed from l h row) h) row
      pushed_new = rw pushed_first (found_here (pushed from l h row) (nodes_in from l + 1) row (omega arith) pushed_row)

      pub pushed-found : (g r : ℕ) → g < 1024 → Found from l (first_of from l g) r → Found from (pushed from l h row) (first_of from (pushed from l h row) g) r
      pushed-found g r k f =
          let old : Found from (pushed from l h row) (first_of from l g) r =
          found-kept l (pushed from l h row) (nodes_in from l) pushed-alike w.falls (first_of from l g) r (w.firsts g k) f in
          ⊎_elim
          (λ (e : g ≡ h).
          rw (e, pushed_first) (found_later (pushed from l h row) (nodes_in from l + 1) r (omega arith) (rw pushed-behind (rw e at old))))
          (λ (e : g ≡ h → ⊥). rw (pushed_first_other g k e) old)
          (eq_or_ne g h)

      pub pushed_rows : (P : ℕ → Type 0) → P row → ((q : ℕ) → 1 ≤ q → q ≤ nodes_in from l → P (row_at from l q))
          → (q : ℕ) → 1 ≤ q → q ≤ nodes_in from (pushed from l h row) → P (row_at from (pushed from l h row) q)
      pushed_rows P u f q a b =
          ⊎_elim (λ (e : q ≡ nodes_in from l + 1). rw (e, pushed_row) u)
          (λ (e : q ≡ nodes_in from l + 1 → ⊥).
          let z : q ≤ nodes_in from l = omega (arith, pushed_nodes) in
          rw (pushed-alike q a z).0 (f q a z))
          (eq_or_ne q (nodes_in from l + 1))

  -- ---- a node less

  module _ (l : List ℕ) (h row : ℕ) where
    -- the chain is left, or loses a first node of the row
    pop_cases : (popped from l h row ≡ l)
        ⊎ ((1 ≤ first_of from l h) × (row_at from l (first_of from l h) ≡ row) × (popped from l h row ≡ set l (from + h) (behind from l (first_of from l h))))
    unfolding popped
    pop_cases =
        let q = first_of from l h in
        ⊎_elim (λ (e : q ≡ 0). inl (rw (eq-eqb q 0 e)))
        (λ (e : q ≡ 0 → ⊥).
        ⊎_elim (λ (f : row_at from l q ≡ row). inr (omega arith, f, rw (ne_eqb q 0 e, eq-eqb (row_at from l q) row f)))
        (λ (f : row_at from l q ≡ row → ⊥). inl (rw (ne_eqb q 0 e, ne_eqb (row_at from l q) row f)))
        (eq_or_ne (row_at from l q) row))
        (eq_or_ne q 0)

    popped_cell : (i : ℕ) → (i ≡ from + h → ⊥) → get_or (popped from l h row) i 0 ≡ get_or l i 0
    popped_cell i e =
        ⊎_elim (λ (z : popped from l h row ≡ l). rw z)
        (λ (z : (1 ≤ first_of from l h) × (row_at from l (first_of from l h) ≡ row) × (popped from l h row ≡ set l (from + h) (behind from l (first_of from l h)))).
        rw z.2 (get_or-set_other l (from + h) i (behind from l (first_of from l h)) 0 e))
        pop_cases

    pub popped-below : (i : ℕ) → i < from → get_or (popped from l h row) i 0 ≡ get_or l i 0
    popped-below i x = popped_cell i (λ z. omega arith)

    pub popped-long : length (popped from l h row) ≡ length l
    popped-long =
        ⊎_elim (λ (z : popped from l h row ≡ l). rw z)
        (λ (z : (1 ≤ first_of from l h) × (row_at from l (first_of from l h) ≡ row) × (popped from l h row ≡ set l (from + h) (behind from l (first_of from l h)))).
        rw z.2 (length-set l (from + h) (behind from l (first_of from l h))))
        pop_cases

    module _ (w : Chains from l) (low : h < 1024) where
      pub popped_nodes : nodes_in from (popped from l h row) ≡ nodes_in from l
      unfolding nodes_in
      popped_nodes = popped_cell (from + 4096) (λ e. omega arith)

      pub popped_above : (i : ℕ) → from + 4097 ≤ i → get_or (popped from l h row) i 0 ≡ get_or l i 0
      popped_above i x = popped_cell i (λ z. omega arith)

      popped-row : (q : ℕ) → row_at from (popped from l h row) q ≡ row_at from l q
      unfolding row_at
      popped-row q = popped_cell (from + 2559 + q) (λ e. omega arith)

      popped-behind : (q : ℕ) → 1 ≤ q → behind from (popped from l h row) q ≡ behind from l q
      unfolding behind
      popped-behind q a = popped_cell (from + 1023 + q) (λ e. omega arith)

      popped_first_other : (g : ℕ) → (g ≡ h → ⊥) → first_of from (popped from l h row) g ≡ first_of from l g
      unfolding first_of
      popped_first_other g e = popped_cell (from + g) (λ z. e (omega arith))

      popped_first : (first_of from (popped from l h row) h ≡ first_of from l h)
          ⊎ ((1 ≤ first_of from l h) × (row_at from l (first_of from l h) ≡ row) × (first_of from (popped from l h row) h ≡ behind from l (first_of from l h)))
      unfolding first_of
      popped_first =
          let long = w.long in
          ⊎_elim (λ (z : popped from l h row ≡ l). inl (rw z))
          (λ (z : (1 ≤ first_of from l h) × (row_at from l (first_of from l h) ≡ row) × (popped from l h row ≡ set l (from + h) (behind from l (first_of from l h)))).
          inr (z.0, z.1, rw z.2 (get_or-set_same l (from + h) (behind from l (first_of from l h)) 0 (omega arith))))
          pop_cases

      pub popped_chains : Chains from (popped from l h row)
      popped_chains =
          record {
            long = rw popped-long w.long;
            few = rw popped_nodes w.few;
            firsts = λ g k.
                ⊎_elim
                (λ (e : g ≡ h).
                let old = w.firsts h low in
                ⊎_elim (λ (z : first_of from (popped from l h row) h ≡ first_of from l h). rw (e, z, popped_nodes) old)
                (λ (z : (1 ≤ first_of from l h) × (row_at from l (first_of from l h) ≡ row) × (first_of from (popped from l h row) h ≡ behind from l (first_of from l h))).
                rw (e, z.2, popped_nodes) (omega (arith, w.falls (first_of from l h) z.0 old)))
                popped_first)
                (λ (e : g ≡ h → ⊥). rw (popped_first_other g e, popped_nodes) (w.firsts g k))
                (eq_or_ne g h);
            falls = λ q a b. rw (popped-behind q a) (w.falls q a (rw popped_nodes at b));
          }

      -- every other row is still found
      pub popped-found : (g r : ℕ) → g < 1024 → (row ≡ r → ⊥) → Found from l (first_of from l g) r → Found from (popped from l h row) (first_of from (popped from l h row) g) r
      popped-found g r k other f =
          let m = popped from l h row in
          let alike : Alike l m (nodes_in from l) = λ q a b. (popped-row q, popped-behind q a) in
          let kept : (q : ℕ) → q ≤ nodes_in from l → Found from l q r → Found from m q r = λ q b. found-kept l m (nodes_in from l) alike w.falls q r b in
          let old = w.firsts h low in
          ⊎_elim
          (λ (e : g ≡ h).
          let f1 : Found from l (first_of from l h) r = rw e at f in
          ⊎_elim (λ (z : first_of from m h ≡ first_of from l h). rw (e, z) (kept (first_of from l h) old f1))
          (λ (z : (1 ≤ first_of from l h) × (row_at from l (first_of from l h) ≡ row) × (first_of from m h ≡ behind from l (first_of from l h))).
          ⊎_elim (λ (y : row_at from l (first_of from l h) ≡ r). absurd (other (sym z.1 ∙ y)))
          (λ (y : Found from l (behind from l (first_of from l h)) r).
          rw (e, z.2) (kept (behind from l (first_of from l h)) (omega (arith, w.falls (first_of from l h) z.0 old)) y))
          (found-next l (first_of from l h) r f1))
          popped_first)
          (λ (e : g ≡ h → ⊥). rw (popped_first_other g e) (kept (first_of from l g) (w.firsts g k) f))
          (eq_or_ne g h)

      pub popped_rows : (P : ℕ → Type 0) → ((q : ℕ) → 1 ≤ q → q ≤ nodes_in from l → P (row_at from l q))
          → (q : ℕ) → 1 ≤ q → q ≤ nodes_in from (popped from l h row) → P (row_at from (popped from l h row) q)
      popped_rows P f q a b = rw (popped-row q) (f q a (rw popped_nodes at b))

  -- ---- what the functions are asked, over plain values

  module _ (l : List ℕ) (w : Chains from l) (r : ℕ) where
    pub nodes_few : r ≡ get_or l (from + 4096) 0 → r ≤ 1536
    unfolding nodes_in
    nodes_few e = omega (arith, w.few)

    pub first_is : (h : ℕ) → h < 1024 → r ≡ get_or l (from + h) 0 → r ≤ nodes_in from l
    unfolding first_of
    first_is h k e = omega (arith, w.firsts h k)

    pub behind_is : (q : ℕ) → 1 ≤ q → q ≤ nodes_in from l → r ≡ get_or l (from + 1023 + q) 0 → r < q
    unfolding behind
    behind_is q a b e = omega (arith, w.falls q a b)

  module _ (l : List ℕ) (h row q : ℕ) where
    pub pop_empty : q ≡ first_of from l h → q ≡ 0 → l ≡ popped from l h row
    unfolding popped
    pop_empty e z = rw (eq-eqb (first_of from l h) 0 (sym e ∙ z))

    pub pop_other : (x : ℕ) → x ≡ row_at from l q → (x ≡ row → ⊥) → q ≡ first_of from l h → (q ≡ 0 → ⊥) → l ≡ popped from l h row
    unfolding popped
    pop_other x f g e z =
        rw (ne_eqb (first_of from l h) 0 (λ (y : first_of from l h ≡ 0). z (e ∙ y)), ne_eqb (row_at from l (first_of from l h)) row (λ (y : row_at from l (first_of from l h) ≡ row). g (f ∙ rw e y)))

    pub pop_first : (x : ℕ) → x ≡ row_at from l q → x ≡ row → q ≡ first_of from l h → (q ≡ 0 → ⊥) → (v : ℕ) → v ≡ behind from l q → (m : List ℕ) → m ≡ set l (from + h) v → m ≡ popped from l h row
    unfolding popped
    pop_first x f g e z v p m y =
        y
        ∙ rw (ne_eqb (first_of from l h) 0 (λ (y : first_of from l h ≡ 0). z (e ∙ y)), eq-eqb (row_at from l (first_of from l h)) row ((rw e at (sym f)) ∙ g), p, e)

-- what the goals of this crate ask for
pub ruleset ways = (nodes_few, first_is, behind_is, pop_empty, pop_other, pop_first)
