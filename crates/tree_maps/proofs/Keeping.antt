-- The register as entries are made, relabelled, moved and removed.
-- Assumes nothing.
use Prim.Native.Nat.{ℕ, zero, suc, ◌+◌, ◌-◌, ◌≤◌, ◌<◌}
use native.Mathlib.Numerals.{add-one}
use native.Mathlib.Omega.{arith}
use mathlib.Core.Path.{◌≡◌, refl, sym, ap, ◌∙◌}
use mathlib.Core.Logic.{⊎_elim}
use mathlib.Core.Bool.{true, false}
use mathlib.Core.List.{List, [], ◌∷◌, ◌++◌}
use lib.Dec.{eqb}
use lib.ListN.{get_or, length, set, length-set}
use lib.Seq.{get_or-set_same, get_or-set_other, set-set}
use borrow.Author.Tests.{ne_eqb}
use Rattle.model.specs.Replay.{Entry, is_present, is_in}
use Rattle.byte_slice.proofs.Numbers.{eq_or_ne, not_both}
use Rattle.hash_chains.specs.Chains.{nodes_in, row_at, popped, Chains}
use Rattle.hash_chains.proofs.Links.{kept_nodes, kept_chains, kept-found, kept_rows, pushed-below, pushed_above, pushed_long, pushed_nodes, pushed_chains, pushed_new, pushed-found, pushed_rows, popped-below, popped_above, popped-long, popped_nodes, popped_chains, popped-found, popped_rows}
use Rattle.tree_maps.specs.Keys.{register_size, link_of, hash_of, chain_of, children_of, folder_at, OneEach, counted_up, counted_down, named, entered, relabelled, left, shifted, Keyed}
use Rattle.tree_maps.proofs.Counts.{link_low, hash_low, count-before, up_at, down_at, one, folder_set, folder_more, folder_new, one_each_set, same_place, children_more, children_set, present_in, absent_in, same_in}

chain_low : (e : Entry) → chain_of e < 1024
unfolding chain_of
chain_low e = hash_low e.inside e.label

-- ---- lists of entries

last_at : (l : List Entry) (e d : Entry) → get_or (l ++ (e ∷ [])) (length l) d ≡ e
last_at [] e d = refl
last_at (x ∷ l) e d = last_at l e d

more_at : (l : List Entry) (e d : Entry) (i : ℕ) → i < length l → get_or (l ++ (e ∷ [])) i d ≡ get_or l i d
more_at [] e d i h = absurd (omega arith)
more_at (x ∷ l) e d zero h = refl
more_at (x ∷ l) e d (suc i) h = more_at l e d i (omega arith)

-- ---- the parts of the register

module _ (l : List ℕ) (p : ℕ) where
  pub up_long : length (counted_up l p) ≡ length l
  unfolding counted_up
  up_long = length-set l (8194 + p) (get_or l (8194 + p) 0 + 1)

  up_before : (i : ℕ) → i < 8194 → get_or (counted_up l p) i 0 ≡ get_or l i 0
  unfolding counted_up
  up_before i h = count-before l p (get_or l (8194 + p) 0 + 1) i h

  down_long : length (counted_down l p) ≡ length l
  unfolding counted_down
  down_long = length-set l (8194 + p) (get_or l (8194 + p) 0 - 1)

  down_before : (i : ℕ) → i < 8194 → get_or (counted_down l p) i 0 ≡ get_or l i 0
  unfolding counted_down
  down_before i h = count-before l p (get_or l (8194 + p) 0 - 1) i h

  module _ (c : Chains 4097 l) where
    pub up_chains : Chains 4097 (counted_up l p)
    up_chains = kept_chains 4097 l (counted_up l p) c (λ i _ h. up_before i (omega arith)) up_long

    pub up_nodes : nodes_in 4097 (counted_up l p) ≡ nodes_in 4097 l
    up_nodes = kept_nodes 4097 l (counted_up l p) c (λ i _ h. up_before i (omega arith))

    down_chains : Chains 4097 (counted_down l p)
    down_chains = kept_chains 4097 l (counted_down l p) c (λ i _ h. down_before i (omega arith)) down_long

    down_nodes : nodes_in 4097 (counted_down l p) ≡ nodes_in 4097 l
    down_nodes = kept_nodes 4097 l (counted_down l p) c (λ i _ h. down_before i (omega arith))

module _ (l : List ℕ) (n : ℕ) (es : List Entry) (w : Keyed l n es) where
  -- numbers before the chains of labels are written
  pub keyed_beside : (m : List ℕ) → length m ≡ length l → ((i : ℕ) → 4097 ≤ i → get_or m i 0 ≡ get_or l i 0) → Keyed m n es
  keyed_beside m long same =
      let c = w.chains in
      let s : (i : ℕ) → 4097 ≤ i → i < 4097 + 4097 → get_or m i 0 ≡ get_or l i 0 = λ i h _. same i h in
      record {
        wide = long ∙ w.wide;
        chains = kept_chains 4097 l m c s long;
        rows = kept_rows 4097 l m c s (λ x. x < n) w.rows;
        counted = λ p h. same (8194 + p) (omega arith) ∙ w.counted p h;
        spare = λ p h g. same (8194 + p) (omega arith) ∙ w.spare p h g;
        kept = λ i d h p. kept-found 4097 l m c s (chain_of (get_or es i d)) i (chain_low (get_or es i d)) (w.kept i d h p);
      }

  -- an entry changes, but neither its identity nor its folder nor its label
  pub keyed_same : (i : ℕ) (e d : Entry) → i < length es → i < n → e.made ≡ (get_or es i d).made → is_present e ≡ is_present (get_or es i d) → e.inside ≡ (get_or es i d).inside
      → e.label ≡ (get_or es i d).label → Keyed l n (set es i e)
  unfolding chain_of
  keyed_same i e d h low o p q t =
      record {
        wide = w.wide;
        chains = w.chains;
        rows = w.rows;
        counted = λ s r.
            let k = folder_at es s in
            rw (folder_set es i e d o s) (w.counted s r ∙ omega (arith, children_set k es i e d h, ap one (same_in k e (get_or es i d) p q)));
        spare = w.spare;
        kept = λ j d2 g y.
            ⊎_elim
            (λ (z : j ≡ i).
            let at : get_or (set es i e) j d2 ≡ e = rw z (get_or-set_same es i e d2 h) in
            let y1 : is_present e ≡ true = rw at at y in
            rw (at, z, q, t) (w.kept i d low (sym p ∙ y1)))
            (λ (z : j ≡ i → ⊥).
            let at : get_or (set es i e) j d2 ≡ get_or es j d2 = get_or-set_other es i j e d2 z in
            rw at (w.kept j d2 g (rw at at y)))
            (eq_or_ne j i);
      }

  module _ (fit : length es ≡ n) where
    -- an entry more, in the folder at the place p
    pub keyed_made : (e : Entry) (p : ℕ) → OneEach es → n < 1024 → p ≤ n → folder_at es p ≡ e.inside → children_of e.made es ≡ 0 → (e.inside ≡ e.made → ⊥)
        → is_present e ≡ true → nodes_in 4097 l < 1536 → Keyed (entered l p e.inside e.label n) (n + 1) (es ++ (e ∷ []))
    unfolding entered chain_of
    keyed_made e p one_each few within is none other here room =
        let f = e.inside in
        let h = hash_of f e.label in
        let m = counted_up l p in
        let c = w.chains in
        let same : (i : ℕ) → 4097 ≤ i → i < 4097 + 4097 → get_or m i 0 ≡ get_or l i 0 = λ i _ g. up_before l p i (omega arith) in
        let cm : Chains 4097 m = up_chains l p c in
        let rm : nodes_in 4097 m < 1536 = rw (up_nodes l p c) room in
        let low : h < 1024 = hash_low f e.label in
        let old : (q : ℕ) → 1 ≤ q → q ≤ nodes_in 4097 m → row_at 4097 m q < n = kept_rows 4097 l m c same (λ x. x < n) w.rows in
        let cell : (q : ℕ) → get_or (entered l p f e.label n) (8194 + q) 0 ≡ get_or l (8194 + q) 0 + one (eqb p q) =
        λ q. pushed_above 4097 m h n cm rm low (8194 + q) (omega arith) ∙ up_at l p q w.wide (omega arith) in
        record {
          wide = pushed_long 4097 m h n ∙ up_long l p ∙ w.wide;
          chains = pushed_chains 4097 m h n cm rm low;
          rows = pushed_rows 4097 m h n cm rm low (λ x. x < n + 1) (omega arith) (λ q a b. omega (arith, old q a b));
          counted = λ q r.
              ⊎_elim
              (λ (z : q ≡ n + 1).
              let at : folder_at (es ++ (e ∷ [])) q ≡ e.made = rw (z, add-one n, ← fit) (folder_new es e) in
              let u : eqb p q ≡ false = ne_eqb p q (λ y. omega arith) in
              let v : is_in e.made e ≡ false = present_in e.made e here ∙ ne_eqb f e.made other in
              rw at (cell q ∙ omega (arith, w.spare q (omega arith) (omega arith), ap one u, children_more e.made es e, ap one v)))
              (λ (z : q ≡ n + 1 → ⊥).
              let k = folder_at es q in
              let at : folder_at (es ++ (e ∷ [])) q ≡ k = folder_more es e q (omega arith) in
              let u = same_place es one_each p q f (omega arith) (omega arith) is in
              rw at (cell q ∙ omega (arith, w.counted q (omega arith), u, children_more k es e, ap one (present_in k e here))))
              (eq_or_ne q (n + 1));
          spare = λ q r g.
              let u : eqb p q ≡ false = ne_eqb p q (λ y. omega arith) in
              cell q ∙ omega (arith, w.spare q (omega arith) g, ap one u);
          kept = λ j d g y.
              ⊎_elim
              (λ (z : j ≡ n).
              let at : get_or (es ++ (e ∷ [])) j d ≡ e = rw (z, ← fit) (last_at es e d) in
              rw (at, z) (pushed_new 4097 m h n cm rm low))
              (λ (z : j ≡ n → ⊥).
              let at : get_or (es ++ (e ∷ [])) j d ≡ get_or es j d = more_at es e d j (omega arith) in
              let o = get_or es j d in
              rw at
              (pushed-found 4097 m h n cm rm low (chain_of o) j (chain_low o)
              (kept-found 4097 l m c same (chain_of o) j (chain_low o) (w.kept j d (omega arith) (rw at at y)))))
              (eq_or_ne j n);
        }

  -- the entry in row i gets another label
  pub keyed_relabelled : (i : ℕ) (e d : Entry) (old : List ℕ) → i < length es → i < n → e.made ≡ (get_or es i d).made → is_present e ≡ is_present (get_or es i d)
      → e.inside ≡ (get_or es i d).inside → nodes_in 4097 l < 1536 → Keyed (relabelled l e.inside old e.label i) n (set es i e)
  unfolding relabelled chain_of
  keyed_relabelled i e d old h low o p q room =
      let a = hash_of e.inside old in
      let b = hash_of e.inside e.label in
      let m = popped 4097 l a i in
      let c = w.chains in
      let la : a < 1024 = hash_low e.inside old in
      let lb : b < 1024 = hash_low e.inside e.label in
      let cm : Chains 4097 m = popped_chains 4097 l a i c la in
      let rm : nodes_in 4097 m < 1536 = rw (popped_nodes 4097 l a i c la) room in
      let cell : (s : ℕ) → get_or (relabelled l e.inside old e.label i) (8194 + s) 0 ≡ get_or l (8194 + s) 0 =
      λ s. pushed_above 4097 m b i cm rm lb (8194 + s) (omega arith) ∙ popped_above 4097 l a i c la (8194 + s) (omega arith) in
      record {
        wide = pushed_long 4097 m b i ∙ popped-long 4097 l a i ∙ w.wide;
        chains = pushed_chains 4097 m b i cm rm lb;
        rows = pushed_rows 4097 m b i cm rm lb (λ x. x < n) low (popped_rows 4097 l a i c la (λ x. x < n) w.rows);
        counted = λ s r.
            let k = folder_at es s in
            rw (folder_set es i e d o s)
            (cell s ∙ w.counted s r ∙ omega (arith, children_set k es i e d h, ap one (same_in k e (get_or es i d) p q)));
        spare = λ s r g. cell s ∙ w.spare s r g;
        kept = λ j d2 g y.
            ⊎_elim
            (λ (z : j ≡ i).
            let at : get_or (set es i e) j d2 ≡ e = rw z (get_or-set_same es i e d2 h) in
            rw (at, z) (pushed_new 4097 m b i cm rm lb))
            (λ (z : j ≡ i → ⊥).
            let at : get_or (set es i e) j d2 ≡ get_or es j d2 = get_or-set_other es i j e d2 z in
            let x = get_or es j d2 in
            rw at
            (pushed-found 4097 m b i cm rm lb (chain_of x) j (chain_low x)
            (popped-found 4097 l a i c la (chain_of x) j (chain_low x) (λ (u : i ≡ j). z (sym u)) (w.kept j d2 g (rw at at y)))))
            (eq_or_ne j i);
      }

  module _ (fit : length es ≡ n) (one_each : OneEach es) (i : ℕ) (e d : Entry) (h : i < length es) (made : e.made ≡ (get_or es i d).made) (p f : ℕ) (within : p ≤ n) (few : n ≤ 1024) (is : folder_at es p ≡ f) where
    -- the entry in row i leaves its folder, at the place p
    pub keyed_left : (t : List ℕ) → is_present (get_or es i d) ≡ true → is_present e ≡ false → f ≡ (get_or es i d).inside → Keyed (left l p f t i) n (set es i e)
    unfolding left
    keyed_left t here gone q =
        let a = hash_of f t in
        let x = popped 4097 l a i in
        let m = counted_down x p in
        let c = w.chains in
        let la : a < 1024 = hash_low f t in
        let cx : Chains 4097 x = popped_chains 4097 l a i c la in
        let same : (j : ℕ) → 4097 ≤ j → j < 4097 + 4097 → get_or m j 0 ≡ get_or x j 0 = λ j _ g. down_before x p j (omega arith) in
        let wx : length x ≡ register_size = popped-long 4097 l a i ∙ w.wide in
        let cell : (s : ℕ) → get_or m (8194 + s) 0 ≡ get_or l (8194 + s) 0 - one (eqb p s) =
        λ s. down_at x p s wx (omega arith) ∙ rw (popped_above 4097 l a i c la (8194 + s) (omega arith)) in
        record {
          wide = down_long x p ∙ wx;
          chains = down_chains x p cx;
          rows = kept_rows 4097 x m cx same (λ y. y < n) (popped_rows 4097 l a i c la (λ y. y < n) w.rows);
          counted = λ s r.
              let k = folder_at es s in
              let o = get_or es i d in
              let u : one (is_in k o) ≡ one (eqb f k) = ap one (present_in k o here) ∙ ap (λ (v : ℕ). one (eqb v k)) (sym q) in
              let v : one (is_in k e) ≡ 0 = ap one (absent_in k e gone) in
              let y = same_place es one_each p s f (omega arith) (omega arith) is in
              rw (folder_set es i e d made s) (cell s ∙ omega (arith, w.counted s r, children_set k es i e d h));
          spare = λ s r g. cell s ∙ omega (arith, w.spare s r g);
          kept = λ j d2 g y.
              ⊎_elim
              (λ (z : j ≡ i).
              let at : get_or (set es i e) j d2 ≡ e = rw z (get_or-set_same es i e d2 h) in
              absurd (not_both (is_present e) (rw at at y) gone))
              (λ (z : j ≡ i → ⊥).
              let at : get_or (set es i e) j d2 ≡ get_or es j d2 = get_or-set_other es i j e d2 z in
              let o = get_or es j d2 in
              rw at
              (kept-found 4097 x m cx same (chain_of o) j (chain_low o)
              (popped-found 4097 l a i c la (chain_of o) j (chain_low o) (λ (u : i ≡ j). z (sym u)) (w.kept j d2 g (rw at at y)))))
              (eq_or_ne j i);
        }

    -- the absent entry in row i comes to its folder, at the place p
    pub keyed_entered : i < n → f ≡ e.inside → is_present (get_or es i d) ≡ false → is_present e ≡ true → nodes_in 4097 l < 1536 → Keyed (entered l p f e.label i) n (set es i e)
    unfolding entered chain_of
    keyed_entered low q gone here room =
        let a = hash_of f e.label in
        let m = counted_up l p in
        let c = w.chains in
        let same : (j : ℕ) → 4097 ≤ j → j < 4097 + 4097 → get_or m j 0 ≡ get_or l j 0 = λ j _ g. up_before l p j (omega arith) in
        let cm : Chains 4097 m = up_chains l p c in
        let rm : nodes_in 4097 m < 1536 = rw (up_nodes l p c) room in
        let la : a < 1024 = hash_low f e.label in
        let cell : (s : ℕ) → get_or (entered l p f e.label i) (8194 + s) 0 ≡ get_or l (8194 + s) 0 + one (eqb p s) =
        λ s. pushed_above 4097 m a i cm rm la (8194 + s) (omega arith) ∙ up_at l p s w.wide (omega arith) in
        record {
          wide = pushed_long 4097 m a i ∙ up_long l p ∙ w.wide;
          chains = pushed_chains 4097 m a i cm rm la;
          rows = pushed_rows 4097 m a i cm rm la (λ x. x < n) low (kept_rows 4097 l m c same (λ x. x < n) w.rows);
          counted = λ s r.
              let k = folder_at es s in
              let u : one (is_in k (get_or es i d)) ≡ 0 = ap one (absent_in k (get_or es i d) gone) in
              let v : one (is_in k e) ≡ one (eqb f k) = ap one (present_in k e here) ∙ ap (λ (v : ℕ). one (eqb v k)) (sym q) in
              let y = same_place es one_each p s f (omega arith) (omega arith) is in
              rw (folder_set es i e d made s) (cell s ∙ omega (arith, w.counted s r, children_set k es i e d h));
          spare = λ s r g.
              let u : eqb p s ≡ false = ne_eqb p s (λ y. omega arith) in
              cell s ∙ omega (arith, w.spare s r g, ap one u);
          kept = λ j d2 g y.
              ⊎_elim
              (λ (z : j ≡ i).
              let at : get_or (set es i e) j d2 ≡ e = rw z (get_or-set_same es i e d2 h) in
              rw (at, z, ← q) (pushed_new 4097 m a i cm rm la))
              (λ (z : j ≡ i → ⊥).
              let at : get_or (set es i e) j d2 ≡ get_or es j d2 = get_or-set_other es i j e d2 z in
              let o = get_or es j d2 in
              rw at
              (pushed-found 4097 m a i cm rm la (chain_of o) j (chain_low o)
              (kept-found 4097 l m c same (chain_of o) j (chain_low o) (w.kept j d2 g (rw at at y)))))
              (eq_or_ne j i);
        }

-- ---- the chains of identities stay, and the labels get at most a node

module _ (l : List ℕ) (p f : ℕ) (t : List ℕ) (row : ℕ) where
  pub entered-before : (i : ℕ) → i < 4097 → get_or (entered l p f t row) i 0 ≡ get_or l i 0
  unfolding entered
  entered-before i h = pushed-below 4097 (counted_up l p) (hash_of f t) row i h ∙ up_before l p i (omega arith)

  pub entered-long : length (entered l p f t row) ≡ length l
  unfolding entered
  entered-long = pushed_long 4097 (counted_up l p) (hash_of f t) row ∙ up_long l p

  pub entered_nodes : Chains 4097 l → nodes_in 4097 l < 1536 → nodes_in 4097 (entered l p f t row) ≡ nodes_in 4097 l + 1
  unfolding entered
  entered_nodes c room =
      let e = up_nodes l p c in
      pushed_nodes 4097 (counted_up l p) (hash_of f t) row (up_chains l p c) (rw e room) (hash_low f t) ∙ rw e

  pub left-before : (i : ℕ) → i < 4097 → get_or (left l p f t row) i 0 ≡ get_or l i 0
  unfolding left
  left-before i h = down_before (popped 4097 l (hash_of f t) row) p i (omega arith) ∙ popped-below 4097 l (hash_of f t) row i h

  pub left-long : length (left l p f t row) ≡ length l
  unfolding left
  left-long = down_long (popped 4097 l (hash_of f t) row) p ∙ popped-long 4097 l (hash_of f t) row

  module _ (c : Chains 4097 l) where
    pub left_chains : Chains 4097 (left l p f t row)
    unfolding left
    left_chains = down_chains (popped 4097 l (hash_of f t) row) p (popped_chains 4097 l (hash_of f t) row c (hash_low f t))

    pub left_nodes : nodes_in 4097 (left l p f t row) ≡ nodes_in 4097 l
    unfolding left
    left_nodes =
        let low = hash_low f t in
        down_nodes (popped 4097 l (hash_of f t) row) p (popped_chains 4097 l (hash_of f t) row c low) ∙ popped_nodes 4097 l (hash_of f t) row c low

module _ (l : List ℕ) (f : ℕ) (old t : List ℕ) (row : ℕ) where
  pub relabelled-before : (i : ℕ) → i < 4097 → get_or (relabelled l f old t row) i 0 ≡ get_or l i 0
  unfolding relabelled
  relabelled-before i h = pushed-below 4097 (popped 4097 l (hash_of f old) row) (hash_of f t) row i h ∙ popped-below 4097 l (hash_of f old) row i h

  pub relabelled-long : length (relabelled l f old t row) ≡ length l
  unfolding relabelled
  relabelled-long = pushed_long 4097 (popped 4097 l (hash_of f old) row) (hash_of f t) row ∙ popped-long 4097 l (hash_of f old) row

  pub relabelled_nodes : Chains 4097 l → nodes_in 4097 l < 1536 → nodes_in 4097 (relabelled l f old t row) ≡ nodes_in 4097 l + 1
  unfolding relabelled
  relabelled_nodes c room =
      let a = hash_of f old in
      let low = hash_low f old in
      let e : nodes_in 4097 (popped 4097 l a row) ≡ nodes_in 4097 l = popped_nodes 4097 l a row c low in
      pushed_nodes 4097 (popped 4097 l a row) (hash_of f t) row (popped_chains 4097 l a row c low) (rw e room) (hash_low f t) ∙ rw e

-- ---- a move: leave, then enter

module _ (l : List ℕ) (p f : ℕ) (old : List ℕ) (q g : ℕ) (t : List ℕ) (row : ℕ) where
  pub shifted-before : (i : ℕ) → i < 4097 → get_or (shifted l p f old q g t row) i 0 ≡ get_or l i 0
  unfolding shifted
  shifted-before i h = entered-before (left l p f old row) q g t row i h ∙ left-before l p f old row i h

  pub shifted-long : length (shifted l p f old q g t row) ≡ length l
  unfolding shifted
  shifted-long = entered-long (left l p f old row) q g t row ∙ left-long l p f old row

  pub shifted_nodes : Chains 4097 l → nodes_in 4097 l < 1536 → nodes_in 4097 (shifted l p f old q g t row) ≡ nodes_in 4097 l + 1
  unfolding shifted
  shifted_nodes c room =
      let e = left_nodes l p f old row c in
      entered_nodes (left l p f old row) q g t row (left_chains l p f old row c) (rw e room) ∙ rw e

-- the entry in row i goes to another folder under another label
pub keyed_shifted : (l : List ℕ) (n : ℕ) (es : List Entry) → Keyed l n es → length es ≡ n → OneEach es → n ≤ 1024 → (i : ℕ) (gone e d : Entry) → i < n
    → gone.made ≡ (get_or es i d).made → e.made ≡ (get_or es i d).made → (p f : ℕ) → p ≤ n → folder_at es p ≡ f → (q g : ℕ) → q ≤ n → folder_at es q ≡ g → (old : List ℕ)
    → is_present (get_or es i d) ≡ true → is_present gone ≡ false → is_present e ≡ true → f ≡ (get_or es i d).inside → g ≡ e.inside → nodes_in 4097 l < 1536
    → Keyed (shifted l p f old q g e.label i) n (set es i e)
unfolding shifted
keyed_shifted l n es w fit one_each few i gone e d low mg me p f hp ip q g hq iq old here absent present x y room =
    let h : i < length es = omega arith in
    let v = keyed_left l n es w fit one_each i gone d h mg p f hp few ip old here absent x in
    let es1 = set es i gone in
    let s = length-set es i gone in
    let at : get_or es1 i d ≡ gone = get_or-set_same es i gone d h in
    let m1 : e.made ≡ (get_or es1 i d).made = rw at (me ∙ sym mg) in
    rw (← set-set es i gone e)
    (keyed_entered (left l p f old i) n es1 v (s ∙ fit) (one_each_set es i gone d mg one_each) i e d (omega arith) m1 q g hq few (folder_set es i gone d mg q ∙ iq) low y
    (rw at absent)
    present
    (rw (left_nodes l p f old i w.chains) room))

-- ---- an identity gets a role

module _ (l : List ℕ) (k role : ℕ) where
  pub named-long : length (named l k role) ≡ length l
  unfolding named
  named-long = pushed_long 0 l (link_of k) role

  module _ (c : Chains 0 l) (room : nodes_in 0 l < 1536) where
    pub named-behind : (i : ℕ) → 4097 ≤ i → get_or (named l k role) i 0 ≡ get_or l i 0
    unfolding named
    named-behind i h = pushed_above 0 l (link_of k) role c room (link_low k) i (omega arith)

    pub named_labels : Chains 4097 l → nodes_in 4097 (named l k role) ≡ nodes_in 4097 l
    named_labels w = kept_nodes 4097 l (named l k role) w (λ i h _. named-behind i h)

-- ---- what the functions are asked, over plain values

module _ (l m : List ℕ) (c : Chains 4097 l) where
  module _ (p : ℕ) (e : m ≡ counted_up l p) where
    pub counted_chains : Chains 4097 m
    counted_chains = rw e (up_chains l p c)

    pub counted_room : nodes_in 4097 l < 1536 → nodes_in 4097 m < 1536
    counted_room room = rw (e, up_nodes l p c) room

  module _ (h row : ℕ) (low : h < 1021) (e : m ≡ popped 4097 l h row) where
    pub pop_chains : Chains 4097 m
    pop_chains = rw e (popped_chains 4097 l h row c (omega arith))

    pub pop_long : length l ≡ register_size → length m ≡ register_size
    pop_long z = rw (e, popped-long 4097 l h row) z

    pub pop_room : nodes_in 4097 l < 1536 → nodes_in 4097 m < 1536
    pop_room room = rw (e, popped_nodes 4097 l h row c (omega arith)) room

    pub pop_count : (p : ℕ) → 1 ≤ get_or l (8194 + p) 0 → 1 ≤ get_or m (8194 + p) 0
    pop_count p u = rw (e, popped_above 4097 l h row c (omega arith) (8194 + p) (omega arith)) u

  module _ (p f : ℕ) (t : List ℕ) (row : ℕ) (e : m ≡ left l p f t row) where
    pub leave_chains : Chains 4097 m
    leave_chains = rw e (left_chains l p f t row c)

    pub leave_long : length l ≡ register_size → length m ≡ register_size
    leave_long z = rw (e, left-long l p f t row) z

    pub leave_room : nodes_in 4097 l < 1536 → nodes_in 4097 m < 1536
    leave_room room = rw (e, left_nodes l p f t row c) room

    pub leave_count : length l ≡ register_size → p ≤ 1024 → (q : ℕ) → get_or l (8194 + q) 0 ≤ 1024 → get_or m (8194 + q) 0 ≤ 1024
    unfolding left
    leave_count long low q u =
        let x = popped 4097 l (hash_of f t) row in
        let a : get_or x (8194 + q) 0 ≡ get_or l (8194 + q) 0 = popped_above 4097 l (hash_of f t) row c (hash_low f t) (8194 + q) (omega arith) in
        let y : get_or m (8194 + q) 0 ≡ get_or x (8194 + q) 0 - one (eqb p q) = rw e (down_at x p q (popped-long 4097 l (hash_of f t) row ∙ long) low) in
        omega arith
