-- The order of the index, entries put in by it, and halving.
-- Assumes nothing.
use Prim.Native.Nat.{ℕ, zero, suc, ◌+◌, ◌-◌, ◌*◌, ◌/◌, ◌≤◌, ◌<◌}
use native.Mathlib.Omega.{arith}
use mathlib.Core.Path.{◌≡◌, refl, sym, ap, ◌∙◌, subst}
use mathlib.Core.Logic.{◌⊎◌, inl, inr, ⊎_elim}
use mathlib.Core.Bool.{Bool, true, false, cond, not, ◌&&◌, ◌||◌}
use mathlib.Core.List.{List, [], ◌∷◌}
use lib.Dec.{ltb, eqb}
use lib.ListN.{length, get_or}
use borrow.Author.Tests.{eqb-true, eqb-false, eq-eqb, ne_eqb, ltb-true, ltb-false, lt-ltb, le-ltb}
use Rattle.byte_slice.proofs.Numbers.{lt_or_ge, eq_or_ne, bool_cases, cond_cases, and_true, or_true, true_and, test_false, not_both}
use Rattle.model.specs.Replay.{Entry, label_key}
use Rattle.tree_laws.specs.Replayed.{Has}
use Rattle.index_model.specs.Index.{comes_before, folder_key, key_before, entry_before, placed, ordered, halve}

-- ---- the order of texts

first_or : (a b : Bool) → a ≡ true → (a || b) ≡ true
first_or a b p = rw p

second_or : (a b : Bool) → b ≡ true → (a || b) ≡ true
second_or true b p = refl
second_or false b p = p

-- x comes first, or is the same and the rest comes first
pub less : (x y : ℕ) (c : Bool) → (ltb x y || (eqb x y && c)) ≡ true → (x < y) ⊎ ((x ≡ y) × (c ≡ true))
less x y c e =
    ⊎_elim
    (λ p. inl (ltb-true x y p))
    (λ p. let (a, b) = and_true (eqb x y) c p in inr (eqb-true x y a, b))
    (or_true (ltb x y) (eqb x y && c) e)

pub less_if : (x y : ℕ) (c : Bool) → (x < y) ⊎ ((x ≡ y) × (c ≡ true)) → (ltb x y || (eqb x y && c)) ≡ true
less_if x y c (inl p) = first_or (ltb x y) (eqb x y && c) (lt-ltb x y p)
less_if x y c (inr (p, q)) = second_or (ltb x y) (eqb x y && c) (true_and (eqb x y) c (eq-eqb x y p) q)

text_trans : (a b c : List ℕ) → comes_before a b ≡ true → comes_before b c ≡ true → comes_before a c ≡ true
unfolding comes_before
text_trans [] [] c p q = q
text_trans [] (y ∷ b) [] p q = q
text_trans [] (y ∷ b) (z ∷ c) p q = refl
text_trans (x ∷ a) [] c p q = absurd (let w : ◌≡◌ {A = ℕ} 0 1 = cc in omega arith)
text_trans (x ∷ a) (y ∷ b) [] p q = q
text_trans (x ∷ a) (y ∷ b) (z ∷ c) p q =
    less_if x z (comes_before a c)
    (⊎_elim
    (λ (u : x < y). ⊎_elim (λ (v : y < z). inl (omega arith)) (λ v. inl (omega (arith, v.0))) (less y z (comes_before b c) q))
    (λ u.
    ⊎_elim
    (λ (v : y < z). inl (omega (arith, u.0)))
    (λ v. inr (u.0 ∙ v.0, text_trans a b c u.1 v.1))
    (less y z (comes_before b c) q))
    (less x y (comes_before a b) p))

pub text_not_self : (a : List ℕ) → comes_before a a ≡ false
unfolding comes_before
text_not_self [] = refl
text_not_self (x ∷ a) =
    test_false (ltb x x || (eqb x x && comes_before a a))
    (λ p. ⊎_elim (λ (q : x < x). omega arith) (λ q. not_both (comes_before a a) q.1 (text_not_self a)) (less x x (comes_before a a) p))

-- of two texts of which neither comes before the other, both are the same
text_same : (a b : List ℕ) → comes_before a b ≡ false → comes_before b a ≡ false → a ≡ b
unfolding comes_before
text_same [] [] p q = refl
text_same [] (y ∷ b) p q = absurd (let w : ◌≡◌ {A = ℕ} 0 1 = cc in omega arith)
text_same (x ∷ a) [] p q = absurd (let w : ◌≡◌ {A = ℕ} 0 1 = cc in omega arith)
text_same (x ∷ a) (y ∷ b) p q =
    let e : x ≡ y =
    ⊎_elim
    (λ (u : x < y). absurd (not_both (ltb x y || (eqb x y && comes_before a b)) (less_if x y (comes_before a b) (inl u)) p))
    (λ (u : y ≤ x).
    ⊎_elim
    (λ (v : y < x). absurd (not_both (ltb y x || (eqb y x && comes_before b a)) (less_if y x (comes_before b a) (inl v)) q))
    (λ (v : x ≤ y). omega arith)
    (lt_or_ge y x))
    (lt_or_ge x y) in
    let t : a ≡ b =
    text_same a b
    (test_false (comes_before a b) (λ u. not_both (ltb x y || (eqb x y && comes_before a b)) (less_if x y (comes_before a b) (inr (e, u))) p))
    (test_false (comes_before b a) (λ u. not_both (ltb y x || (eqb y x && comes_before b a)) (less_if y x (comes_before b a) (inr (sym e, u))) q)) in
    λ i. e i ∷ t i

-- ---- the order of keys

module _ (f : ℕ) (t : List ℕ) (g : ℕ) (s : List ℕ) where
  pub key_trans : (h : ℕ) (r : List ℕ) → key_before f t g s ≡ true → key_before g s h r ≡ true → key_before f t h r ≡ true
  unfolding key_before
  key_trans h r p q =
      less_if f h (comes_before (label_key t) (label_key r))
      (⊎_elim
      (λ (u : f < g). ⊎_elim (λ (v : g < h). inl (omega arith)) (λ v. inl (omega (arith, v.0))) (less g h (comes_before (label_key s) (label_key r)) q))
      (λ u.
      ⊎_elim
      (λ (v : g < h). inl (omega (arith, u.0)))
      (λ v. inr (u.0 ∙ v.0, text_trans (label_key t) (label_key s) (label_key r) u.1 v.1))
      (less g h (comes_before (label_key s) (label_key r)) q))
      (less f g (comes_before (label_key t) (label_key s)) p))

  -- not before each other: the same key
  pub key_same : key_before f t g s ≡ false → key_before g s f t ≡ false → (f ≡ g) × (label_key t ≡ label_key s)
  unfolding key_before
  key_same p q =
      let e : f ≡ g =
      ⊎_elim
      (λ (u : f < g). absurd (not_both (ltb f g || (eqb f g && comes_before (label_key t) (label_key s))) (less_if f g (comes_before (label_key t) (label_key s)) (inl u)) p))
      (λ (u : g ≤ f).
      ⊎_elim
      (λ (v : g < f). absurd (not_both (ltb g f || (eqb g f && comes_before (label_key s) (label_key t))) (less_if g f (comes_before (label_key s) (label_key t)) (inl v)) q))
      (λ (v : f ≤ g). omega arith)
      (lt_or_ge g f))
      (lt_or_ge f g) in (
        e,
        text_same (label_key t) (label_key s)
            (test_false (comes_before (label_key t) (label_key s)) (λ u. not_both (ltb f g || (eqb f g && comes_before (label_key t) (label_key s))) (less_if f g (comes_before (label_key t) (label_key s)) (inr (e, u))) p))
            (test_false (comes_before (label_key s) (label_key t)) (λ u. not_both (ltb g f || (eqb g f && comes_before (label_key s) (label_key t))) (less_if g f (comes_before (label_key s) (label_key t)) (inr (sym e, u))) q)),
      )

pub entry_trans : (e x y : Entry) → entry_before e x ≡ true → entry_before x y ≡ true → entry_before e y ≡ true
unfolding entry_before
entry_trans e x y = key_trans (folder_key e.inside) e.label (folder_key x.inside) x.label (folder_key y.inside) y.label

pub key_not_self : (f : ℕ) (t : List ℕ) → key_before f t f t ≡ false
unfolding key_before
key_not_self f t =
    test_false (ltb f f || (eqb f f && comes_before (label_key t) (label_key t)))
    (λ p. ⊎_elim (λ (q : f < f). omega arith) (λ q. not_both (comes_before (label_key t) (label_key t)) q.1 (text_not_self (label_key t))) (less f f (comes_before (label_key t) (label_key t)) p))

-- only the key of a label counts
pub key_instead : (f : ℕ) (t s : List ℕ) (g : ℕ) (r : List ℕ) → label_key t ≡ label_key s → key_before f t g r ≡ key_before f s g r
unfolding key_before
key_instead f t s g r e = rw e

pub entry_asym : (e x : Entry) → entry_before e x ≡ true → entry_before x e ≡ false
unfolding entry_before
entry_asym e x p =
    test_false (entry_before x e)
    (λ q. not_both (entry_before e e) (entry_trans e x e p q) (key_not_self (folder_key e.inside) e.label))

-- ---- in order

-- none that stands behind another comes before it
abbrev pub Sorted : List Entry → Type 0
Sorted [] = Unit {0}
Sorted (e ∷ l) = ((x : Entry) → Has x l → entry_before x e ≡ false) × Sorted l

pub has_placed : (e : Entry) (l : List Entry) (x : Entry) → Has x (placed e l) → (x ≡ e) ⊎ Has x l
unfolding placed
has_placed e [] x (inl q) = inl q
has_placed e [] x (inr i) = absurd i
has_placed e (y ∷ l) x i =
    ⊎_elim
    (λ (c : entry_before y e ≡ true). ⊎_elim (λ q. inr (inl q)) (λ j. ⊎_elim (λ q. inl q) (λ k. inr (inr k)) (has_placed e l x j)) (rw c at i))
    (λ (c : entry_before y e ≡ false). ⊎_elim (λ q. inl q) (λ j. inr j) (rw c at i))
    (bool_cases (entry_before y e))

pub placed_has : (e : Entry) (l : List Entry) (x : Entry) → (x ≡ e) ⊎ Has x l → Has x (placed e l)
unfolding placed
placed_has e [] x i = i
placed_has e (y ∷ l) x i =
    ⊎_elim
    (λ (c : entry_before y e ≡ true). rw c (⊎_elim (λ q. inr (placed_has e l x (inl q))) (⊎_elim (λ q. inl q) (λ j. inr (placed_has e l x (inr j)))) i))
    (λ (c : entry_before y e ≡ false). rw c i)
    (bool_cases (entry_before y e))

pub same_keys : (f : ℕ) (t : List ℕ) (g : ℕ) (s : List ℕ) (h : ℕ) (r : List ℕ) → g ≡ h → label_key s ≡ label_key r → key_before f t g s ≡ true → key_before f t h r ≡ true
unfolding key_before
same_keys f t g s h r p q e =
    less_if f h (comes_before (label_key t) (label_key r))
    (⊎_elim
    (λ (u : f < g). inl (omega arith))
    (λ u. inr (u.0 ∙ p, ap (comes_before (label_key t)) (sym q) ∙ u.1))
    (less f g (comes_before (label_key t) (label_key s)) e))

-- if y does not come before e, and x not before y, then x does not come before e
pub behind : (e y x : Entry) → entry_before y e ≡ false → entry_before x y ≡ false → entry_before x e ≡ false
unfolding entry_before
behind e y x p q =
    ⊎_elim
    (λ (c : entry_before e y ≡ true).
    test_false (entry_before x e) (λ r. not_both (entry_before x y) (entry_trans x e y r c) q))
    (λ (c : entry_before e y ≡ false).
    let (a, b) = key_same (folder_key y.inside) y.label (folder_key e.inside) e.label p c in
    test_false (entry_before x e) (λ r. not_both (entry_before x y) (moved a b r) q))
    (bool_cases (entry_before e y))
  where
    moved : folder_key y.inside ≡ folder_key e.inside → label_key y.label ≡ label_key e.label
        → key_before (folder_key x.inside) x.label (folder_key e.inside) e.label ≡ true
        → key_before (folder_key x.inside) x.label (folder_key y.inside) y.label ≡ true
    moved a b r = same_keys (folder_key x.inside) x.label (folder_key e.inside) e.label (folder_key y.inside) y.label (sym a) (sym b) r

pub placed_sorted : (e : Entry) (l : List Entry) → Sorted l → Sorted (placed e l)
unfolding placed
placed_sorted e [] s = (λ x i. absurd i, tt)
placed_sorted e (y ∷ l) s =
    ⊎_elim
    (λ (c : entry_before y e ≡ true).
    rw c (
      λ x i. ⊎_elim (λ (q : x ≡ e). rw q (entry_asym y e c)) (λ j. s.0 x j) (has_placed e l x i),
      placed_sorted e l s.1,
    ))
    (λ (c : entry_before y e ≡ false).
    rw c (
      λ x i. ⊎_elim (λ (q : x ≡ y). rw q c) (λ j. behind e y x c (s.0 x j)) i,
      s,
    ))
    (bool_cases (entry_before y e))

pub ordered_sorted : (l : List Entry) → Sorted (ordered l)
unfolding ordered
ordered_sorted [] = tt
ordered_sorted (e ∷ l) = placed_sorted e (ordered l) (ordered_sorted l)

pub ordered_has : (l : List Entry) (x : Entry) → Has x l → Has x (ordered l)
unfolding ordered
ordered_has [] x i = i
ordered_has (e ∷ l) x (inl q) = placed_has e (ordered l) x (inl q)
ordered_has (e ∷ l) x (inr i) = placed_has e (ordered l) x (inr (ordered_has l x i))

pub has_ordered : (l : List Entry) (x : Entry) → Has x (ordered l) → Has x l
unfolding ordered
has_ordered [] x i = i
has_ordered (e ∷ l) x i = ⊎_elim (λ q. inl q) (λ j. inr (has_ordered l x j)) (has_placed e (ordered l) x i)

-- ---- halving

-- so many rows are halved in n steps
abbrev pub room : ℕ → ℕ
room zero = 0
room (suc n) = 2 * room n + 1

-- what halving finds: all rows before it come before the key, and it does not
pub record Sought (p : ℕ → Bool) (lo hi r : ℕ) : Type 0 where
  pub from : lo ≤ r
  pub to : r ≤ hi
  pub before : (i : ℕ) → lo ≤ i → i < r → p i ≡ true
  pub at : r < hi → p r ≡ false

module _ (p : ℕ → Bool) where
  pub sought : (n lo hi : ℕ) → ((i j : ℕ) → lo ≤ i → i ≤ j → j < hi → p j ≡ true → p i ≡ true) → lo ≤ hi → hi - lo ≤ room n
      → Sought p lo hi (halve p n lo hi)
  unfolding halve
  sought zero lo hi m k s = record { from = omega arith; to = omega arith; before = λ i x y. absurd (omega arith); at = λ x. absurd (omega arith) }
  sought (suc n) lo hi m k s =
      ⊎_elim
      (λ (h : lo < hi).
      let mid = lo + (hi - lo) / 2 in
      let mid-hi : mid < hi = omega arith in
      let mid-lo : lo ≤ mid = omega arith in
      rw (lt-ltb lo hi h)
      (⊎_elim
      (λ (c : p mid ≡ true).
      let w = sought n (mid + 1) hi (λ i j x y z. m i j (omega arith) y z) (omega arith) (omega arith) in
      rw c
      (record {
        from = omega (arith, w.from);
        to = w.to;
        before = λ i x y. ⊎_elim (λ (z : i < mid + 1). m i mid x (omega arith) mid-hi c) (λ (z : mid + 1 ≤ i). w.before i z y) (lt_or_ge i (mid + 1));
        at = w.at;
      }))
      (λ (c : p mid ≡ false).
      let w = sought n lo mid (λ i j x y z. m i j x y (omega arith)) mid-lo (omega arith) in
      rw c
      (record {
        from = w.from;
        to = omega (arith, w.to);
        before = w.before;
        at = λ _. ⊎_elim (λ (z : halve p n lo mid < mid). w.at z) (λ (z : mid ≤ halve p n lo mid). let q : halve p n lo mid ≡ mid = omega (arith, w.to) in rw q c) (lt_or_ge (halve p n lo mid) mid);
      }))
      (bool_cases (p mid))))
      (λ (h : hi ≤ lo). rw (le-ltb lo hi h) (record { from = omega arith; to = k; before = λ i x y. absurd (omega arith); at = λ x. absurd (omega arith) }))
      (lt_or_ge lo hi)
