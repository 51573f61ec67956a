-- Entries of different keys have one order, whatever order they come in.
-- Assumes nothing.
use Prim.Native.Nat.{ℕ, zero, suc, ◌+◌, ◌≤◌, ◌<◌}
use native.Mathlib.Omega.{arith}
use mathlib.Core.Path.{◌≡◌, refl, sym, ap, ◌∙◌}
use mathlib.Core.Logic.{◌⊎◌, inl, inr, ⊎_elim}
use mathlib.Core.Bool.{Bool, true, false, cond}
use mathlib.Core.List.{List, [], ◌∷◌, ◌++◌}
use lib.ListN.{get_or, length, take, drop}
use Rattle.byte_slice.proofs.Numbers.{bool_cases, not_both, test_true}
use Rattle.model.specs.Replay.{Entry, label_key}
use Rattle.tree_laws.specs.Replayed.{Has}
use Rattle.index_model.specs.Index.{folder_key, key_before, entry_before, placed, ordered}
use Rattle.index_laws.proofs.Sorted.{Sorted, key_same, entry_trans, entry_asym, has_placed, placed_has, ordered_has, has_ordered}
use Rattle.index_laws.proofs.Reading.{entry_keys, entry_not_self, has_at}

-- two entries of one key
abbrev pub SameKey : Entry → Entry → Type 0
SameKey e x = (folder_key e.inside ≡ folder_key x.inside) × (label_key e.label ≡ label_key x.label)

abbrev pub KeysApart : List Entry → Type 0
KeysApart [] = Unit {0}
KeysApart (e ∷ l) = ((x : Entry) → Has x l → SameKey e x → ⊥) × KeysApart l

-- each comes before all behind it
abbrev pub Strict : List Entry → Type 0
Strict [] = Unit {0}
Strict (e ∷ l) = ((x : Entry) → Has x l → entry_before e x ≡ true) × Strict l

before_it : (e x : Entry) → entry_before x e ≡ false → (SameKey e x → ⊥) → entry_before e x ≡ true
before_it e x p n =
    test_true (entry_before e x)
    (λ q. n (key_same (folder_key e.inside) e.label (folder_key x.inside) x.label (entry_keys e x q) (entry_keys x e p)))

strict_placed : (e : Entry) (l : List Entry) → Strict l → ((x : Entry) → Has x l → SameKey e x → ⊥) → Strict (placed e l)
unfolding placed
strict_placed e [] s n = (λ x i. absurd i, tt)
strict_placed e (y ∷ l) s n =
    ⊎_elim
    (λ (c : entry_before y e ≡ true).
    rw c (
      λ x i. ⊎_elim (λ (q : x ≡ e). rw q c) (λ j. s.0 x j) (has_placed e l x i),
      strict_placed e l s.1 (λ x i. n x (inr i)),
    ))
    (λ (c : entry_before y e ≡ false).
    let b : entry_before e y ≡ true = before_it e y c (n y (inl refl)) in
    rw c (λ x i. ⊎_elim (λ (q : x ≡ y). rw q b) (λ j. entry_trans e y x b (s.0 x j)) i, s))
    (bool_cases (entry_before y e))

pub strict_ordered : (l : List Entry) → KeysApart l → Strict (ordered l)
unfolding ordered
strict_ordered [] a = tt
strict_ordered (e ∷ l) a = strict_placed e (ordered l) (strict_ordered l a.1) (λ x i. a.0 x (has_ordered l x i))

-- lists in strict order with the same members are the same
pub strict_one : (a b : List Entry) → Strict a → Strict b → ((x : Entry) → Has x a → Has x b) → ((x : Entry) → Has x b → Has x a) → a ≡ b
strict_one [] [] s t f g = refl
strict_one [] (y ∷ b) s t f g = absurd (g y (inl refl))
strict_one (x ∷ a) [] s t f g = absurd (f x (inl refl))
strict_one (x ∷ a) (y ∷ b) s t f g =
    let e : x ≡ y =
    ⊎_elim
    (λ q. q)
    (λ (i : Has x b).
    ⊎_elim
    (λ q. sym q)
    (λ (j : Has y a). absurd (not_both (entry_before y x) (t.0 x i) (entry_asym x y (s.0 y j))))
    (g y (inl refl)))
    (f x (inl refl)) in
    let r : a ≡ b =
    strict_one a b s.1 t.1
    (λ z i. ⊎_elim (λ (q : z ≡ y). absurd (not_both (entry_before x z) (s.0 z i) (rw (e, q) (entry_not_self y)))) (λ j. j) (f z (inr i)))
    (λ z i. ⊎_elim (λ (q : z ≡ x). absurd (not_both (entry_before y z) (t.0 z i) (rw (q, e) (entry_not_self y)))) (λ j. j) (g z (inr i))) in
    λ k. e k ∷ r k

-- so the order of entries does not hang on how they stand
pub ordered_one : (a b : List Entry) → KeysApart a → KeysApart b → ((x : Entry) → Has x a → Has x b) → ((x : Entry) → Has x b → Has x a) → ordered a ≡ ordered b
ordered_one a b p q f g =
    strict_one (ordered a) (ordered b) (strict_ordered a p) (strict_ordered b q)
    (λ x i. ordered_has b x (f x (has_ordered a x i)))
    (λ x i. ordered_has a x (g x (has_ordered b x i)))

-- ---- one more

-- entries that are those of l and e
pub ordered_more : (l m : List Entry) (e : Entry) → KeysApart l → KeysApart m → ((x : Entry) → Has x l → SameKey e x → ⊥)
    → ((x : Entry) → Has x m → (x ≡ e) ⊎ Has x l) → ((x : Entry) → (x ≡ e) ⊎ Has x l → Has x m)
    → ordered m ≡ placed e (ordered l)
unfolding ordered
ordered_more l m e p q n f g = ordered_one m (e ∷ l) q (n, p) f g

-- ---- one less

unfoldable pub without : ℕ → List Entry → List Entry
without i [] = []
without zero (e ∷ l) = l
without (suc i) (e ∷ l) = e ∷ without i l

pub has_without : (i : ℕ) (l : List Entry) (x : Entry) → Has x (without i l) → Has x l
unfolding without
has_without i [] x h = absurd h
has_without zero (e ∷ l) x h = inr h
has_without (suc i) (e ∷ l) x (inl q) = inl q
has_without (suc i) (e ∷ l) x (inr h) = inr (has_without i l x h)

strict_without : (i : ℕ) (l : List Entry) → Strict l → Strict (without i l)
unfolding without
strict_without i [] s = tt
strict_without zero (e ∷ l) s = s.1
strict_without (suc i) (e ∷ l) s = (λ x h. s.0 x (has_without i l x h), strict_without i l s.1)

-- the one that went is no longer there
without_gone : (i : ℕ) (l : List Entry) (x d : Entry) → Strict l → i < length l → Has x (without i l) → x ≡ get_or l i d → ⊥
unfolding without
without_gone i [] x d s n h q = absurd h
without_gone zero (e ∷ l) x d s n h q = not_both (entry_before e x) (s.0 x h) (rw q (entry_not_self e))
without_gone (suc i) (e ∷ l) x d s n (inl p) q =
    not_both (entry_before e x) (s.0 x (rw q (has_at l i d (omega arith)))) (rw p (entry_not_self e))
without_gone (suc i) (e ∷ l) x d s n (inr h) q = without_gone i l x d s.1 (omega arith) h q

without_has : (i : ℕ) (l : List Entry) (x d : Entry) → Has x l → (x ≡ get_or l i d → ⊥) → Has x (without i l)
unfolding without
without_has i [] x d h n = absurd h
without_has zero (e ∷ l) x d (inl q) n = absurd (n q)
without_has zero (e ∷ l) x d (inr h) n = h
without_has (suc i) (e ∷ l) x d (inl q) n = inl q
without_has (suc i) (e ∷ l) x d (inr h) n = inr (without_has i l x d h n)

-- entries that are those of l but one
pub ordered_less : (l m : List Entry) (i : ℕ) (d : Entry) → i < length (ordered l) → KeysApart l → KeysApart m
    → ((x : Entry) → Has x m → Has x l × (x ≡ get_or (ordered l) i d → ⊥)) → ((x : Entry) → Has x l → (x ≡ get_or (ordered l) i d → ⊥) → Has x m)
    → ordered m ≡ without i (ordered l)
ordered_less l m i d h p q f g =
    let s = strict_ordered l p in
    strict_one (ordered m) (without i (ordered l)) (strict_ordered m q) (strict_without i (ordered l) s)
    (λ x j. let (u, v) = f x (has_ordered m x j) in without_has i (ordered l) x d (ordered_has l x u) v)
    (λ x j. ordered_has m x (g x (has_ordered l x (has_without i (ordered l) x j)) (without_gone i (ordered l) x d s h j)))
