-- The identities of entries and asides are those of the records, and none stands twice: kept by every new record, from any tree on.
-- Assumes nothing.
use Prim.Native.Nat.{ℕ}
use mathlib.Core.Path.{◌≡◌, refl, sym, ap, ◌∙◌, subst}
use mathlib.Core.Logic.{◌⊎◌, inl, inr, ⊎_elim}
use mathlib.Core.List.{List, [], ◌∷◌, ◌++◌, append-nil}
use lib.Dec.{leb}
use Rattle.model.specs.Record.{Rec, op, self_of}
use Rattle.model.specs.Replay.{Aside, Tree, Verdict, fits, aside, judge, step, empty_tree, replay_from, replay}
use Rattle.tree_laws.specs.Replayed.{Has, Distinct, selves, makers, whos, Standing, standings, standing, making}
use Rattle.tree_laws.specs.Trees.{Lone}
use Rattle.tree_laws.proofs.Steps.{standings-step, makers-step, cond_elim}

-- ---- one number more

pub has_more : (l : List ℕ) (k x : ℕ) → Has x (l ++ (k ∷ [])) → Has x l ⊎ (x ≡ k)
has_more [] k x (inl q) = inr q
has_more [] k x (inr i) = absurd i
has_more (y ∷ l) k x (inl q) = inl (inl q)
has_more (y ∷ l) k x (inr i) = ⊎_elim (λ j. inl (inr j)) (λ q. inr q) (has_more l k x i)

pub distinct_more : (l : List ℕ) (k : ℕ) → Distinct l → (Has k l → ⊥) → Distinct (l ++ (k ∷ []))
distinct_more [] k d h = (λ i. i, tt)
distinct_more (y ∷ l) k d h = (
  λ i. ⊎_elim (λ j. d.0 j) (λ (q : y ≡ k). h (inl (sym q))) (has_more l k y i),
  distinct_more l k d.1 (λ i. h (inr i)),
)

-- ---- the asides' identities

names : List Standing → List ℕ
names [] = []
names (s ∷ l) = s.0 ∷ names l

names-append : (l m : List Standing) → names (l ++ m) ≡ names l ++ names m
unfolding names
names-append [] m = refl
names-append (s ∷ l) m = ap (λ (x : List ℕ). s.0 ∷ x) (names-append l m)

whos-names : (l : List Aside) → whos l ≡ names (standings l)
unfolding whos names standings
whos-names [] = refl
whos-names (a ∷ l) = ap (λ (x : List ℕ). a.who ∷ x) (whos-names l)

whos-step : (t : Tree) (r : Rec) → whos (step t r).asides ≡ whos t.asides ++ names (standing (judge r t) r)
whos-step t r =
    whos-names (step t r).asides
    ∙ ap names (standings-step t r)
    ∙ names-append (standings t.asides) (standing (judge r t) r)
    ∙ ap (λ (x : List ℕ). x ++ names (standing (judge r t) r)) (sym (whos-names t.asides))

-- ---- one record

-- of the entries' identities ms and the asides' ws at most one gets k
abbrev Grows : ℕ → List ℕ → List ℕ → List ℕ → List ℕ → Type 0
Grows k ms ws ns vs =
    ((ns ≡ ms) × (vs ≡ ws)) ⊎ (((ns ≡ ms ++ (k ∷ [])) × (vs ≡ ws)) ⊎ ((ns ≡ ms) × (vs ≡ ws ++ (k ∷ []))))

-- a record makes one entry at most, or stands aside once
step_grows : (t : Tree) (r : Rec) → Grows (self_of r) (makers t.entries) (whos t.asides) (makers (step t r).entries) (whos (step t r).asides)
unfolding making standing names
step_grows t r = rw (makers-step t r, whos-step t r) (go (judge r t))
  where
    ms : List ℕ
    ms = makers t.entries

    ws : List ℕ
    ws = whos t.asides

    go : (v : Verdict) → Grows (self_of r) ms ws (ms ++ making v r) (ws ++ names (standing v r))
    go fits =
        cond_elim (λ (x : List ℕ). Grows (self_of r) ms ws (ms ++ x) (ws ++ [])) (leb (op r) 2) (self_of r ∷ []) []
        (λ _. inr (inl (refl, append-nil ws)))
        (λ _. inl (append-nil ms, append-nil ws))
    go (aside n k) = inr (inr (append-nil ms, refl))

pub names-step : (t : Tree) (r : Rec) (k : ℕ) → Has k (makers (step t r).entries) → Has k (makers t.entries) ⊎ (k ≡ self_of r)
names-step t r k i =
    ⊎_elim
    (λ g. inl (subst (Has k) g.0 i))
    (⊎_elim (λ g. has_more (makers t.entries) (self_of r) k (subst (Has k) g.0 i)) (λ g. inl (subst (Has k) g.0 i)))
    (step_grows t r)

pub asides_step : (t : Tree) (r : Rec) (k : ℕ) → Has k (whos (step t r).asides) → Has k (whos t.asides) ⊎ (k ≡ self_of r)
asides_step t r k i =
    ⊎_elim
    (λ g. inl (subst (Has k) g.1 i))
    (⊎_elim (λ g. inl (subst (Has k) g.1 i)) (λ g. has_more (whos t.asides) (self_of r) k (subst (Has k) g.1 i)))
    (step_grows t r)

-- a new record keeps identities lone
pub lone_step : (t : Tree) (r : Rec) → (Has (self_of r) (makers t.entries) → ⊥) → (Has (self_of r) (whos t.asides) → ⊥)
    → Lone (makers t.entries) (whos t.asides) → Lone (makers (step t r).entries) (whos (step t r).asides)
lone_step t r p q o =
    ⊎_elim
    (λ g. rw (g.0, g.1) o)
    (⊎_elim
    (λ g. rw (g.0, g.1) (record {
      entries_once = distinct_more ms k o.entries_once p;
      asides_once = o.asides_once;
      not_both = λ x i j. ⊎_elim (λ y. o.not_both x i y) (λ y. q (subst (λ (z : ℕ). Has z ws) y i)) (has_more ms k x j);
    }))
    (λ g. rw (g.0, g.1) (record {
      entries_once = o.entries_once;
      asides_once = distinct_more ws k o.asides_once q;
      not_both = λ x i j. ⊎_elim (λ y. o.not_both x y j) (λ y. p (subst (λ (z : ℕ). Has z ms) y j)) (has_more ws k x i);
    })))
    (step_grows t r)
  where
    k : ℕ
    k = self_of r

    ms : List ℕ
    ms = makers t.entries

    ws : List ℕ
    ws = whos t.asides

-- ---- a list of records

pub names-replay : (t : Tree) (l : List Rec) (k : ℕ) → Has k (makers (replay_from t l).entries) → Has k (makers t.entries) ⊎ Has k (selves l)
unfolding replay_from selves
names-replay t [] k i = inl i
names-replay t (r ∷ l) k i = ⊎_elim (λ j. ⊎_elim (λ q. inl q) (λ q. inr (inl q)) (names-step t r k j)) (λ j. inr (inr j)) (names-replay (step t r) l k i)

pub asides_replay : (t : Tree) (l : List Rec) (k : ℕ) → Has k (whos (replay_from t l).asides) → Has k (whos t.asides) ⊎ Has k (selves l)
unfolding replay_from selves
asides_replay t [] k i = inl i
asides_replay t (r ∷ l) k i = ⊎_elim (λ j. ⊎_elim (λ q. inl q) (λ q. inr (inl q)) (asides_step t r k j)) (λ j. inr (inr j)) (asides_replay (step t r) l k i)

pub lone_replay : (t : Tree) (l : List Rec) → Distinct (selves l)
    → ((k : ℕ) → Has k (makers t.entries) → Has k (selves l) → ⊥) → ((k : ℕ) → Has k (whos t.asides) → Has k (selves l) → ⊥)
    → Lone (makers t.entries) (whos t.asides) → Lone (makers (replay_from t l).entries) (whos (replay_from t l).asides)
unfolding replay_from selves
lone_replay t [] d p q o = o
lone_replay t (r ∷ l) d p q o =
    let new : (k : ℕ) → k ≡ self_of r → Has k (selves l) → ⊥ = λ k z j. d.0 (subst (λ (x : ℕ). Has x (selves l)) z j) in
    lone_replay (step t r) l d.1
    (λ k i j. ⊎_elim (λ y. p k y (inr j)) (λ z. new k z j) (names-step t r k i))
    (λ k i j. ⊎_elim (λ y. q k y (inr j)) (λ z. new k z j) (asides_step t r k i))
    (lone_step t r (λ i. p (self_of r) i (inl refl)) (λ i. q (self_of r) i (inl refl)) o)

-- ---- from the empty tree on

pub asides_of : (l : List Rec) (k : ℕ) → Has k (whos (replay l).asides) → Has k (selves l)
unfolding replay empty_tree whos
asides_of l k h = ⊎_elim (λ i. absurd i) (λ i. i) (asides_replay empty_tree l k h)

pub makers_of_lem : (l : List Rec) (k : ℕ) → Has k (makers (replay l).entries) → Has k (selves l)
unfolding replay empty_tree makers
makers_of_lem l k h = ⊎_elim (λ i. absurd i) (λ i. i) (names-replay empty_tree l k h)

pub lone_of : (l : List Rec) → Distinct (selves l) → Lone (makers (replay l).entries) (whos (replay l).asides)
unfolding replay empty_tree makers whos
lone_of l d = lone_replay empty_tree l d (λ k i. absurd i) (λ k i. absurd i) (record { entries_once = tt; asides_once = tt; not_both = λ k i. absurd i })

pub asides_distinct : (l : List Rec) → Distinct (selves l) → Distinct (whos (replay l).asides)
asides_distinct l d = (lone_of l d).asides_once

pub makers-distinct : (l : List Rec) → Distinct (selves l) → Distinct (makers (replay l).entries)
makers-distinct l d = (lone_of l d).entries_once

pub asides_no_makers : (l : List Rec) → Distinct (selves l) → (k : ℕ) → Has k (whos (replay l).asides) → Has k (makers (replay l).entries) → ⊥
asides_no_makers l d = (lone_of l d).not_both
