-- Exactly which entries become disputed, and in which order they are listed.
-- Assumes nothing.
use Prim.Native.Nat.{ℕ}
use mathlib.Core.Path.{◌≡◌, refl, sym, ap, ◌∙◌}
use mathlib.Core.Logic.{◌⊎◌, inl, inr, ⊎_elim, ◌↔◌}
use mathlib.Core.Bool.{Bool, true, false, cond, not, ◌&&◌, true≢false}
use mathlib.Core.List.{List, [], ◌∷◌}
use lib.Dec.{eqb}
use borrow.Author.Tests.{eqb-true, eq-eqb, not-true}
use Rattle.model.specs.Replay.{Entry, Tree, is_present, entry_of, is_disputed, present_ones}
use Rattle.row_model.specs.Row.{is_there, has_disputed, newly_disputed, became_disputed}
use Rattle.byte_slice.proofs.Numbers.{bool_cases, and_true}
use Rattle.row_laws.specs.Disputes.{HasEntry, DisputedIn, BecameDisputed, InOrder, ends, passes, keeps}

-- ---- an entry that is there

later : (x : Entry) (l : List Entry) (e : Entry) → HasEntry e (present_ones l) → HasEntry e (present_ones (x ∷ l))
unfolding present_ones
later x l e i = go (is_present x)
  where
    go : (b : Bool) → HasEntry e (cond b (x ∷ present_ones l) (present_ones l))
    go true = inr i
    go false = i

-- of a list of entries, an entry k is there if and only if a present one has this identity
there_has : (k : ℕ) (l : List Entry) → is_there (entry_of k l) ≡ true → (e : Entry) × HasEntry e (present_ones l) × (e.made ≡ k)
unfolding is_there entry_of present_ones
there_has k [] h = absurd (true≢false (sym h))
there_has k (x ∷ l) h =
    ⊎_elim
    (λ (a : (eqb x.made k && is_present x) ≡ true).
    let (p, q) = and_true (eqb x.made k) (is_present x) a in
    (x, rw q (inl refl), eqb-true x.made k p))
    (λ (a : (eqb x.made k && is_present x) ≡ false).
    let (e, i, m) = there_has k l (rw a at h) in
    (e, later x l e i, m))
    (bool_cases (eqb x.made k && is_present x))

has_there : (k : ℕ) (l : List Entry) (e : Entry) → HasEntry e (present_ones l) → e.made ≡ k → is_there (entry_of k l) ≡ true
unfolding is_there entry_of present_ones
has_there k [] e i m = absurd i
has_there k (x ∷ l) e i m =
    ⊎_elim
    (λ (a : (eqb x.made k && is_present x) ≡ true). rw a)
    (λ (a : (eqb x.made k && is_present x) ≡ false). rw a (has_there k l e (behind a (is_present x) refl (bool_cases (is_present x))) m))
    (bool_cases (eqb x.made k && is_present x))
  where
    behind : (eqb x.made k && is_present x) ≡ false → (b : Bool) → is_present x ≡ b → (is_present x ≡ true) ⊎ (is_present x ≡ false) → HasEntry e (present_ones l)
    behind a b q (inl p) =
        ⊎_elim
        (λ (y : e ≡ x). absurd (true≢false (sym (rw (eq-eqb x.made k (ap (λ (z : Entry). z.made) (sym y) ∙ m), p) at (sym a)))))
        (λ (y : HasEntry e (present_ones l)). y)
        (rw p at i)
    behind a b q (inr p) = rw p at i

-- ---- a disputed entry

pub disputed_has : (k : ℕ) (t : Tree) → has_disputed k t ≡ true → (e : Entry) × DisputedIn t e × (e.made ≡ k)
unfolding has_disputed
disputed_has k t h =
    let (a, b) = and_true (is_there (entry_of k t.entries)) (is_disputed k t.asides) h in
    let (e, i, m) = there_has k t.entries a in
    (e, record { there = i; disputed = rw m b }, m)

pub has_disputed_lem : (k : ℕ) (t : Tree) (e : Entry) → DisputedIn t e → e.made ≡ k → has_disputed k t ≡ true
unfolding has_disputed
has_disputed_lem k t e d m = rw (has_there k t.entries e d.there m, ← m) d.disputed

-- ---- those that become disputed

module _ (t t' : Tree) where
  is_new : Entry → Bool
  is_new e = is_disputed e.made t'.asides && not (has_disputed e.made t)

  listed_has : (l : List Entry) (e : Entry) → HasEntry e (newly_disputed t t' l) → HasEntry e l × (is_new e ≡ true)
  unfolding newly_disputed is_new
  listed_has [] e i = absurd i
  listed_has (x ∷ l) e i =
      ⊎_elim
      (λ (a : is_new x ≡ true).
      ⊎_elim
      (λ (y : e ≡ x). (inl y, ap is_new y ∙ a))
      (λ (y : HasEntry e (newly_disputed t t' l)). let (p, q) = listed_has l e y in (inr p, q))
      (rw a at i))
      (λ (a : is_new x ≡ false). let (p, q) = listed_has l e (rw a at i) in (inr p, q))
      (bool_cases (is_new x))

  has_listed : (l : List Entry) (e : Entry) → HasEntry e l → is_new e ≡ true → HasEntry e (newly_disputed t t' l)
  unfolding newly_disputed is_new
  has_listed [] e i h = absurd i
  has_listed (x ∷ l) e i h =
      ⊎_elim
      (λ (y : e ≡ x). let a : is_new x ≡ true = ap is_new (sym y) ∙ h in rw a (inl y))
      (λ (y : HasEntry e l).
      ⊎_elim
      (λ (a : is_new x ≡ true). rw a (inr (has_listed l e y h)))
      (λ (a : is_new x ≡ false). rw a (has_listed l e y h))
      (bool_cases (is_new x)))
      i

  -- the entries listed are exactly those that become disputed
  pub newly_exactly : (e : Entry) → HasEntry e (became_disputed t t') ↔ BecameDisputed t t' e
  unfolding became_disputed is_new
  newly_exactly e = (
    λ i.
        let (p, q) = listed_has (present_ones t'.entries) e i in
        let (a, b) = and_true (is_disputed e.made t'.asides) (not (has_disputed e.made t)) q in
        record { then = record { there = p; disputed = a }; before = λ x d m. true≢false (sym (has_disputed_lem e.made t x d m) ∙ not-true (has_disputed e.made t) b) },
    λ d.
        has_listed (present_ones t'.entries) e d.then.there (rw (d.then.disputed, none_before d.before) refl),
  )
    where
      none_before : ((x : Entry) → DisputedIn t x → x.made ≡ e.made → ⊥) → has_disputed e.made t ≡ false
      none_before h =
          ⊎_elim
          (λ (a : has_disputed e.made t ≡ true). let (x, d, m) = disputed_has e.made t a in absurd (h x d m))
          (λ (a : has_disputed e.made t ≡ false). a)
          (bool_cases (has_disputed e.made t))

  newly_in_order : (l : List Entry) → InOrder (newly_disputed t t' l) l
  unfolding newly_disputed
  newly_in_order [] = ends
  newly_in_order (x ∷ l) = go (is_disputed x.made t'.asides && not (has_disputed x.made t)) (newly_in_order l)
    where
      go : (b : Bool) → InOrder (newly_disputed t t' l) l → InOrder (cond b (x ∷ newly_disputed t t' l) (newly_disputed t t' l)) (x ∷ l)
      go true h = keeps x (newly_disputed t t' l) l h
      go false h = passes x (newly_disputed t t' l) l h

  -- and they stand in the order of the tree: by rank of their makers
  pub newly_ordered : InOrder (became_disputed t t') (present_ones t'.entries)
  unfolding became_disputed
  newly_ordered = newly_in_order (present_ones t'.entries)
