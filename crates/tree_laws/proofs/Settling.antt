-- Open, settled and disputed.
-- Assumes nothing.
use Prim.Native.Nat.{ℕ}
use mathlib.Core.Path.{◌≡◌, refl, sym, ap, ◌∙◌, subst}
use mathlib.Core.Bool.{Bool, true, false, cond, not, ◌&&◌, ◌||◌, false≢true}
use mathlib.Core.Logic.{inl, inr, ⊎_elim, ◌↔◌}
use mathlib.Core.List.{List, [], ◌∷◌, ◌++◌}
use native.Mathlib.Omega.{arith}
use lib.Dec.{eqb}
use borrow.Author.Tests.{eqb-true, eqb-false, eq-eqb, ne_eqb}
use Rattle.byte_slice.proofs.Numbers.{bool_cases, and_true, true_and, and_right, and_wrong, test_false}
use Rattle.model.specs.Record.{Rec, op, self_of, object_of}
use Rattle.model.specs.Replay.{Aside, Tree, fits, aside, judge, judge_settle, stands_aside, settled, step, empty_tree, replay_from, replay, is_disputed}
use Rattle.tree_laws.specs.Replayed.{Has, Distinct, selves, whos, is_fit, is_settle, open_of, settles, settled_in}
use Rattle.tree_laws.proofs.Verdicts.{judge_settle_lem}
use Rattle.tree_laws.proofs.Steps.{cond_elim, effect_elim, step_elim, step_fits, step-aside, effect_settle}
use Rattle.tree_laws.proofs.Identities.{asides_of}

or_true : (b : Bool) → (b || true) ≡ true
or_true true = refl
or_true false = refl

-- ---- the asides as a list

stands_front : (k : ℕ) (l m : List Aside) → stands_aside k l ≡ true → stands_aside k (l ++ m) ≡ true
unfolding stands_aside
stands_front k [] m h = absurd (false≢true h)
stands_front k (a ∷ l) m h = go (eqb a.who k) h (λ e. stands_front k l m e)
  where
    go : (b : Bool) → (b || stands_aside k l) ≡ true → (stands_aside k l ≡ true → stands_aside k (l ++ m) ≡ true) → (b || stands_aside k (l ++ m)) ≡ true
    go true e f = refl
    go false e f = f e

stands_last : (k : ℕ) (l : List Aside) (a : Aside) → a.who ≡ k → stands_aside k (l ++ (a ∷ [])) ≡ true
unfolding stands_aside
stands_last k [] a e = rw (eq-eqb a.who k e)
stands_last k (b ∷ l) a e = rw (stands_last k l a e) (or_true (eqb b.who k))

stands_settled : (k j : ℕ) (l : List Aside) → stands_aside k (settled j l) ≡ stands_aside k l
unfolding stands_aside settled
stands_settled k j [] = refl
stands_settled k j (a ∷ l) =
    cond_elim (λ (x : List Aside). stands_aside k x ≡ (eqb a.who k || stands_aside k l)) (eqb a.who j)
    (record { who = a.who; reason = a.reason; marked = a.marked; is_open = false } ∷ l) (a ∷ settled j l)
    (λ _. refl)
    (λ _. ap (λ (b : Bool). eqb a.who k || b) (stands_settled k j l))

stands_has : (k : ℕ) (l : List Aside) → stands_aside k l ≡ true → Has k (whos l)
unfolding stands_aside whos
stands_has k [] h = absurd (false≢true h)
stands_has k (a ∷ l) h =
    ⊎_elim
    (λ (c : eqb a.who k ≡ true). inl (sym (eqb-true a.who k c)))
    (λ (c : eqb a.who k ≡ false). inr (stands_has k l (rw c at h)))
    (bool_cases (eqb a.who k))

open_front : (k : ℕ) (l m : List Aside) → stands_aside k l ≡ true → open_of k (l ++ m) ≡ open_of k l
unfolding stands_aside open_of
open_front k [] m h = absurd (false≢true h)
open_front k (a ∷ l) m h =
    ⊎_elim
    (λ (c : eqb a.who k ≡ true). rw c)
    (λ (c : eqb a.who k ≡ false). rw c (open_front k l m (rw c at h)))
    (bool_cases (eqb a.who k))

open_last : (k : ℕ) (l : List Aside) (a : Aside) → stands_aside k l ≡ false → a.who ≡ k → open_of k (l ++ (a ∷ [])) ≡ a.is_open
unfolding stands_aside open_of
open_last k [] a h e = rw (eq-eqb a.who k e)
open_last k (b ∷ l) a h e =
    ⊎_elim
    (λ (c : eqb b.who k ≡ true). absurd (let z : true ≡ false = rw c at h in false≢true (sym z)))
    (λ (c : eqb b.who k ≡ false). rw c (open_last k l a (rw c at h) e))
    (bool_cases (eqb b.who k))

pub open_settled : (k : ℕ) (l : List Aside) → open_of k (settled k l) ≡ false
unfolding open_of settled
open_settled k [] = refl
open_settled k (a ∷ l) =
    ⊎_elim
    (λ (c : eqb a.who k ≡ true). rw (c, c))
    (λ (c : eqb a.who k ≡ false). rw (c, c) (open_settled k l))
    (bool_cases (eqb a.who k))

open_others : (k j : ℕ) (l : List Aside) → (j ≡ k → ⊥) → open_of k (settled j l) ≡ open_of k l
unfolding open_of settled
open_others k j [] n = refl
open_others k j (a ∷ l) n =
    cond_elim (λ (x : List Aside). open_of k x ≡ cond (eqb a.who k) a.is_open (open_of k l)) (eqb a.who j)
    (record { who = a.who; reason = a.reason; marked = a.marked; is_open = false } ∷ l) (a ∷ settled j l)
    (λ e.
    let f : eqb a.who k ≡ false = ne_eqb a.who k (λ q. n (sym (eqb-true a.who j e) ∙ q)) in
    rw f)
    (λ e. ap (cond (eqb a.who k) a.is_open) (open_others k j l n))

-- ---- one record

pub stands_step : (k : ℕ) (t : Tree) (r : Rec) → stands_aside k t.asides ≡ true → stands_aside k (step t r).asides ≡ true
stands_step k t r h =
    let P : Tree → Type 0 = λ (x : Tree). stands_aside k x.asides ≡ true in
    step_elim P t r
    (λ _. effect_elim P r t (λ _. h) (λ _. h) (λ _. h) (λ _. h) (λ _. stands_settled k (object_of r) t.asides ∙ h) (λ _. h))
    (λ n m _. stands_front k t.asides (record { who = self_of r; reason = n; marked = m; is_open = true } ∷ []) h)

-- an aside is closed by a settle that names it and fits, and by nothing else
pub open_step : (k : ℕ) (t : Tree) (r : Rec) → stands_aside k t.asides ≡ true → open_of k (step t r).asides ≡ (open_of k t.asides && not (settles k t r))
unfolding settles is_settle is_fit
open_step k t r h =
    let l : List Aside = t.asides in
    let P : Tree → Type 0 = λ (x : Tree). open_of k x.asides ≡ (open_of k l && not (eqb (op r) 6 && (eqb (object_of r) k && is_fit (judge r t)))) in
    let other : (op r ≡ 6 → ⊥) → open_of k l ≡ (open_of k l && not (eqb (op r) 6 && (eqb (object_of r) k && is_fit (judge r t)))) =
    λ o. rw (ne_eqb (op r) 6 o) (sym (and_right (open_of k l))) in
    step_elim P t r
    (λ f. effect_elim P r t
    (λ o. other (λ z. omega arith))
    (λ o. other (λ z. omega arith))
    (λ o. other (λ z. omega arith))
    (λ o. other (λ z. omega arith))
    (λ o.
    rw (eq-eqb (op r) 6 o, f)
    (⊎_elim
    (λ (c : eqb (object_of r) k ≡ true). rw (c, eqb-true (object_of r) k c) (open_settled k l ∙ sym (and_wrong (open_of k l))))
    (λ (c : eqb (object_of r) k ≡ false). rw c (open_others k (object_of r) l (eqb-false (object_of r) k c) ∙ sym (and_right (open_of k l))))
    (bool_cases (eqb (object_of r) k))))
    (λ o. other (λ z. omega arith)))
    (λ n m f.
    rw (f, and_wrong, and_wrong)
    (open_front k l (record { who = self_of r; reason = n; marked = m; is_open = true } ∷ []) h ∙ sym (and_right (open_of k l))))

-- ---- a list of records

either : (a b c : Bool) → ((a && not b) && not c) ≡ (a && not (b || c))
either true true c = refl
either true false c = refl
either false b c = refl

pub open_replay : (k : ℕ) (t : Tree) (l : List Rec) → stands_aside k t.asides ≡ true
    → open_of k (replay_from t l).asides ≡ (open_of k t.asides && not (settled_in k t l))
unfolding replay_from settled_in
open_replay k t [] h = sym (and_right (open_of k t.asides))
open_replay k t (r ∷ l) h =
    open_replay k (step t r) l (stands_step k t r h)
    ∙ ap (λ (b : Bool). b && not (settled_in k (step t r) l)) (open_step k t r h)
    ∙ either (open_of k t.asides) (settles k t r) (settled_in k (step t r) l)

pub replay-append : (t : Tree) (l m : List Rec) → replay_from t (l ++ m) ≡ replay_from (replay_from t l) m
unfolding replay_from
replay-append t [] m = refl
replay-append t (r ∷ l) m = replay-append (step t r) l m

distinct_front : (l : List Rec) (r : Rec) (m : List Rec) → Distinct (selves (l ++ (r ∷ m))) → Has (self_of r) (selves l) → ⊥
unfolding selves
distinct_front [] r m d h = h
distinct_front (x ∷ l) r m d (inl e) = d.0 (subst (λ (k : ℕ). Has k (selves (l ++ (r ∷ m)))) e (here l r m))
  where
    here : (l : List Rec) (r : Rec) (m : List Rec) → Has (self_of r) (selves (l ++ (r ∷ m)))
    here [] r m = inl refl
    here (y ∷ l) r m = inr (here l r m)
distinct_front (x ∷ l) r m d (inr h) = distinct_front l r m d.1 h

-- a record that stands aside is open from there on, exactly until a settle naming it fits
pub open_until_settled : (before : List Rec) (r : Rec) (after : List Rec) (n k : ℕ)
    → Distinct (selves (before ++ (r ∷ after)))
    → judge r (replay before) ≡ aside n k
    → open_of (self_of r) (replay (before ++ (r ∷ after))).asides ≡ not (settled_in (self_of r) (step (replay before) r) after)
unfolding replay replay_from
open_until_settled before r after n k d j =
    let t : Tree = replay_from empty_tree before in
    let a : Aside = record { who = self_of r; reason = n; marked = k; is_open = true } in
    let s : step t r ≡ record { entries = t.entries; asides = t.asides ++ (a ∷ []) } = step-aside t r n k j in
    let none : stands_aside (self_of r) t.asides ≡ false =
    test_false (stands_aside (self_of r) t.asides) (λ e. distinct_front before r after d (asides_of before (self_of r) (stands_has (self_of r) t.asides e))) in
    let there : stands_aside (self_of r) (step t r).asides ≡ true = rw s (stands_last (self_of r) t.asides a refl) in
    let opened : open_of (self_of r) (step t r).asides ≡ true = rw s (open_last (self_of r) t.asides a none refl) in
    rw (replay-append empty_tree before (r ∷ after))
    (open_replay (self_of r) (step t r) after there ∙ ap (λ (b : Bool). b && not (settled_in (self_of r) (step t r) after)) opened)

-- ---- settling again, settling a settle

settled_again : (k : ℕ) (l : List Aside) → open_of k l ≡ false → settled k l ≡ l
unfolding open_of settled
settled_again k [] h = refl
settled_again k (a ∷ l) h =
    ⊎_elim
    (λ (c : eqb a.who k ≡ true).
    let e : false ≡ a.is_open = sym (rw c at h) in
    rw c (λ i. record { who = a.who; reason = a.reason; marked = a.marked; is_open = e i } ∷ l))
    (λ (c : eqb a.who k ≡ false). rw c (ap (λ (x : List Aside). a ∷ x) (settled_again k l (rw c at h))))
    (bool_cases (eqb a.who k))

judge-settles : (r : Rec) (t : Tree) → op r ≡ 6 → stands_aside (object_of r) t.asides ≡ true → judge r t ≡ fits
unfolding judge_settle
judge-settles r t o h = judge_settle_lem r t o ∙ rw h

-- a settle that fits settles, and leaves all else
pub step-settles : (r : Rec) (t : Tree) → op r ≡ 6 → stands_aside (object_of r) t.asides ≡ true
    → step t r ≡ record { entries = t.entries; asides = settled (object_of r) t.asides }
step-settles r t o h = step_fits t r (judge-settles r t o h) ∙ effect_settle r t o

-- a second settle fits and changes nothing
pub second_settle : (r : Rec) (t : Tree) → op r ≡ 6 → stands_aside (object_of r) t.asides ≡ true → open_of (object_of r) t.asides ≡ false
    → (judge r t ≡ fits) × (step t r ≡ t)
second_settle r t o h c = (
  judge-settles r t o h,
  step-settles r t o h ∙ ap (λ (l : List Aside). record { entries = t.entries; asides = l }) (settled_again (object_of r) t.asides c),
)

-- a record that stands aside, a settle too, can be settled
pub settle_aside : (t : Tree) (r s : Rec) (n k : ℕ) → judge r t ≡ aside n k → op s ≡ 6 → object_of s ≡ self_of r
    → (judge s (step t r) ≡ fits) × (open_of (self_of r) (step (step t r) s).asides ≡ false)
settle_aside t r s n k j o e =
    let a : Aside = record { who = self_of r; reason = n; marked = k; is_open = true } in
    let q : step t r ≡ record { entries = t.entries; asides = t.asides ++ (a ∷ []) } = step-aside t r n k j in
    let there : stands_aside (object_of s) (step t r).asides ≡ true = rw (e, q) (stands_last (self_of r) t.asides a refl) in
    (judge-settles s (step t r) o there, rw (step-settles s (step t r) o there, e) (open_settled (self_of r) (step t r).asides))

-- a record that fitted cannot
pub settle_fitted : (t : Tree) (r s : Rec) → judge r t ≡ fits → stands_aside (self_of r) t.asides ≡ false → op s ≡ 6 → object_of s ≡ self_of r
    → judge s (step t r) ≡ aside 18 0
unfolding judge_settle
settle_fitted t r s j h o e =
    let none : stands_aside (object_of s) (step t r).asides ≡ false =
    rw (step_fits t r j, e)
    (effect_elim (λ (x : Tree). stands_aside (self_of r) x.asides ≡ false) r t
    (λ _. h) (λ _. h) (λ _. h) (λ _. h) (λ _. stands_settled (self_of r) (object_of r) t.asides ∙ h) (λ _. h)) in
    judge_settle_lem s (step t r) o ∙ rw none

-- ---- disputed

pub disputed_open : (k : ℕ) (l : List Aside) → (is_disputed k l ≡ true) ↔ ((a : Aside) × Has a l × (a.is_open ≡ true) × (a.marked ≡ k))
unfolding is_disputed
disputed_open k [] = (λ h. absurd (false≢true h), λ x. absurd x.1)
disputed_open k (a ∷ l) = (
  λ h. ⊎_elim
      (λ (c : (a.is_open && eqb a.marked k) ≡ true).
      let (p, q) = and_true a.is_open (eqb a.marked k) c in
      (a, inl refl, p, eqb-true a.marked k q))
      (λ (c : (a.is_open && eqb a.marked k) ≡ false).
      let (b, i, p, q) = (disputed_open k l).0 (rw c at h) in
      (b, inr i, p, q))
      (bool_cases (a.is_open && eqb a.marked k)),
  λ x. ⊎_elim
      (λ (e : x.0 ≡ a). rw (true_and a.is_open (eqb a.marked k) (ap (λ (y : Aside). y.is_open) (sym e) ∙ x.2) (eq-eqb a.marked k (ap (λ (y : Aside). y.marked) (sym e) ∙ x.3))))
      (λ i. rw ((disputed_open k l).1 (x.0, i, x.2, x.3)) (or_true (a.is_open && eqb a.marked k)))
      x.1,
)
