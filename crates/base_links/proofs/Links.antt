-- Chains over numbered things: a thing more, and a search along a chain. One set of laws for every key and every test.
-- Assumes nothing.
use Prim.Native.Nat.{ℕ, zero, suc, ◌+◌, ◌-◌, ◌≤◌, ◌<◌}
use native.Mathlib.Numerals.{add-one}
use native.Mathlib.Omega.{arith}
use mathlib.Core.Path.{◌≡◌, refl, sym, ap, ◌∙◌}
use mathlib.Core.Logic.{⊎_elim}
use mathlib.Core.Bool.{Bool, true, false, ◌&&◌, not, false≢true}
use mathlib.Core.List.{List}
use lib.ListN.{get_or, length, set, replicate, length-set, length-replicate, get_or-replicate}
use lib.Seq.{get_or-set_same, get_or-set_other}
use borrow.Author.Tests.{eq-eqb, ne_eqb, eqb-true}
use Rattle.model.specs.Log.{all_to}
use Rattle.byte_slice.proofs.Numbers.{lt_or_ge, eq_or_ne, bool_cases, test_false, and_wrong}
use Rattle.base_model.specs.Base.{last_to}
use Rattle.std.proofs.Common.{Option, None, Some, eqb}
use Rattle.std.specs.Option.{is_some}
use Rattle.base_links.specs.Places.{place_told}
use Rattle.base_links.specs.Links.{has_key, Linked, Walk}

-- ---- all that pass

pub all_next : (p : ℕ → Bool) (i : ℕ) {t u : Bool} → t ≡ all_to i p → u ≡ p i → (t && u) ≡ all_to (i + 1) p
unfolding all_to
all_next p i e f = rw (add-one i, e, f)

pub all_ends : (p : ℕ → Bool) (i n : ℕ) {t : Bool} → i ≤ n → n ≤ i → t ≡ all_to i p → t ≡ all_to n p
all_ends p i n h g e = let w : i ≡ n = omega arith in (rw w at e)

pub all_none : (p : ℕ → Bool) → true ≡ all_to 0 p
unfolding all_to
all_none p = refl

pub all_false : (n : ℕ) (p : ℕ → Bool) (u : ℕ) → u < n → p u ≡ false → all_to n p ≡ false
unfolding all_to
all_false zero p u h e = absurd (omega arith)
all_false (suc n) p u h e =
    ⊎_elim
    (λ (k : u < n). rw (all_false n p u k e))
    (λ k. let w : u ≡ n = omega arith in rw (← w, e) (and_wrong (all_to u p)))
    (lt_or_ge u n)

pub all_same : (n : ℕ) (p q : ℕ → Bool) → ((u : ℕ) → u < n → p u ≡ q u) → all_to n p ≡ all_to n q
unfolding all_to
all_same zero p q h = refl
all_same (suc n) p q h = rw (all_same n p q (λ u k. h u (omega arith)), h n (omega arith))

-- ---- the last that passes

module _ (p : ℕ → Bool) where
  here : (i : ℕ) → p i ≡ true → last_to p (suc i) ≡ suc i
  unfolding last_to
  here i e = rw e

  beyond : (i : ℕ) → p i ≡ false → last_to p (suc i) ≡ last_to p i
  unfolding last_to
  beyond i e = rw e

  none : last_to p zero ≡ 0
  unfolding last_to
  none = refl

  pub last_le : (i : ℕ) → last_to p i ≤ i
  last_le zero = omega (arith, none)
  last_le (suc i) =
      ⊎_elim
      (λ e. omega (arith, here i e))
      (λ e. omega (arith, beyond i e, last_le i))
      (bool_cases (p i))

  pub last_passes : (i : ℕ) → 0 < last_to p i → p (last_to p i - 1) ≡ true
  last_passes zero h = absurd (omega (arith, none))
  last_passes (suc i) h =
      ⊎_elim
      (λ (e : p i ≡ true). let w : last_to p (suc i) - 1 ≡ i = omega (arith, here i e) in rw (w, e))
      (λ (e : p i ≡ false). let g : 0 < last_to p i = omega (arith, beyond i e) in rw (beyond i e) (last_passes i g))
      (bool_cases (p i))

  -- where all that pass have the key h, those of other keys are skipped
  pub last_skip : (key : ℕ → ℕ) (h : ℕ) → ((j : ℕ) → p j ≡ true → key j ≡ h) → (i : ℕ) → last_to p (last_to (has_key key h) i) ≡ last_to p i
  unfolding last_to has_key
  last_skip key h g zero = refl
  last_skip key h g (suc i) =
      ⊎_elim
      (λ (e : key i ≡ h). rw (eq-eqb (key i) h e))
      (λ (e : key i ≡ h → ⊥). rw (ne_eqb (key i) h e, test_false (p i) (λ t. e (g i t))) (last_skip key h g i))
      (eq_or_ne (key i) h)

-- ---- a search along a chain

module _ (p : ℕ → Bool) (key : ℕ → ℕ) (heads next : List ℕ) (h i : ℕ) (agree : (j : ℕ) → p j ≡ true → key j ≡ h) (w : Linked key heads next i) where
  comes : (t q : ℕ) → t ≤ i → q ≡ last_to (has_key key h) t → last_to p t ≡ last_to p i → Walk p key h i q
  unfolding has_key
  comes t q l e s =
      record {
        low = omega (arith, last_le (has_key key h) t);
        same = rw e (last_skip p key h agree t ∙ s);
        chain = λ z. eqb-true (key (q - 1)) h (rw e (last_passes (has_key key h) t (rw e at z)));
      }

  pub walk_starts : {q : ℕ} → h < 1024 → q ≡ get_or heads h 0 → Walk p key h i q
  walk_starts {q} l e = comes i q (omega arith) (e ∙ w.first h l) refl

  pub walk_low : {q r : ℕ} → Walk p key h i q → 0 < q → r ≡ get_or next (q - 1) 0 → r < q
  walk_low {q} k z e =
      let f : get_or next (q - 1) 0 ≡ last_to (has_key key (key (q - 1))) (q - 1) = w.behind (q - 1) (omega (arith, k.low)) in
      omega (arith, last_le (has_key key (key (q - 1))) (q - 1))

  pub walk_goes : {q r : ℕ} → Walk p key h i q → 0 < q → p (q - 1) ≡ false → r ≡ get_or next (q - 1) 0 → Walk p key h i r
  walk_goes {q} {r} k z f e =
      let b : get_or next (q - 1) 0 ≡ last_to (has_key key (key (q - 1))) (q - 1) = w.behind (q - 1) (omega (arith, k.low)) in
      let c : last_to p q ≡ last_to p (q - 1) = one_less q z f in
      comes (q - 1) r (omega (arith, k.low)) (e ∙ (rw (k.chain z) at b)) (sym c ∙ k.same)
    where
      one_less : (q : ℕ) → 0 < q → p (q - 1) ≡ false → last_to p q ≡ last_to p (q - 1)
      one_less q z f = let e : suc (q - 1) ≡ q = omega arith in (rw e at (beyond p (q - 1) f))

-- as the code tells it: the place that was found, or none
pub walk_found : (p : ℕ → Bool) (key : ℕ → ℕ) (h i q : ℕ) → Walk p key h i q → 0 < q → p (q - 1) ≡ true → q - 1 + 1 ≡ last_to p i
walk_found p key h i q k z e =
    let f : suc (q - 1) ≡ q = omega arith in
    let g : q - 1 + 1 ≡ q = omega arith in
    g ∙ (sym (rw f at (here p (q - 1) e)) ∙ k.same)

pub walk_ends : (p : ℕ → Bool) (key : ℕ → ℕ) (h i q : ℕ) → Walk p key h i q → q ≤ 0 → 0 ≡ last_to p i
walk_ends p key h i q k z =
    let f : q ≡ 0 = omega arith in
    sym (none p) ∙ (rw f at k.same)

pub none_told : (o : Option ℕ) (u : Bool) → is_some o ≡ not u → u ≡ eqb (place_told o) 0
none_told None true e = refl
none_told None false e = absurd (false≢true e)
none_told (Some i) true e = absurd (false≢true (sym e))
none_told (Some i) false e = sym (ne_eqb (i + 1) 0 (λ z. absurd (omega arith)))

-- ---- the tables

-- zeros are the tables of nothing
pub linked_none : (key : ℕ → ℕ) → Linked key (replicate 1024 0) (replicate 1024 0) 0
unfolding last_to
linked_none key =
    record {
      heads-long = length-replicate {A = ℕ} 1024 0;
      next-long = length-replicate {A = ℕ} 1024 0;
      first = λ h l. get_or-replicate {A = ℕ} 1024 h 0 0 l;
      behind = λ j l. absurd (omega arith);
    }

-- the thing i is put first in the chain of its key
pub linked_more : (key : ℕ → ℕ) (heads next heads' next' : List ℕ) (h i : ℕ) → Linked key heads next i → i < 1024 → h < 1024 → h ≡ key i
    → heads' ≡ set heads h (i + 1) → next' ≡ set next i (get_or heads h 0) → Linked key heads' next' (i + 1)
unfolding has_key
linked_more key heads next heads' next' h i w low g e p q =
    record {
      heads-long = ap (λ (l : List ℕ). length l) p ∙ (length-set heads h (i + 1) ∙ w.heads-long);
      next-long = ap (λ (l : List ℕ). length l) q ∙ (length-set next i (get_or heads h 0) ∙ w.next-long);
      first = λ k l.
          ⊎_elim
          (λ (z : k ≡ h).
          rw (p, z, get_or-set_same heads h (i + 1) 0 (omega (arith, w.heads-long)), add-one i)
          (sym (here (has_key key h) i (eq-eqb (key i) h (sym e)))))
          (λ (z : k ≡ h → ⊥).
          rw (p, get_or-set_other heads h k (i + 1) 0 z, add-one i, beyond (has_key key k) i (ne_eqb (key i) k (λ y. z (sym y ∙ sym e))))
          (w.first k l))
          (eq_or_ne k h);
      behind = λ j l.
          ⊎_elim
          (λ (z : j ≡ i). rw (q, z, get_or-set_same next i (get_or heads h 0) 0 (omega (arith, w.next-long)), ← e) (w.first h g))
          (λ (z : j ≡ i → ⊥). rw (q, get_or-set_other next i j (get_or heads h 0) 0 z) (w.behind j (omega arith)))
          (eq_or_ne j i);
    }
