-- The bytes of a text one by one: what may stand, what is a stroke, and what is printable.
-- Assumes nothing.
use Prim.Native.Nat.{ℕ, zero, suc, ◌+◌, ◌≤◌}
use native.Mathlib.Numerals.{add-one}
use native.Mathlib.Omega.{arith}
use mathlib.Core.Path.{◌≡◌, refl, ap, ◌∙◌}
use mathlib.Core.Bool.{Bool, true, false, cond, not, ◌&&◌, ◌||◌}
use mathlib.Core.Logic.{⊎_elim}
use mathlib.Core.List.{List, [], ◌∷◌, ◌++◌}
use lib.Dec.{leb, eqb}
use lib.ListN.{get_or, length, take}
use lib.Seq.{take-suc, take_all}
use borrow.Author.Tests.{eqb-true}
use Rattle.model.specs.Record.{printable, has_stroke}
use Rattle.model.specs.Numbers.{first_of}
use Rattle.act_bytes.specs.Table.{may_stand}
use Rattle.byte_slice.proofs.Numbers.{bool_cases}
use Rattle.act_label.specs.Label.{stand_to, plain_to, text_number}

-- ---- two texts behind one another

pub stroke_append : (a b : List ℕ) → has_stroke (a ++ b) ≡ (has_stroke a || has_stroke b)
unfolding has_stroke
stroke_append [] b = refl
stroke_append (x ∷ a) b = go (eqb x 47) (stroke_append a b)
  where
    go : (t : Bool) → has_stroke (a ++ b) ≡ (has_stroke a || has_stroke b) → (t || has_stroke (a ++ b)) ≡ ((t || has_stroke a) || has_stroke b)
    go true e = refl
    go false e = e

printable_more : (a : List ℕ) (x : ℕ) → printable (a ++ (x ∷ [])) ≡ (printable a && (leb 32 x && leb x 126))
unfolding printable
printable_more [] x = go (leb 32 x) (leb x 126)
  where
    go : (p q : Bool) → (p && (q && true)) ≡ (p && q)
    go false q = refl
    go true false = refl
    go true true = refl
printable_more (y ∷ a) x = go (leb 32 y) (leb y 126) (printable_more a x)
  where
    go : (p q : Bool) → printable (a ++ (x ∷ [])) ≡ (printable a && (leb 32 x && leb x 126))
        → (p && (q && printable (a ++ (x ∷ [])))) ≡ ((p && (q && printable a)) && (leb 32 x && leb x 126))
    go false q e = refl
    go true false e = refl
    go true true e = e

stroke_more : (a : List ℕ) (x : ℕ) → has_stroke (a ++ (x ∷ [])) ≡ (has_stroke a || eqb x 47)
unfolding has_stroke
stroke_more a x = stroke_append a (x ∷ []) ∙ ap (λ (b : Bool). has_stroke a || b) (go (eqb x 47))
  where
    go : (b : Bool) → (b || false) ≡ b
    go true = refl
    go false = refl

-- ---- the first n bytes

-- what may stand, or is a stroke, is printable, and the other way round
either_printable : (x : ℕ) → (may_stand x || eqb x 47) ≡ (leb 32 x && leb x 126)
unfolding may_stand
either_printable x =
    ⊎_elim
    (λ (k : eqb x 47 ≡ true). let e : x ≡ 47 = eqb-true x 47 k in rw e)
    (λ (k : eqb x 47 ≡ false). rw k (go (leb 32 x) (leb x 126)))
    (bool_cases (eqb x 47))
  where
    go : (p q : Bool) → ((p && (q && true)) || false) ≡ (p && q)
    go false q = refl
    go true false = refl
    go true true = refl

plain_is : (t : List ℕ) (n : ℕ) → n ≤ length t → plain_to t n ≡ printable (take n t)
unfolding plain_to printable
plain_is t zero h = refl
plain_is t (suc n) h =
    rw (take-suc t n 0 (omega arith), printable_more (take n t) (get_or t n 0), plain_is t n (omega arith), either_printable (get_or t n 0))

stand_is : (t : List ℕ) (n : ℕ) → n ≤ length t → stand_to t n ≡ (printable (take n t) && not (has_stroke (take n t)))
unfolding stand_to printable has_stroke may_stand
stand_is t zero h = refl
stand_is t (suc n) h =
    let x : ℕ = get_or t n 0 in
    rw (take-suc t n 0 (omega arith), printable_more (take n t) x, stroke_more (take n t) x, stand_is t n (omega arith))
    (go (printable (take n t)) (has_stroke (take n t)) (leb 32 x) (leb x 126) (eqb x 47))
  where
    go : (p s a b e : Bool) → ((p && not s) && (a && (b && not e))) ≡ ((p && (a && b)) && not (s || e))
    go false s a b e = refl
    go true true false b e = refl
    go true true true false e = refl
    go true true true true e = refl
    go true false false b e = refl
    go true false true false e = refl
    go true false true true e = refl

-- 7 for a text that is not printable, 24 for one with a stroke
pub text_number_lem : (t : List ℕ) (n : ℕ) → n ≤ length t → text_number t n ≡ first_of (cond (printable (take n t)) 0 7) (cond (has_stroke (take n t)) 24 0)
unfolding text_number
text_number_lem t n h = rw (stand_is t n h, plain_is t n h) (go (printable (take n t)) (has_stroke (take n t)))
  where
    go : (p s : Bool) → cond (p && not s) 0 (cond p 24 7) ≡ first_of (cond p 0 7) (cond s 24 0)
    go true true = refl
    go true false = refl
    go false s = refl

-- the same of the whole text
pub whole_text : (t : List ℕ) → text_number t (length t) ≡ first_of (cond (printable t) 0 7) (cond (has_stroke t) 24 0)
whole_text t =
    let all : take (length t) t ≡ t = take_all (length t) t (omega arith) in
    rw all at (text_number_lem t (length t) (omega arith))

-- ---- what the loop of `check_text` is asked

module _ (t : List ℕ) (i : ℕ) {yes : Bool} (y : yes ≡ may_stand (get_or t i 0)) where
  pub stand_next : {g : Bool} → g ≡ stand_to t i → (g && yes) ≡ stand_to t (i + 1)
  unfolding stand_to
  stand_next e = rw (add-one i, e, y)

  pub plain_next : {g : Bool} → g ≡ plain_to t i → (g && (yes || eqb (get_or t i 0) 47)) ≡ plain_to t (i + 1)
  unfolding plain_to
  plain_next e = rw (add-one i, e, y)

module _ (t : List ℕ) (i n : ℕ) (u : i ≤ n) (v : n ≤ i) {stand : Bool} (a : stand ≡ stand_to t i) where
  same_end : i ≡ n
  same_end = omega arith

  pub all_stand : stand ≡ true → 0 ≡ text_number t n
  unfolding text_number
  all_stand k = rw (← same_end, ← a, k)

  module _ (k : stand ≡ false) {plain : Bool} (b : plain ≡ plain_to t i) where
    pub some_stroke : plain ≡ true → 24 ≡ text_number t n
    unfolding text_number
    some_stroke m = rw (← same_end, ← a, k, ← b, m)

    pub other_byte : plain ≡ false → 7 ≡ text_number t n
    unfolding text_number
    other_byte m = rw (← same_end, ← a, k, ← b, m)
