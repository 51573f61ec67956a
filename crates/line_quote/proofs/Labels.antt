-- A label between quotes: bytes that want a backslash, and the parts of a label.
-- Assumes nothing.
use Prim.Native.Nat.{ℕ, ◌+◌, ◌-◌, ◌≤◌}
use native.Mathlib.Nat.{sub-zero}
use native.Mathlib.Omega.{arith}
use mathlib.Core.Path.{◌≡◌, refl, sym, ap, ◌∙◌}
use mathlib.Core.Bool.{Bool, true, false, cond, ◌||◌}
use mathlib.Core.List.{List, [], ◌∷◌, ◌++◌}
use lib.ListN.{length, take}
use lib.Dec.{eqb}
use borrow.Author.Tests.{eq-eqb, ne_eqb}
use Rattle.model.specs.Record.{text_length}
use Rattle.model.specs.Listing.{escaped, label_text}
use Rattle.line_text.specs.Written.{Wrote}
use Rattle.line_text.proofs.Chains.{InThree}

-- ---- a byte that may want a backslash

escaped-two : (x : ℕ) (t : Bool) → t ≡ (eqb x 34 || eqb x 92) → t ≡ true → escaped (x ∷ []) ≡ 92 ∷ x ∷ []
unfolding escaped
escaped-two x t e f = rw (sym e ∙ f)

escaped_one : (x : ℕ) (t : Bool) → t ≡ (eqb x 34 || eqb x 92) → t ≡ false → escaped (x ∷ []) ≡ x ∷ []
unfolding escaped
escaped_one x t e f = rw (sym e ∙ f)

pub quote_escapes : (x : ℕ) → x ≡ 34 → true ≡ (eqb x 34 || eqb x 92)
quote_escapes x e = rw (eq-eqb x 34 e)

pub other_escapes : (x : ℕ) → (x ≡ 34 → ⊥) → eqb x 92 ≡ (eqb x 34 || eqb x 92)
other_escapes x e = rw (ne_eqb x 34 e)

pub two_fit : (x at n : ℕ) (t : Bool) → t ≡ (eqb x 34 || eqb x 92) → t ≡ true → at + length (escaped (x ∷ [])) ≤ n → at + 2 ≤ n
two_fit x at n t e f h = let k = ap length (escaped-two x t e f) in omega arith

pub one_fits : (x at n : ℕ) (t : Bool) → t ≡ (eqb x 34 || eqb x 92) → t ≡ false → at + length (escaped (x ∷ [])) ≤ n → at + 1 ≤ n
one_fits x at n t e f h = let k = ap length (escaped_one x t e f) in omega arith

pub wrote_escaped : {a b : List ℕ} {at r : ℕ} (x : ℕ) (t : Bool) → t ≡ (eqb x 34 || eqb x 92) → t ≡ true → Wrote a b at r (92 ∷ x ∷ []) → Wrote a b at r (escaped (x ∷ []))
wrote_escaped x t e f w = rw (escaped-two x t e f) w

pub wrote_plain : {a b : List ℕ} {at r : ℕ} (x : ℕ) (t : Bool) → t ≡ (eqb x 34 || eqb x 92) → t ≡ false → Wrote a b at r (x ∷ []) → Wrote a b at r (escaped (x ∷ []))
wrote_plain x t e f w = rw (escaped_one x t e f) w

-- ---- the bytes of a label

pub escaped-append : (s t : List ℕ) → escaped (s ++ t) ≡ escaped s ++ escaped t
unfolding escaped
escaped-append [] t = refl
escaped-append (x ∷ s) t = go (eqb x 34 || eqb x 92) (escaped-append s t)
  where
    go : (b : Bool) → escaped (s ++ t) ≡ escaped s ++ escaped t → cond b (92 ∷ x ∷ escaped (s ++ t)) (x ∷ escaped (s ++ t)) ≡ cond b (92 ∷ x ∷ escaped s) (x ∷ escaped s) ++ escaped t
    go true rest = ap (λ (l : List ℕ). 92 ∷ x ∷ l) rest
    go false rest = ap (λ (l : List ℕ). x ∷ l) rest

-- ---- a label

pub label_is : (t : List ℕ) (n : ℕ) → n ≡ text_length t → InThree (label_text t) (34 ∷ []) (escaped (take (n - 0) t)) (34 ∷ [])
unfolding label_text
label_is t n e = record { parts = rw (sub-zero n, e) }
