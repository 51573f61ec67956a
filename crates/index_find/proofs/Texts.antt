-- Texts and keys compared: each way out over plain values.
-- Assumes nothing.
use Prim.Native.Nat.{ℕ, ◌+◌, ◌≤◌, ◌<◌}
use native.Mathlib.Omega.{arith}
use mathlib.Core.Path.{◌≡◌, refl, sym, ◌∙◌}
use mathlib.Core.Logic.{◌⊎◌, ⊎_elim}
use mathlib.Core.Bool.{Bool, true, false, ◌&&◌, ◌||◌}
use mathlib.Core.List.{List, [], ◌∷◌}
use lib.Dec.{ltb, eqb}
use lib.ListN.{length}
use borrow.Author.Tests.{eq-eqb, ne_eqb, lt-ltb, le-ltb}
use Rattle.model.specs.Replay.{lower, label_key}
use Rattle.index_model.specs.Index.{comes_before, key_before}

or_right : (a : Bool) → (a || false) ≡ a
or_right true = refl
or_right false = refl

module _ (a b : List ℕ) (x y p q : ℕ) {r : Bool} (inv : comes_before (label_key (x ∷ a)) (label_key (y ∷ b)) ≡ r) (e : p ≡ lower x) (f : q ≡ lower y) where
  both : (ltb p q || (eqb p q && comes_before (label_key a) (label_key b))) ≡ r
  unfolding comes_before label_key
  both = rw (e, f) inv

  pub before-differs : (p ≡ q → ⊥) → ltb p q ≡ r
  before-differs n = sym (or_right (ltb p q)) ∙ (rw (ne_eqb p q n) at both)

  pub before-next : p ≡ q → comes_before (label_key a) (label_key b) ≡ r
  before-next g = rw (le-ltb p q (omega arith), eq-eqb p q g) at both

-- both texts are as long as what was compared and what is left of them
pub before_end : (a b s t : List ℕ) {r : Bool} → length a + length t ≡ length b + length s → (s ≡ []) ⊎ (t ≡ []) → comes_before (label_key s) (label_key t) ≡ r → ltb (length a) (length b) ≡ r
unfolding comes_before label_key
before_end a b [] [] h w e = le-ltb (length a) (length b) (omega arith) ∙ e
before_end a b [] (y ∷ t) h w e = lt-ltb (length a) (length b) (omega arith) ∙ e
before_end a b (x ∷ s) [] h w e = le-ltb (length a) (length b) (omega arith) ∙ e
before_end a b (x ∷ s) (y ∷ t) h w e = ⊎_elim (λ (k : (x ∷ s) ≡ []). cc) (λ (k : (y ∷ t) ≡ []). cc) w

module _ (f : ℕ) (t : List ℕ) (g : ℕ) (s : List ℕ) where
  pub key_less : f < g → true ≡ key_before f t g s
  unfolding key_before
  key_less h = rw (lt-ltb f g h)

  pub key_more : g < f → false ≡ key_before f t g s
  unfolding key_before
  key_more h = rw (le-ltb f g (omega arith), ne_eqb f g (omega arith))

  pub key_text : g ≤ f → f ≤ g → (r : Bool) → r ≡ comes_before (label_key t) (label_key s) → r ≡ key_before f t g s
  unfolding key_before
  key_text h k r e = rw (le-ltb f g h, eq-eqb f g (omega arith)) e
