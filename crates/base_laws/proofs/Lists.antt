-- The list: it names every unit that a vector counts, and goes on to while only listed units get records.
-- Assumes nothing.
use Prim.Native.Nat.{ℕ, ◌<◌}
use mathlib.Core.Path.{◌≡◌, ◌∙◌}
use mathlib.Core.Logic.{◌⊎◌, ⊎_elim}
use mathlib.Core.Bool.{true, ◌||◌}
use mathlib.Core.List.{List}
use lib.Dec.{eqb}
use lib.ListN.{get_or}
use borrow.Author.Tests.{eq-eqb, ne_eqb}
use Rattle.byte_slice.proofs.Numbers.{eq_or_ne}
use Rattle.log_laws.proofs.Tests.{all_to-at, all_to_all}
use Rattle.base_model.specs.Base.{is_listed, lists_all}

pub all_listed : (m : ℕ) (v : List ℕ) → lists_all m v ≡ true → (u : ℕ) → u < 8 → (get_or v u 0 ≡ 0 → ⊥) → is_listed m u ≡ true
unfolding lists_all
all_listed m v e u h z = rw (ne_eqb (get_or v u 0) 0 z) at (all_to-at 8 (λ w. eqb (get_or v w 0) 0 || is_listed m w) e u h)

pub lists_all_lem : (m : ℕ) (v : List ℕ) → ((u : ℕ) → u < 8 → (get_or v u 0 ≡ 0 → ⊥) → is_listed m u ≡ true) → lists_all m v ≡ true
unfolding lists_all
lists_all_lem m v f =
    all_to_all 8 (λ w. eqb (get_or v w 0) 0 || is_listed m w)
    (λ u h.
    ⊎_elim
    (λ (z : get_or v u 0 ≡ 0). rw (eq-eqb (get_or v u 0) 0 z))
    (λ (z : get_or v u 0 ≡ 0 → ⊥). rw (ne_eqb (get_or v u 0) 0 z, f u h z))
    (eq_or_ne (get_or v u 0) 0))

-- where a count differs the unit is listed
pub lists_keeps : (m : ℕ) (v w : List ℕ) → lists_all m v ≡ true → ((u : ℕ) → u < 8 → (get_or w u 0 ≡ get_or v u 0) ⊎ (is_listed m u ≡ true)) → lists_all m w ≡ true
lists_keeps m v w e f =
    lists_all_lem m w
    (λ u h z.
    ⊎_elim
    (λ (q : get_or w u 0 ≡ get_or v u 0). all_listed m v e u h (λ y. z (q ∙ y)))
    (λ (q : is_listed m u ≡ true). q)
    (f u h))
