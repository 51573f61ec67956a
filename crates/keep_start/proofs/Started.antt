-- What starting with an index is asked, over plain values.
-- Assumes nothing.
use Prim.Native.Nat.{ℕ}
use native.Mathlib.Omega.{arith}
use mathlib.Core.Path.{◌≡◌, refl, sym, ap, ◌∙◌}
use mathlib.Core.Logic.{⊎_elim}
use mathlib.Core.Bool.{Bool, true, false, not}
use mathlib.Core.List.{List, [], ◌∷◌}
use lib.ListN.{length, replicate}
use Rattle.call_model.specs.Outcome.{outcome, start_of}
use Rattle.byte_slice.proofs.Numbers.{eq_or_ne}
use Rattle.index_model.specs.Index.{index_size}
use Rattle.index_model.specs.Kept.{index_fits, if_lent, kept, start_kept}
use Rattle.keep_lent.proofs.Lent.{fits_by, lent_long, none_lent, is_lent, wrong_index, kept_accepted, kept_refused}

no_byte : (i : List ℕ) → length i ≡ 0 → i ≡ []
no_byte [] h = refl
no_byte (x ∷ i) h = absurd (omega arith)

-- zeros of either length
zeros_lent : (i : List ℕ) → index_fits i ≡ true → replicate (length i) 0 ≡ if_lent i (replicate index_size 0)
zeros_lent i f =
    ⊎_elim
    (λ (z : length i ≡ 0). ap (λ (n : ℕ). replicate n 0) z ∙ sym (no_byte i z) ∙ none_lent i (replicate index_size 0) z)
    (λ (z : length i ≡ 0 → ⊥). is_lent i (replicate index_size 0) (replicate (length i) 0) z (ap (λ (n : ℕ). replicate n 0) (lent_long i f z)))
    (eq_or_ne (length i) 0)

module _ (u : ℕ) (log base i : List ℕ) {b : Bool} (e : b ≡ index_fits i) where
  pub index_wrong : not b ≡ true → kept 1 0 log i base ≡ start_kept u log base i
  unfolding start_kept
  index_wrong h = wrong_index (index_fits i) log base i (start_of u log base) (replicate index_size 0) b e h

  module _ (h : not b ≡ false) {n p : ℕ} {x y : List ℕ} (q : outcome n p x y 0 ≡ start_of u log base) where
    pub cleared : n ≡ 0 → (j : List ℕ) → j ≡ replicate (length i) 0 → kept n p x j y ≡ start_kept u log base i
    unfolding start_kept
    cleared z j w =
        let f = fits_by b e h in
        kept_accepted (index_fits i) log base i (start_of u log base) (replicate index_size 0) f q z j (w ∙ zeros_lent i f)

    pub not_cleared : (n ≡ 0 → ⊥) → kept n p x i y ≡ start_kept u log base i
    unfolding start_kept
    not_cleared z = kept_refused (index_fits i) log base i (start_of u log base) (replicate index_size 0) (fits_by b e h) q z
