-- What starting answers and leaves, over plain values.
-- Assumes nothing.
use Prim.Native.Nat.{ℕ}
use mathlib.Core.Path.{◌≡◌, sym}
use mathlib.Core.Bool.{true}
use mathlib.Core.List.{List}
use lib.ListN.{length, replicate}
use Rattle.base_model.specs.Base.{empty_base}
use Rattle.call_model.specs.Outcome.{outcome, refusal, early_number, start_of}
use Rattle.call_answer.proofs.Guards.{early_long, early_based, refused_by}

pub not_started : (u : ℕ) (log base : List ℕ) (n : ℕ) → n ≡ early_number u log base true true → (n ≡ 0 → ⊥) → refusal n log base ≡ start_of u log base
unfolding start_of
not_started u log base n e h = rw (← e) (refused_by n log base (outcome 0 0 (replicate 40960 0) empty_base 0) h)

module _ (u : ℕ) (log base : List ℕ) (e : 0 ≡ early_number u log base true true) where
  pub base_long : length base ≡ 43032
  base_long = early_based u log base true true (sym e)

  pub emptied : (left clear : List ℕ) → left ≡ replicate (length log) 0 → clear ≡ empty_base → outcome 0 0 left clear 0 ≡ start_of u log base
  unfolding start_of
  emptied left clear q p = rw (← e, q, p, early_long u log base true true (sym e))
