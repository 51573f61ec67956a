-- What an accepted fold leaves is read back as the fold meant it.
-- Assumes nothing.
use Prim.Native.Nat.{ℕ, suc}
use native.Mathlib.Omega.{arith}
use mathlib.Core.Path.{◌≡◌, refl, ◌∙◌}
use mathlib.Core.Logic.{◌⊎◌, inl, inr}
use mathlib.Core.Bool.{true, false}
use mathlib.Core.List.{List}
use lib.Dec.{eqb}
use lib.ListN.{length, take, drop, length-drop}
use Rattle.model.specs.Log.{vector_on, records_of, log_bytes}
use Rattle.base_model.specs.Base.{base_bytes, base_in, base_vector, base_tree, held_on}
use Rattle.call_model.specs.Outcome.{refusal}
use Rattle.call_model.specs.Fold.{folded_base, list_fits, run_in, folded, fold_by, fold_of}
use Rattle.byte_slice.proofs.Numbers.{bool_cases}
use Rattle.encoding_laws.proofs.Logs.{sound_few}
use Rattle.base_laws.proofs.Folds.{left_sound, none-counts, run-counts, folded_back}
use Rattle.call_laws.specs.Keeps.{Good}
use Rattle.call_laws.proofs.States.{good_base, good_records, sound_back_on}
use Rattle.call_laws.proofs.Calls.{Guarded, guarded_cases}

module _ (m u : ℕ) (log base : List ℕ) (g : Good log base) where
  pub base_left_lem : base_in (base_bytes (folded_base m (base_vector base) (base_in base).tree (records_of log) (run_in m u log base)))
      ≡ folded_base m (base_vector base) (base_in base).tree (records_of log) (run_in m u log base)
  unfolding base_in
  base_left_lem =
      folded_back log base g.long.1 g.sound m (run_in m u log base)
      (run-counts m u (base_vector base) (base_tree base) (records_of log) (none-counts base (good_base log base g) (records_of log)))

  pub log_left : records_of (log_bytes (drop (run_in m u log base) (records_of log))) ≡ drop (run_in m u log base) (records_of log)
  log_left =
      let n : ℕ = run_in m u log base in
      sound_back_on (vector_on (base_vector base) (take n (records_of log))) (drop n (records_of log))
      (left_sound (base_vector base) (base_in base).tree (records_of log) (good_records log base g) n)
      (omega (arith, length-drop n (records_of log), sound_few log))

-- refused, or the first records of the log go into the base, by a list that may be given
abbrev pub Folded : ℕ → List ℕ → List ℕ → ℕ → List ℕ → Type 0
Folded u log base m work =
    ((n : ℕ) × (fold_of u log base m work ≡ refusal (suc n) log base))
    ⊎ ((fold_of u log base m work ≡ folded m log base (run_in m u log base)) × (list_fits m u (held_on log base) ≡ true) × Good log base)

pub fold_cases : (u : ℕ) (log base : List ℕ) (m : ℕ) (work : List ℕ) → Folded u log base m work
unfolding fold_of fold_by
fold_cases u log base m work = go (guarded_cases u log base base (eqb (length work) 86020) (fold_by m u log base)) (bool_cases (list_fits m u (held_on log base)))
  where
    go : Guarded u log base base (eqb (length work) 86020) (fold_by m u log base) → (list_fits m u (held_on log base) ≡ true) ⊎ (list_fits m u (held_on log base) ≡ false)
        → Folded u log base m work
    go (inr k) f = inl k
    go (inl (a, b, g, e)) (inl f) = inr (e ∙ rw f refl, f, g)
    go (inl (a, b, g, e)) (inr f) = inl (25, e ∙ rw f refl)
