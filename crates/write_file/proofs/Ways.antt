-- The ways out of writing a file: a refusal, 29 for folded records, and success, over plain values.
-- Assumes nothing.
use Prim.Native.Nat.{ℕ}
use mathlib.Core.Path.{◌≡◌, refl, sym, ap, ◌∙◌}
use mathlib.Core.Bool.{Bool, true, false, not, ◌&&◌}
use mathlib.Core.List.{List, [], ◌∷◌}
use lib.Pointwise.{pointwise}
use lib.Dec.{eqb}
use lib.ListN.{length, replicate}
use borrow.Author.Tests.{not-true, not-false}
use Rattle.model.specs.Bytes.{blank, padded}
use Rattle.model.specs.Log.{vector_of, no_counts, records_of, sound_log}
use Rattle.model.specs.File.{block_count, file_of}
use Rattle.base_model.specs.Base.{base_vector}
use Rattle.call_model.specs.Outcome.{outcome, written, write_of}
use Rattle.byte_slice.proofs.Compare.{blank-eq}
use Rattle.log_laws.proofs.Tests.{vector_on-none}
use Rattle.base_head.specs.Head.{headed}
use Rattle.call_guard.specs.Opened.{opened, open_of}
use Rattle.call_guard.proofs.Opening.{open_sound, open_held, open_folded, call_refused, call_passes}

-- ---- a vector of zeros

pub zeros_blank : (v : List ℕ) → pointwise eqb v (replicate (length v) 0) ≡ blank v
unfolding blank
zeros_blank [] = refl
zeros_blank (x ∷ v) = ap (λ (t : Bool). eqb x 0 && t) (zeros_blank v)

-- ---- the ways out

module _ (a u : ℕ) (log base lent : List ℕ) {n m k j : ℕ} {folded held : List ℕ} {used : ℕ} (e : opened n (headed m folded k j) held used ≡ open_of u log base (eqb (length lent) 44032) true) where
  pub write_refused : (n ≡ 0 → ⊥) → outcome n 0 log lent 0 ≡ write_of a u log base lent
  unfolding write_of
  write_refused h = call_refused u log base lent (eqb (length lent) 44032) e (written a u log base lent) h

  module _ (z : n ≡ 0) (t : Bool) (c : t ≡ blank folded) where
    told : folded ≡ base_vector base
    told = open_folded u log base (eqb (length lent) 44032) true e z

    none : blank (base_vector base) ≡ t
    none = sym (rw told at c)

    pub write_folded : not t ≡ true → outcome 29 0 log lent 0 ≡ write_of a u log base lent
    unfolding write_of written
    write_folded h =
        let d : outcome 29 0 log lent 0 ≡ written a u log base lent = rw (none, not-true t h) in
        d ∙ call_passes u log base lent (eqb (length lent) 44032) e (written a u log base lent) z

    module _ (g : not t ≡ false) where
      -- no record is folded
      whole : length folded ≡ 8 → base_vector base ≡ no_counts
      whole l = sym told ∙ (rw l at (blank-eq folded (sym c ∙ not-false t g)))

      pub whole_sound : length folded ≡ 8 → sound_log log ≡ true
      unfolding sound_log
      whole_sound l = rw (whole l) at (open_sound u log base (eqb (length lent) 44032) true e z)

      pub whole-held : length folded ≡ 8 → held ≡ vector_of (records_of log)
      whole-held l = open_held u log base (eqb (length lent) 44032) true e z ∙ rw (whole l) (vector_on-none (records_of log))

      pub all_written : (i : ℕ) (o : List ℕ) → o ≡ padded 44032 (file_of a u (records_of log)) → i ≡ block_count (length (records_of log)) → outcome 0 0 log o i ≡ write_of a u log base lent
      unfolding write_of written
      all_written i o p q =
          let d : outcome 0 0 log o i ≡ written a u log base lent = rw (p, q, none, not-false t g) in
          d ∙ call_passes u log base lent (eqb (length lent) 44032) e (written a u log base lent) z
