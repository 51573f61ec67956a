-- Taking the records of a second log, with all eight units listed and nothing folded, comes to the union of both.
-- Assumes nothing.
use Prim.Native.Nat.{ℕ, suc, ◌+◌, ◌≤◌, ◌<◌}
use native.Mathlib.Omega.{arith}
use mathlib.Core.Path.{◌≡◌, refl, sym, ap, ◌∙◌}
use mathlib.Core.Logic.{⊎_elim}
use mathlib.Core.Bool.{true}
use mathlib.Core.List.{List, [], ◌∷◌}
use lib.ListN.{get_or, length}
use Rattle.model.specs.Record.{Rec, unit, num}
use Rattle.model.specs.Log.{insert, vector_of, no_counts, lacking, all_to}
use Rattle.model.specs.Merge.{insert_all, union}
use Rattle.base_model.specs.Base.{bits, is_listed}
use Rattle.call_model.specs.Outcome.{taken, take_one, takes_all}
use Rattle.log_laws.specs.Members.{Agree}
use Rattle.log_laws.specs.Sound.{Sound}
use Rattle.log_laws.proofs.Formed.{well_unit, well_own}
use Rattle.log_laws.proofs.Counts.{no_counts_lem}
use Rattle.log_laws.proofs.Ids.{held-by_id, none-by_id}
use Rattle.log_laws.proofs.Insert.{length-insert}
use Rattle.log_laws.proofs.Lacking.{lacking-cons, lacking-nil}
use Rattle.log_laws.proofs.Tests.{all_to-at}
use Rattle.merge_laws.proofs.Union.{Going, fr, fresh, joins, held, goes_new, goes_held, begins}
use Rattle.take_laws.proofs.Take.{beyond_folded, take_new_lem, take-held, take_all-nil, take_all_goes}

-- the list 255 names all eight units
pub all_eight : (u : ℕ) → u < 8 → is_listed 255 u ≡ true
unfolding all_to is_listed bits
all_eight u k = all_to-at 8 (is_listed 255) refl u k

module _ (a b : List Rec) (sa : Sound a) (sb : Sound b) (agree : Agree a b) where
  module _ (pre : List Rec) (r : Rec) (rs acc : List Rec) (g : Going a b pre (r ∷ rs) acc) where
    listed : is_listed 255 (unit r) ≡ true
    listed = all_eight (unit r) (well_unit r (fr a b sa sb agree pre r rs acc g))

    -- it is taken as a new one
    takes_new : get_or (vector_of a) (unit r) 0 < num r → length acc < 512 → take_one 255 no_counts acc r ≡ taken (insert r acc)
    takes_new new k =
        take_new_lem 255 no_counts acc r listed (none-by_id (unit r) (num r) acc (fresh a b sa sb agree pre r rs acc g new)) (joins a b sa sb agree pre r rs acc g new)
        (λ u h. omega (arith, no_counts_lem u))
        k

    -- it is taken as one that is held
    takes_held : num r ≤ get_or (vector_of a) (unit r) 0 → take_one 255 no_counts acc r ≡ taken acc
    takes_held old =
        let f = fr a b sa sb agree pre r rs acc g in
        take-held 255 no_counts acc r f listed (beyond_folded no_counts r (omega (arith, no_counts_lem (unit r), well_own r f)))
        (held-by_id acc r g.sound (held a b sa sb agree pre r rs acc g old))

  takes : (pre rs acc : List Rec) → Going a b pre rs acc → length acc + length (lacking (vector_of a) rs) ≤ 512
      → takes_all 255 no_counts acc rs ≡ taken (insert_all acc (lacking (vector_of a) rs))
  unfolding insert_all
  takes pre [] acc g few = take_all-nil 255 no_counts acc ∙ rw (lacking-nil (vector_of a))
  takes pre (r ∷ rs) acc g few =
      ⊎_elim
      (λ k.
      let n : length (lacking (vector_of a) (r ∷ rs)) ≡ suc (length (lacking (vector_of a) rs)) = ap (λ (m : List Rec). length m) k.1 in
      take_all_goes 255 no_counts acc r rs (insert r acc) (takes_new pre r rs acc g k.0 (omega arith))
      ∙ takes (r ∷ pre) rs (insert r acc) (goes_new a b sa sb agree pre r rs acc g k.0) (omega (arith, length-insert r acc))
      ∙ ap (λ (m : List Rec). taken (insert_all acc m)) (sym k.1))
      (λ k.
      let n : length (lacking (vector_of a) (r ∷ rs)) ≡ length (lacking (vector_of a) rs) = ap (λ (m : List Rec). length m) k.1 in
      take_all_goes 255 no_counts acc r rs acc (takes_held pre r rs acc g k.0)
      ∙ takes (r ∷ pre) rs acc (goes_held a b sa sb agree pre r rs acc g k.0) (omega arith)
      ∙ ap (λ (m : List Rec). taken (insert_all acc m)) (sym k.1))
      (lacking-cons (vector_of a) r rs)

  -- taking the records of the second log, one after another, gives the union
  pub union_taken : length a + length (lacking (vector_of a) b) ≤ 512 → takes_all 255 no_counts a b ≡ taken (union a b)
  unfolding union
  union_taken few = takes [] b a (begins a b sa sb agree) few
