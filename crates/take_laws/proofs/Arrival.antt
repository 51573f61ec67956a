-- Records taken in several blocks.
-- Assumes nothing.
use Prim.Native.Nat.{ℕ}
use mathlib.Core.Path.{◌≡◌, refl, sym, ◌∙◌}
use mathlib.Core.List.{List, [], ◌∷◌, ◌++◌}
use Rattle.model.specs.Record.{Rec}
use Rattle.call_model.specs.Outcome.{Took, refused, taken, take_one, takes_all}
use Rattle.take_laws.proofs.Take.{refused_taken, taken_same, take_all-nil, take_all_goes, take_all_stops}

pub take_all-append : (m : ℕ) (v : List ℕ) (l rs qs k : List Rec) → takes_all m v l rs ≡ taken k → takes_all m v l (rs ++ qs) ≡ takes_all m v k qs
take_all-append m v l [] qs k e = let q : l ≡ k = taken_same (sym (take_all-nil m v l) ∙ e) in rw q
take_all-append m v l (r ∷ rs) qs k e = go (take_one m v l r) refl (λ x q. take_all-append m v x rs qs k q)
  where
    go : (o : Took) → take_one m v l r ≡ o → ((x : List Rec) → takes_all m v x rs ≡ taken k → takes_all m v x (rs ++ qs) ≡ takes_all m v k qs)
        → takes_all m v l (r ∷ (rs ++ qs)) ≡ takes_all m v k qs
    go (refused n) q f = refused_taken (sym (take_all_stops m v l r rs n q) ∙ e)
    go (taken x) q f = take_all_goes m v l r (rs ++ qs) x q ∙ f x (sym (take_all_goes m v l r rs x q) ∙ e)
