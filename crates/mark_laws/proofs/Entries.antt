-- An entry whose marks differ in two lists that are equal but for the mark of the entry k is the entry k.
-- Assumes nothing.
use Prim.Native.Nat.{ℕ}
use mathlib.Core.Path.{◌≡◌, refl, sym, ap, ◌∙◌, subst}
use mathlib.Core.Logic.{inl, inr, ⊎_elim}
use mathlib.Core.List.{List, [], ◌∷◌}
use Rattle.byte_slice.proofs.Numbers.{eq_or_ne}
use Rattle.model.specs.Replay.{Entry}
use Rattle.tree_laws.specs.Replayed.{Has, Distinct, makers, mapped}
use Rattle.tree_laws.proofs.Labels.{has_made}
use Rattle.mark_laws.specs.Marks.{mark_if}
use Rattle.mark_laws.proofs.Trees.{mark_other}

pub distinct_made : (es : List Entry) → Distinct (makers es) → (e x : Entry) → Has e es → Has x es → e.made ≡ x.made → e ≡ x
unfolding makers
distinct_made [] d e x i j q = absurd i
distinct_made (y ∷ es) d e x (inl p) (inl c) q = p ∙ sym c
distinct_made (y ∷ es) d e x (inl p) (inr c) q = absurd (d.0 (subst (λ (k : ℕ). Has k (makers es)) (sym q ∙ ap (λ (z : Entry). z.made) p) (has_made es x c)))
distinct_made (y ∷ es) d e x (inr p) (inl c) q = absurd (d.0 (subst (λ (k : ℕ). Has k (makers es)) (q ∙ ap (λ (z : Entry). z.made) c) (has_made es e p)))
distinct_made (y ∷ es) d e x (inr p) (inr c) q = distinct_made es d.1 e x p c q

has_mapped : (g : Entry → Entry) (es : List Entry) (e : Entry) → Has e es → Has (g e) (mapped g es)
unfolding mapped
has_mapped g [] e i = absurd i
has_mapped g (x ∷ es) e (inl q) = inl (ap g q)
has_mapped g (x ∷ es) e (inr i) = inr (has_mapped g es e i)

mapped_has : (g : Entry → Entry) (es : List Entry) (e : Entry) → Has e (mapped g es) → (x : Entry) × Has x es × (e ≡ g x)
unfolding mapped
mapped_has g [] e i = absurd i
mapped_has g (x ∷ es) e (inl q) = (x, inl refl, q)
mapped_has g (x ∷ es) e (inr i) = let (y, j, q) = mapped_has g es e i in (y, inr j, q)

pub one_differs : (k : ℕ) (es fs : List Entry) → mapped (mark_if k []) es ≡ mapped (mark_if k []) fs → Distinct (makers fs)
    → (e x : Entry) → Has e es → Has x fs → e.made ≡ x.made → (e.mark ≡ x.mark → ⊥) → e.made ≡ k
unfolding mark_if
one_differs k es fs h alone e x p c q d =
    let g : Entry → Entry = mark_if k [] in
    ⊎_elim
    (λ (z : e.made ≡ k). z)
    (λ (z : e.made ≡ k → ⊥).
    let (y, j, w) = mapped_has g fs (g e) (subst (λ (l : List Entry). Has (g e) l) h (has_mapped g es e p)) in
    let u : y ≡ x = distinct_made fs alone y x j c (ap (λ (v : Entry). v.made) (sym w) ∙ q) in
    let v : e ≡ x = sym (mark_other k [] e z) ∙ w ∙ ap g u ∙ mark_other k [] x (λ b. z (q ∙ b)) in
    absurd (d (ap (λ (b : Entry). b.mark) v)))
    (eq_or_ne e.made k)
