-- Another mark for one entry: which judgements and steps it changes, and which entries.
-- Assumes nothing.
use Prim.Native.Nat.{ℕ}
use mathlib.Core.Path.{◌≡◌, refl, sym, ap, ◌∙◌, subst}
use mathlib.Core.Bool.{Bool, true, false, cond, ◌&&◌}
use mathlib.Core.Logic.{inl, inr, ⊎_elim}
use mathlib.Core.Option.{Option, none, some}
use mathlib.Core.List.{List, [], ◌∷◌}
use lib.Dec.{eqb}
use borrow.Author.Tests.{eqb-true, eq-eqb, ne_eqb}
use Rattle.byte_slice.proofs.Numbers.{bool_cases, and_true, true_and, and_wrong}
use Rattle.model.specs.Record.{Rec, op, object_of}
use Rattle.model.specs.Replay.{Entry, Tree, fits, aside, is_present, entry_of, judge_store, judge, stored, changed, step, is_disputed, present_ones}
use Rattle.tree_laws.specs.Replayed.{Has, Distinct, makers, mapped, mapped_tree}
use Rattle.tree_laws.proofs.Steps.{step_fits, effect_store}
use Rattle.tree_laws.proofs.Verdicts.{judge_store_lem}
use Rattle.tree_laws.proofs.Roots.{none_some, some_same, aside_fits_lem, entry_made, entry_in_lem}
use Rattle.tree_laws.proofs.Dates.{kept}
use Rattle.tree_laws.proofs.Blind.{Telling, Settles, blind, over, entry-map, judge-map, present_map}
use Rattle.mark_laws.specs.Marks.{mark_if, mark_tree, SameButMarkOf}

-- the mark v for the entry k
unfoldable pub given : ℕ → List ℕ → Telling
given k v j x = cond (eqb j k) v x

pub given_settles : (k : ℕ) (v : List ℕ) → Settles (given k v)
unfolding given
given_settles k v j x = go (eqb j k)
  where
    go : (b : Bool) → cond b v (cond b v x) ≡ cond b v x
    go true = refl
    go false = refl

-- ---- which entries

pub mark_other : (k : ℕ) (v : List ℕ) (e : Entry) → (e.made ≡ k → ⊥) → mark_if k v e ≡ e
unfolding mark_if
mark_other k v e d = rw (ne_eqb e.made k d)

mark_own : (k : ℕ) (e : Entry) → mark_if k e.mark e ≡ e
unfolding mark_if
mark_own k e = go (eqb e.made k)
  where
    go : (b : Bool)
        → ◌≡◌ {A = Entry} (record { made = e.made; kind = e.kind; inside = e.inside; label = e.label; contents = e.contents; date = e.date; mark = cond b e.mark e.mark; placing = e.placing }) e
    go true = refl
    go false = refl

-- a store whose object is not there does not fit
no_object_lem : {A : Type 0} {k : ℕ} (q : Rec) (t : Tree) → op q ≡ 3 → object_of q ≡ k → entry_of k t.entries ≡ none → judge q t ≡ fits → A
unfolding judge_store
no_object_lem q t o p y f =
    let z : judge q t ≡ aside 12 0 = judge_store_lem q t o ∙ rw (p, y) in
    aside_fits_lem (sym z ∙ f)

module _ (k : ℕ) (v : List ℕ) where
  abbrev g : Entry → Entry
  g = mark_if k v

  pub mark_none : (es : List Entry) → (Has k (makers es) → ⊥) → mapped g es ≡ es
  unfolding mapped makers
  mark_none [] d = refl
  mark_none (e ∷ es) d = λ i. mark_other k v e (λ q. d (inl (sym q))) i ∷ mark_none es (λ j. d (inr j)) i

  pub blind_to_marks : (q : Rec) (t : Tree) → judge q (mark_tree k v t) ≡ judge q t
  unfolding mark_tree mark_if blind kept given
  blind_to_marks q t = judge-map kept (given k v) q t

  pub makers_mark : (es : List Entry) → makers (mapped g es) ≡ makers es
  unfolding mapped makers mark_if
  makers_mark [] = refl
  makers_mark (e ∷ es) = ap (λ (l : List ℕ). e.made ∷ l) (makers_mark es)

  pub mark_present : (es : List Entry) → present_ones (mapped g es) ≡ mapped g (present_ones es)
  unfolding mark_if blind kept given
  mark_present es = present_map kept (given k v) es

  -- a store on the entry k that fits gives it a mark of its own
  stored_over : (q : Rec) (es : List Entry) → Distinct (makers es) → (e : Entry) → entry_of k es ≡ some e → changed (stored q) k (mapped g es) ≡ changed (stored q) k es
  unfolding changed mapped makers entry_of mark_if stored is_present
  stored_over q [] d e y = none_some y
  stored_over q (x ∷ es) d e y =
      ⊎_elim
      (λ (z : (eqb x.made k && is_present x) ≡ true).
      let m : x.made ≡ k = eqb-true x.made k (and_true (eqb x.made k) (is_present x) z).0 in
      rw z (ap (λ (l : List Entry). stored q x ∷ l) (mark_none es (λ i. d.0 (subst (λ (a : ℕ). Has a (makers es)) (sym m) i)))))
      (λ (z : (eqb x.made k && is_present x) ≡ false).
      let y₁ : entry_of k es ≡ some e = rw z at y in
      let m : x.made ≡ k → ⊥ = λ (p : x.made ≡ k). d.0 (subst (λ (a : ℕ). Has a (makers es)) (sym p) (entry_in_lem k es e y₁)) in
      rw z (λ i. mark_other k v x m i ∷ stored_over q es d.1 e y₁ i))
      (bool_cases (eqb x.made k && is_present x))

  pub store_over : (t : Tree) (q : Rec) → Distinct (makers t.entries) → op q ≡ 3 → object_of q ≡ k → judge q t ≡ fits → step (mark_tree k v t) q ≡ step t q
  unfolding mark_tree mapped_tree
  store_over t q alone o p f =
      step_fits (mark_tree k v t) q (blind_to_marks q t ∙ f)
      ∙ effect_store q (mark_tree k v t) o
      ∙ rw p (λ i. record { entries = go (entry_of k t.entries) refl i; asides = t.asides })
      ∙ sym (effect_store q t o)
      ∙ sym (step_fits t q f)
    where
      go : (x : Option Entry) → entry_of k t.entries ≡ x → changed (stored q) k (mapped g t.entries) ≡ changed (stored q) k t.entries
      go (some e) y = stored_over q t.entries alone e y
      go none y = no_object_lem q t o p y f

  -- where the entry k is not there, the entries shown are the same
  pub shown_none : (es : List Entry) → entry_of k es ≡ none → mapped g (present_ones es) ≡ present_ones es
  unfolding present_ones mapped entry_of
  shown_none [] y = refl
  shown_none (e ∷ es) y =
      ⊎_elim
      (λ (z : is_present e ≡ true).
      let m : e.made ≡ k → ⊥ = λ (p : e.made ≡ k).
      let b : (eqb e.made k && is_present e) ≡ true = true_and (eqb e.made k) (is_present e) (eq-eqb e.made k p) z in
      none_some (sym (rw b at y)) in
      let y₁ : entry_of k es ≡ none = rw (ne_eqb e.made k m) at y in
      rw z (λ i. mark_other k v e m i ∷ shown_none es y₁ i))
      (λ (z : is_present e ≡ false).
      let y₁ : entry_of k es ≡ none = rw (z, and_wrong (eqb e.made k)) at y in
      rw z (shown_none es y₁))
      (bool_cases (is_present e))

-- ---- trees that are equal once the entry k has one mark in both

module _ (k : ℕ) (t u : Tree) (h : (v : List ℕ) → mark_tree k v t ≡ mark_tree k v u) where
  entries_mark : (v : List ℕ) → mapped (mark_if k v) t.entries ≡ mapped (mark_if k v) u.entries
  unfolding mark_tree mapped_tree
  entries_mark v = ap (λ (x : Tree). x.entries) (h v)

  asides_same : t.asides ≡ u.asides
  unfolding mark_tree mapped_tree
  asides_same = ap (λ (x : Tree). x.asides) (h [])

  marked : List ℕ → Option Entry → Option Entry
  unfolding mark_if blind kept given
  marked v = over kept (given k v)

  find_mark : (v : List ℕ) (j : ℕ) (es : List Entry) → entry_of j (mapped (mark_if k v) es) ≡ marked v (entry_of j es)
  unfolding marked mark_if blind kept given
  find_mark v j es = entry-map kept (given k v) j es

  find_same : (v : List ℕ) (j : ℕ) → marked v (entry_of j t.entries) ≡ marked v (entry_of j u.entries)
  find_same v j = sym (find_mark v j t.entries) ∙ ap (entry_of j) (entries_mark v) ∙ find_mark v j u.entries

  marked_other : (j : ℕ) → (j ≡ k → ⊥) → (es : List Entry) → marked [] (entry_of j es) ≡ entry_of j es
  unfolding marked over mark_if blind kept given
  marked_other j d es = go (entry_of j es) refl
    where
      go : (o : Option Entry) → entry_of j es ≡ o → marked [] o ≡ o
      go none y = refl
      go (some e) y = ap some (mark_other k [] e (λ q. d (sym (entry_made j es e y).0 ∙ q)))

  itself_same : (x : Entry) → entry_of k u.entries ≡ some x → (e : Entry) × (entry_of k t.entries ≡ some e) × (mark_if k x.mark e ≡ x)
  unfolding marked over mark_if blind kept given
  itself_same x y =
      go (entry_of k t.entries) refl (find_same x.mark k ∙ ap (marked x.mark) y ∙ ap some (mark_own k x))
    where
      go : (o : Option Entry) → entry_of k t.entries ≡ o → marked x.mark o ≡ some x → (e : Entry) × (entry_of k t.entries ≡ some e) × (mark_if k x.mark e ≡ x)
      go none z w = none_some w
      go (some e) z w = (e, z, some_same w)

  pub same_but_mark : SameButMarkOf k t u
  same_but_mark =
      record {
        asides = asides_same;
        disputes = λ j. ap (is_disputed j) asides_same;
        entries = entries_mark;
        others = λ j d. sym (marked_other j d t.entries) ∙ find_same [] j ∙ marked_other j d u.entries;
        itself = itself_same;
      }

  pub judged_same : (q : Rec) → judge q t ≡ judge q u
  judged_same q = sym (blind_to_marks k [] q t) ∙ ap (judge q) (h []) ∙ blind_to_marks k [] q u

  -- a store on the entry k that fits leaves the same tree of both
  pub stored_same : (q : Rec) → Distinct (makers t.entries) → op q ≡ 3 → object_of q ≡ k → judge q t ≡ fits → step t q ≡ step u q
  stored_same q alone o p f =
      let m : makers t.entries ≡ makers u.entries = sym (makers_mark k [] t.entries) ∙ ap makers (entries_mark []) ∙ makers_mark k [] u.entries in
      sym (store_over k [] t q alone o p f)
      ∙ ap (λ (x : Tree). step x q) (h [])
      ∙ store_over k [] u q (subst Distinct m alone) o p (sym (judged_same q) ∙ f)

  -- where the entry k is not there, both show the same entries
  pub removed_same : entry_of k t.entries ≡ none → present_ones t.entries ≡ present_ones u.entries
  removed_same y =
      sym (shown_none k [] t.entries y)
      ∙ sym (present_mark t.entries)
      ∙ ap present_ones (entries_mark [])
      ∙ present_mark u.entries
      ∙ shown_none k [] u.entries (gone (entry_of k u.entries) refl)
    where
      present_mark : (es : List Entry) → present_ones (mapped (mark_if k []) es) ≡ mapped (mark_if k []) (present_ones es)
      present_mark es = mark_present k [] es

      gone : (o : Option Entry) → entry_of k u.entries ≡ o → entry_of k u.entries ≡ none
      gone none z = z
      gone (some x) z = let (e, w, _) = itself_same x z in none_some (sym y ∙ w)
