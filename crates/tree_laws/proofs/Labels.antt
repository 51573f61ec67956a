-- No two entries that are present have one label in one folder, so the holder of a label is the one that is found.
-- Assumes nothing.
use Prim.Native.Nat.{ℕ}
use mathlib.Core.Path.{◌≡◌, refl, sym, ap, ◌∙◌}
use mathlib.Core.Bool.{Bool, true, false, not, ◌&&◌, false≢true}
use mathlib.Core.Logic.{◌⊎◌, inl, inr, ⊎_elim}
use mathlib.Core.Option.{Option, none, some}
use mathlib.Core.List.{List, [], ◌∷◌, ◌++◌}
use native.Mathlib.Omega.{arith}
use lib.Dec.{eqb}
use borrow.Author.Tests.{eqb-true, eqb-false, eq-eqb, ne_eqb, not-true}
use Rattle.byte_slice.proofs.Numbers.{bool_cases, cond_cases, and_true, true_and, not_both, test_false}
use Rattle.record_label.proofs.Same.{same_key, key_same}
use Rattle.model.specs.Record.{Rec, root, op, object_of, folder_of, label_of}
use Rattle.model.specs.Replay.{Entry, Tree, fits, aside, is_present, label_key, same_label, entry_of, is_in, is_holder, holder_of, Verdict, free_label, and_then, folder_stands, is_below, judge_place, judge_make, judge_rename, judge_move, unseen, judge, new_entry, stored, renamed, moved, removed, changed, step, replay_from}
use Rattle.tree_laws.specs.Replayed.{Has, Distinct, makers}
use Rattle.tree_laws.proofs.Verdicts.{judge_make_lem, judge_rename_lem, judge_move_lem}
use Rattle.tree_laws.proofs.Steps.{effect_elim, step_elim, step_fits, effect_rename}

pub holds_from : (k f : ℕ) (t : List ℕ) (e : Entry) → is_holder k f t e ≡ true → (is_present e ≡ true) × (e.inside ≡ f) × (label_key e.label ≡ label_key t) × (e.made ≡ k → ⊥)
unfolding is_holder is_in
holds_from k f t e h =
    let (a, b) = and_true (is_present e && eqb e.inside f) (not (eqb e.made k) && same_label e.label t) h in
    let (c, d) = and_true (is_present e) (eqb e.inside f) a in
    let (m, g) = and_true (not (eqb e.made k)) (same_label e.label t) b in
    (c, eqb-true e.inside f d, same_key e.label t g, eqb-false e.made k (not-true (eqb e.made k) m))

from_holds : (k f : ℕ) (t : List ℕ) (e : Entry) → is_present e ≡ true → e.inside ≡ f → label_key e.label ≡ label_key t → (e.made ≡ k → ⊥) → is_holder k f t e ≡ true
unfolding is_holder is_in
from_holds k f t e a b c d =
    true_and (is_present e && eqb e.inside f) (not (eqb e.made k) && same_label e.label t)
    (true_and (is_present e) (eqb e.inside f) a (eq-eqb e.inside f b))
    (rw (ne_eqb e.made k d) (key_same e.label t c))

-- ---- a free label

-- no entry but k holds the label
Free : ℕ → ℕ → List ℕ → List Entry → Type 0
Free k f t es = (e : Entry) → Has e es → is_holder k f t e ≡ false

holder_free : (k f : ℕ) (t : List ℕ) (es : List Entry) → holder_of k f t es ≡ none → Free k f t es
unfolding Free holder_of
holder_free k f t [] h e i = absurd i
holder_free k f t (x ∷ es) h e i =
    ⊎_elim
    (λ c. absurd (let z : ◌≡◌ {A = ℕ} 0 1 = cc in omega arith))
    (λ c.
    ⊎_elim
    (λ (q : e ≡ x). rw q c.0)
    (λ j. holder_free k f t es (sym c.1 ∙ h) e j)
    i)
    (cond_cases (is_holder k f t x) (some x) (holder_of k f t es))

free_fits : (o : Option Entry) → free_label o ≡ fits → o ≡ none
unfolding free_label
free_fits none h = refl
free_fits (some e) h = absurd (let z : ◌≡◌ {A = ℕ} 0 1 = cc in omega arith)

-- ---- labels that differ

has_snoc : (es : List Entry) (n x : Entry) → Has x (es ++ (n ∷ [])) → Has x es ⊎ (x ≡ n)
has_snoc [] n x (inl q) = inr q
has_snoc [] n x (inr i) = absurd i
has_snoc (e ∷ es) n x (inl q) = inl (inl q)
has_snoc (e ∷ es) n x (inr i) = ⊎_elim (λ j. inl (inr j)) (λ q. inr q) (has_snoc es n x i)

-- two of two identities, neither the root's, are present in one folder under one label
pub record Clash (e x : Entry) : Type 0 where
  pub here : is_present e ≡ true
  pub there : is_present x ≡ true
  pub folder : x.inside ≡ e.inside
  pub key : label_key x.label ≡ label_key e.label
  pub two : x.made ≡ e.made → ⊥
  pub first : e.made ≡ root → ⊥
  pub second : x.made ≡ root → ⊥

-- no two that stand apart in the list clash
abbrev pub Apart : List Entry → Type 0
Apart [] = Unit {0}
Apart (e ∷ l) = ((x : Entry) → Has x l → Clash e x → ⊥) × Apart l

apart-append : (es : List Entry) (n : Entry) → Apart es → ((e : Entry) → Has e es → Clash e n → ⊥) → Apart (es ++ (n ∷ []))
apart-append [] n a h = (λ x i. absurd i, tt)
apart-append (e ∷ es) n a h = (λ x i c. ⊎_elim (λ j. a.0 x j c) (λ (q : x ≡ n). h e (inl refl) (rw q at c)) (has_snoc es n x i), apart-append es n a.1 (λ x i. h x (inr i)))

-- changing x to g x makes no clash
Safe : (Entry → Entry) → Entry → List Entry → Type 0
Safe g x es =
    ((e : Entry) → Has e es → (Clash e x → ⊥) → Clash e (g x) → ⊥)
    × ((e : Entry) → Has e es → (Clash x e → ⊥) → Clash (g x) e → ⊥)

has_changed : (g : Entry → Entry) (k : ℕ) (es : List Entry) (e : Entry) → Has e (changed g k es)
    → Has e es ⊎ ((x : Entry) × (entry_of k es ≡ some x) × Has x es × (e ≡ g x))
unfolding changed entry_of
has_changed g k [] e i = absurd i
has_changed g k (x ∷ es) e i =
    ⊎_elim
    (λ (c : (eqb x.made k && is_present x) ≡ true). rw c (head c (rw c at i)))
    (λ (c : (eqb x.made k && is_present x) ≡ false). rw c (later c (λ j. has_changed g k es e j) (rw c at i)))
    (bool_cases (eqb x.made k && is_present x))
  where
    head : (eqb x.made k && is_present x) ≡ true → (e ≡ g x) ⊎ Has e es → Has e (x ∷ es) ⊎ ((y : Entry) × (some x ≡ some y) × Has y (x ∷ es) × (e ≡ g y))
    head c (inl q) = inr (x, refl, inl refl, q)
    head c (inr j) = inl (inr j)

    later : (eqb x.made k && is_present x) ≡ false
        → (Has e (changed g k es) → Has e es ⊎ ((y : Entry) × (entry_of k es ≡ some y) × Has y es × (e ≡ g y)))
        → (e ≡ x) ⊎ Has e (changed g k es)
        → Has e (x ∷ es) ⊎ ((y : Entry) × (entry_of k es ≡ some y) × Has y (x ∷ es) × (e ≡ g y))
    later c rec' (inl q) = inl (inl q)
    later c rec' (inr j) = ⊎_elim (λ m. inl (inr m)) (λ m. inr (m.0, m.1, inr m.2, m.3)) (rec' j)

apart-changed : (g : Entry → Entry) (k : ℕ) (es : List Entry) → Apart es → ((x : Entry) → entry_of k es ≡ some x → Safe g x es) → Apart (changed g k es)
unfolding changed entry_of Safe
apart-changed g k [] a s = tt
apart-changed g k (e ∷ es) a s =
    ⊎_elim
    (λ (c : (eqb e.made k && is_present e) ≡ true).
    rw c (λ x i. (s e (rw c)).1 x (inr i) (a.0 x i), a.1))
    (λ (c : (eqb e.made k && is_present e) ≡ false).
    let s' : (x : Entry) → entry_of k es ≡ some x → Safe g x (e ∷ es) = λ x q. s x (rw c q) in
    rw c (
      λ x i cl. ⊎_elim
          (λ j. a.0 x j cl)
          (λ m. let q : x ≡ g m.0 = m.3 in (s' m.0 m.1).0 e (inl refl) (a.0 m.0 m.2) (rw q at cl))
          (has_changed g k es x i),
      apart-changed g k es a.1 (λ x q. (λ y i. (s' x q).0 y (inr i), λ y i. (s' x q).1 y (inr i))),
    ))
    (bool_cases (eqb e.made k && is_present e))

-- ---- each record keeps the labels apart

then_fits : (x y : Verdict) → and_then x y ≡ fits → y ≡ fits
unfolding and_then
then_fits fits y h = h
then_fits (aside n k) y h = absurd (let z : ◌≡◌ {A = ℕ} 0 1 = cc in omega arith)

make_free : (r : Rec) (es : List Entry) → judge_make r es ≡ fits → holder_of root (folder_of r) (label_of r) es ≡ none
unfolding judge_make
make_free r es h =
    let o = holder_of root (folder_of r) (label_of r) es in
    free_fits o (then_fits (folder_stands (folder_of r) es) (free_label o) h)

place_free : (r : Rec) (es : List Entry) (x : Entry) → judge_place r es x ≡ fits → holder_of x.made (folder_of r) (label_of r) es ≡ none
unfolding judge_place
place_free r es x h =
    let o = holder_of x.made (folder_of r) (label_of r) es in
    ⊎_elim
    (λ c. absurd (let z : ◌≡◌ {A = ℕ} 0 1 = cc in omega arith))
    (λ c. free_fits o (sym c.1 ∙ h))
    (cond_cases (is_below x.made (folder_of r) es) (aside 25 x.made) (free_label o))

move_free : (r : Rec) (es : List Entry) (x : Entry) → judge_move r es (some x) ≡ fits → holder_of x.made (folder_of r) (label_of r) es ≡ none
unfolding judge_move
move_free r es x h =
    let v = and_then (folder_stands (folder_of r) es) (judge_place r es x) in
    ⊎_elim
    (λ c. absurd (let z : ◌≡◌ {A = ℕ} 0 1 = cc in omega arith))
    (λ c. place_free r es x (then_fits (folder_stands (folder_of r) es) (judge_place r es x) (sym c.1 ∙ h)))
    (cond_cases (unseen r x.placing) (aside 17 x.made) v)

rename_free : (r : Rec) (es : List Entry) (x : Entry) → judge_rename r es (some x) ≡ fits → holder_of x.made x.inside (label_of r) es ≡ none
unfolding judge_rename
rename_free r es x h =
    ⊎_elim
    (λ c. absurd (let z : ◌≡◌ {A = ℕ} 0 1 = cc in omega arith))
    (λ c. free_fits (holder_of x.made x.inside (label_of r) es) (sym c.1 ∙ h))
    (cond_cases (unseen r x.placing) (aside 17 x.made) (free_label (holder_of x.made x.inside (label_of r) es)))

-- an entry put where its label is free but for itself clashes with none
safe_put : (g : Entry → Entry) (x : Entry) (es : List Entry) → (g x).made ≡ x.made → Free x.made (g x).inside (g x).label es → Safe g x es
unfolding Safe Free
safe_put g x es m f = (
  λ e i n c. not_both (is_holder x.made (g x).inside (g x).label e) (from_holds x.made (g x).inside (g x).label e c.here (sym c.folder) (sym c.key) (λ (z : e.made ≡ x.made). c.two (m ∙ sym z))) (f e i),
  λ e i n c. not_both (is_holder x.made (g x).inside (g x).label e) (from_holds x.made (g x).inside (g x).label e c.there c.folder c.key (λ (z : e.made ≡ x.made). c.two (z ∙ sym m))) (f e i),
)

-- an entry that keeps its identity, folder and label clashes with no more than before
safe_kept : (g : Entry → Entry) (x : Entry) (es : List Entry) → is_present (g x) ≡ is_present x → (g x).made ≡ x.made → (g x).inside ≡ x.inside → (g x).label ≡ x.label → Safe g x es
unfolding Safe
safe_kept g x es p m f t = (
  λ e i n c. n (record { here = c.here; there = sym p ∙ c.there; folder = sym f ∙ c.folder; key = rw t at c.key; two = rw m at c.two; first = c.first; second = rw m at c.second }),
  λ e i n c. n (record { here = sym p ∙ c.here; there = c.there; folder = c.folder ∙ f; key = rw t at c.key; two = rw m at c.two; first = rw m at c.first; second = c.second }),
)

pub apart-step : (t : Tree) (r : Rec) → Apart t.entries → Apart (step t r).entries
unfolding new_entry stored removed renamed moved is_present Safe Free
apart-step t r a =
    let es : List Entry = t.entries in
    step_elim (λ (x : Tree). Apart x.entries) t r
    (λ h. effect_elim (λ (x : Tree). Apart x.entries) r t
    (λ o.
    let f : Free root (folder_of r) (label_of r) es = holder_free root (folder_of r) (label_of r) es (make_free r es (sym (judge_make_lem r t o) ∙ h)) in
    apart-append es (new_entry r) a
    (λ e i c. not_both (is_holder root (folder_of r) (label_of r) e) (from_holds root (folder_of r) (label_of r) e c.here (sym c.folder) (sym c.key) c.first) (f e i)))
    (λ o. apart-changed (stored r) (object_of r) es a (λ x q. safe_kept (stored r) x es refl refl refl refl))
    (λ o. apart-changed removed (object_of r) es a (λ x q. (λ e i n c. false≢true c.there, λ e i n c. false≢true c.here)))
    (λ o.
    apart-changed (renamed r) (object_of r) es a
    (λ x q. safe_put (renamed r) x es refl (holder_free x.made x.inside (label_of r) es (rename_free r es x (ap (judge_rename r es) (sym q) ∙ sym (judge_rename_lem r t o) ∙ h)))))
    (λ o. a)
    (λ o.
    apart-changed (moved r) (object_of r) es a
    (λ x q. safe_put (moved r) x es refl (holder_free x.made (folder_of r) (label_of r) es (move_free r es x (ap (judge_move r es) (sym q) ∙ sym (judge_move_lem r t o) ∙ h))))))
    (λ n k h. a)

pub apart-replay : (t : Tree) (l : List Rec) → Apart t.entries → Apart (replay_from t l).entries
unfolding replay_from
apart-replay t [] a = a
apart-replay t (r ∷ l) a = apart-replay (step t r) l (apart-step t r a)

-- ---- the holder

pub has_made : (es : List Entry) (e : Entry) → Has e es → Has e.made (makers es)
unfolding makers
has_made [] e i = absurd i
has_made (x ∷ es) e (inl q) = inl (ap (λ (y : Entry). y.made) q)
has_made (x ∷ es) e (inr j) = inr (has_made es e j)

-- no two entries have one identity, and none has the root's
pub record Named (es : List Entry) : Type 0 where
  pub once : Distinct (makers es)
  pub none-root : (e : Entry) → Has e es → e.made ≡ root → ⊥

pub the_holder : (es : List Entry) → Apart es → Named es → (e : Entry) → Has e es → is_present e ≡ true → holder_of root e.inside e.label es ≡ some e
unfolding holder_of makers
the_holder [] a d e i p = absurd i
the_holder (x ∷ es) a d e (inl q) p =
    let t : is_holder root e.inside e.label x ≡ true =
    from_holds root e.inside e.label x (ap is_present (sym q) ∙ p) (ap (λ (y : Entry). y.inside) (sym q)) (ap (λ (y : Entry). label_key y.label) (sym q)) (d.none-root x (inl refl)) in
    rw t (ap {B = Option Entry} some (sym q))
the_holder (x ∷ es) a d e (inr j) p =
    ⊎_elim
    (λ (c : is_holder root e.inside e.label x ≡ true).
    let (u, v, w, _) = holds_from root e.inside e.label x c in
    absurd (a.0 e j (record {
      here = u;
      there = p;
      folder = sym v;
      key = sym w;
      two = λ (z : e.made ≡ x.made). d.once.0 (rw z at (has_made es e j));
      first = d.none-root x (inl refl);
      second = d.none-root e (inr j);
    })))
    (λ (c : is_holder root e.inside e.label x ≡ false). rw c (the_holder es a.1 (record { once = d.once.1; none-root = λ y i. d.none-root y (inr i) }) e j p))
    (bool_cases (is_holder root e.inside e.label x))

pub holder_key : (k f : ℕ) (t u : List ℕ) → label_key t ≡ label_key u → (es : List Entry) → holder_of k f t es ≡ holder_of k f u es
unfolding holder_of is_holder same_label
holder_key k f t u e [] = refl
holder_key k f t u e (x ∷ es) = rw (e, holder_key k f t u e es)

-- two present entries of one folder and label, in capitals or small letters, are one
pub one_label : (es : List Entry) → Apart es → Named es → (e x : Entry) → Has e es → Has x es → is_present e ≡ true → is_present x ≡ true → x.inside ≡ e.inside → label_key x.label ≡ label_key e.label → e ≡ x
one_label es a d e x i j p q u v =
    let g : holder_of root x.inside x.label es ≡ some x = the_holder es a d x j q in
    let h : holder_of root e.inside x.label es ≡ some x = ap (λ (y : ℕ). holder_of root y x.label es) (sym u) ∙ g in
    let f : some e ≡ some x = sym (the_holder es a d e i p) ∙ sym (holder_key root e.inside x.label e.label v es) ∙ h in
    cc

-- ---- its own label is free for an entry, in capitals or small letters

entry_has : (k : ℕ) (es : List Entry) (e : Entry) → entry_of k es ≡ some e → Has e es × (is_present e ≡ true)
unfolding entry_of
entry_has k [] e h = absurd (let z : ◌≡◌ {A = ℕ} 0 1 = cc in omega arith)
entry_has k (x ∷ es) e h =
    ⊎_elim
    (λ c. let q : e ≡ x = cc in (inl q, rw q (and_true (eqb x.made k) (is_present x) c.0).1))
    (λ c. let (i, p) = entry_has k es e (sym c.1 ∙ h) in (inr i, p))
    (cond_cases (eqb x.made k && is_present x) (some x) (entry_of k es))

holder_none : (k f : ℕ) (t : List ℕ) (es : List Entry) → Free k f t es → holder_of k f t es ≡ none
unfolding Free holder_of
holder_none k f t [] h = refl
holder_none k f t (x ∷ es) h = rw (h x (inl refl)) (holder_none k f t es (λ e i. h e (inr i)))

own_free : (es : List Entry) → Apart es → Named es → (e : Entry) → Has e es → is_present e ≡ true → (t : List ℕ) → label_key t ≡ label_key e.label → holder_of e.made e.inside t es ≡ none
unfolding Free
own_free es a d e i p t q =
    holder_none e.made e.inside t es
    (λ x j.
    test_false (is_holder e.made e.inside t x)
    (λ h.
    let (u, v, w, n) = holds_from e.made e.inside t x h in
    let z : e ≡ x = one_label es a d e x i j p u v (w ∙ q) in
    n (ap (λ (y : Entry). y.made) (sym z))))

pub own_label : (r : Rec) (t : Tree) → Apart t.entries → Named t.entries → (e : Entry) → op r ≡ 5 → entry_of (object_of r) t.entries ≡ some e → unseen r e.placing ≡ false
    → label_key (label_of r) ≡ label_key e.label → judge r t ≡ fits
unfolding judge_rename free_label
own_label r t a d e o q s k =
    let (i, p) = entry_has (object_of r) t.entries e q in
    judge_rename_lem r t o ∙ rw (q, s, own_free t.entries a d e i p (label_of r) k)

-- ---- and it is the last place record from then on

changed_finds : (g : Entry → Entry) (k : ℕ) (es : List Entry) (e : Entry) → entry_of k es ≡ some e → (g e).made ≡ e.made → is_present (g e) ≡ is_present e
    → entry_of k (changed g k es) ≡ some (g e)
unfolding entry_of changed
changed_finds g k [] e h m p = absurd (let z : ◌≡◌ {A = ℕ} 0 1 = cc in omega arith)
changed_finds g k (x ∷ es) e h m p =
    ⊎_elim
    (λ (c : (eqb x.made k && is_present x) ≡ true).
    let s : some x ≡ some e = rw c at h in
    let q : x ≡ e = cc in
    let u : (eqb e.made k && is_present e) ≡ true = ap (λ (y : Entry). eqb y.made k && is_present y) (sym q) ∙ c in
    let v : (eqb (g e).made k && is_present (g e)) ≡ true =
    ap (λ (n : ℕ). eqb n k && is_present (g e)) m ∙ ap (λ (b : Bool). eqb e.made k && b) p ∙ u in
    let d : (eqb (g x).made k && is_present (g x)) ≡ true = ap (λ (y : Entry). eqb (g y).made k && is_present (g y)) q ∙ v in
    rw (c, d) (ap (λ (y : Entry). some (g y)) q))
    (λ (c : (eqb x.made k && is_present x) ≡ false). rw (c, c) (changed_finds g k es e (rw c at h) m p))
    (bool_cases (eqb x.made k && is_present x))

-- a rename that fits is the last place record of its object, and its label is the object's
pub rename_is_last : (r : Rec) (t : Tree) (e : Entry) → op r ≡ 5 → entry_of (object_of r) t.entries ≡ some e → judge r t ≡ fits
    → entry_of (object_of r) (step t r).entries ≡ some (renamed r e)
unfolding renamed is_present
rename_is_last r t e o q h =
    rw (step_fits t r h, effect_rename r t o) (changed_finds (renamed r) (object_of r) t.entries e q refl refl)
