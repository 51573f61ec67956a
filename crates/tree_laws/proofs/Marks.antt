-- A reason marks an entry of the tree, or none.
-- Assumes nothing.
use Prim.Native.Nat.{ℕ}
use mathlib.Core.Path.{◌≡◌, refl}
use mathlib.Core.Logic.{◌⊎◌, inl, inr}
use mathlib.Core.Bool.{Bool, cond, ◌&&◌, ◌||◌}
use mathlib.Core.Option.{Option, none, some}
use mathlib.Core.List.{List, [], ◌∷◌}
use lib.Dec.{leb, eqb}
use Rattle.model.specs.Record.{Rec, root, op, object_of, folder_of, label_of}
use Rattle.model.specs.Replay.{Entry, Aside, Tree, Verdict, fits, aside, is_present, is_holder, entry_of, holder_of, has_entries, stands_aside, unseen, free_label, and_then, is_folder, folder_stands, is_below, judge_place, judge_make, judge_store, judge_remove, judge_rename, judge_move, judge_settle, judge}
use Rattle.log_laws.proofs.Members.{All}
use Rattle.tree_laws.proofs.Steps.{cond_elim}

-- no mark, or one as said
abbrev pub Marks : (ℕ → Type 0) → Verdict → Type 0
Marks P fits = Unit {0}
Marks P (aside n k) = (k ≡ 0) ⊎ P k

module _ (P : ℕ → Type 0) where
  abbrev Found : Option Entry → Type 0
  Found none = Unit {0}
  Found (some e) = P e.made

  abbrev Every : List Entry → Type 0
  Every es = All (λ (e : Entry). P e.made) es

  entry_found : (k : ℕ) (es : List Entry) → Every es → Found (entry_of k es)
  unfolding entry_of
  entry_found k [] a = tt
  entry_found k (e ∷ es) a =
      cond_elim (λ (o : Option Entry). Found o) (eqb e.made k && is_present e) (some e) (entry_of k es) (λ _. a.0) (λ _. entry_found k es a.1)

  holder_found : (k f : ℕ) (t : List ℕ) (es : List Entry) → Every es → Found (holder_of k f t es)
  unfolding holder_of
  holder_found k f t [] a = tt
  holder_found k f t (e ∷ es) a =
      cond_elim (λ (o : Option Entry). Found o) (is_holder k f t e) (some e) (holder_of k f t es) (λ _. a.0) (λ _. holder_found k f t es a.1)

  mark_if_lem : (b : Bool) (x y : Verdict) → Marks P x → Marks P y → Marks P (cond b x y)
  mark_if_lem b x y p q = cond_elim (λ (v : Verdict). Marks P v) b x y (λ _. p) (λ _. q)

  mark_then : (x y : Verdict) → Marks P x → Marks P y → Marks P (and_then x y)
  unfolding and_then
  mark_then fits y p q = q
  mark_then (aside n k) y p q = p

  mark_free : (o : Option Entry) → Found o → Marks P (free_label o)
  unfolding free_label
  mark_free none h = tt
  mark_free (some e) h = inr h

  mark_folder : (o : Option Entry) → Found o → Marks P (is_folder o)
  unfolding is_folder
  mark_folder none h = inl refl
  mark_folder (some f) h = mark_if_lem (eqb f.kind 1) fits (aside 14 f.made) tt (inr h)

  mark_stands : (f : ℕ) (es : List Entry) → Every es → Marks P (folder_stands f es)
  unfolding folder_stands
  mark_stands f es a = mark_if_lem (eqb f root) fits (is_folder (entry_of f es)) tt (mark_folder (entry_of f es) (entry_found f es a))

  mark_holder : (k f : ℕ) (t : List ℕ) (es : List Entry) → Every es → Marks P (free_label (holder_of k f t es))
  mark_holder k f t es a = mark_free (holder_of k f t es) (holder_found k f t es a)

  mark_make : (r : Rec) (es : List Entry) → Every es → Marks P (judge_make r es)
  unfolding judge_make
  mark_make r es a =
      mark_then (folder_stands (folder_of r) es) (free_label (holder_of root (folder_of r) (label_of r) es)) (mark_stands (folder_of r) es a) (mark_holder root (folder_of r) (label_of r) es a)

  mark_store : (r : Rec) (o : Option Entry) → Found o → Marks P (judge_store r o)
  unfolding judge_store
  mark_store r none h = inl refl
  mark_store r (some e) h =
      mark_if_lem (eqb e.kind 1) (aside 14 e.made) (cond (unseen r e.contents) (aside 17 e.made) fits) (inr h)
      (mark_if_lem (unseen r e.contents) (aside 17 e.made) fits (inr h) tt)

  mark_remove : (r : Rec) (es : List Entry) (o : Option Entry) → Found o → Marks P (judge_remove r es o)
  unfolding judge_remove
  mark_remove r es none h = inl refl
  mark_remove r es (some e) h =
      let late = unseen r e.contents || unseen r e.placing in
      mark_if_lem (eqb e.kind 1 && has_entries e.made es) (aside 16 e.made) (cond late (aside 17 e.made) fits) (inr h)
      (mark_if_lem late (aside 17 e.made) fits (inr h) tt)

  mark_rename : (r : Rec) (es : List Entry) (o : Option Entry) → Every es → Found o → Marks P (judge_rename r es o)
  unfolding judge_rename
  mark_rename r es none a h = inl refl
  mark_rename r es (some e) a h =
      mark_if_lem (unseen r e.placing) (aside 17 e.made) (free_label (holder_of e.made e.inside (label_of r) es)) (inr h)
      (mark_holder e.made e.inside (label_of r) es a)

  mark_place : (r : Rec) (es : List Entry) (e : Entry) → Every es → P e.made → Marks P (judge_place r es e)
  unfolding judge_place
  mark_place r es e a h =
      mark_if_lem (is_below e.made (folder_of r) es) (aside 25 e.made) (free_label (holder_of e.made (folder_of r) (label_of r) es)) (inr h)
      (mark_holder e.made (folder_of r) (label_of r) es a)

  mark_move : (r : Rec) (es : List Entry) (o : Option Entry) → Every es → Found o → Marks P (judge_move r es o)
  unfolding judge_move
  mark_move r es none a h = inl refl
  mark_move r es (some e) a h =
      mark_if_lem (unseen r e.placing) (aside 17 e.made) (and_then (folder_stands (folder_of r) es) (judge_place r es e)) (inr h)
      (mark_then (folder_stands (folder_of r) es) (judge_place r es e) (mark_stands (folder_of r) es a) (mark_place r es e a h))

  mark_settle : (r : Rec) (l : List Aside) → Marks P (judge_settle r l)
  unfolding judge_settle
  mark_settle r l = mark_if_lem (stands_aside (object_of r) l) fits (aside 18 0) tt (inl refl)

  -- what holds of the identity of every entry holds of a mark
  pub judge_marks : (r : Rec) (t : Tree) → All (λ (e : Entry). P e.made) t.entries → Marks P (judge r t)
  unfolding judge
  judge_marks r t a =
      let es = t.entries in
      let o = entry_of (object_of r) es in
      let h = entry_found (object_of r) es a in
      let v5 = judge_move r es o in
      let v4 = cond (eqb (op r) 6) (judge_settle r t.asides) v5 in
      let v3 = cond (eqb (op r) 5) (judge_rename r es o) v4 in
      let v2 = cond (eqb (op r) 4) (judge_remove r es o) v3 in
      let v1 = cond (eqb (op r) 3) (judge_store r o) v2 in
      mark_if_lem (leb (op r) 2) (judge_make r es) v1 (mark_make r es a)
      (mark_if_lem (eqb (op r) 3) (judge_store r o) v2 (mark_store r o h)
      (mark_if_lem (eqb (op r) 4) (judge_remove r es o) v3 (mark_remove r es o h)
      (mark_if_lem (eqb (op r) 5) (judge_rename r es o) v4 (mark_rename r es o a h)
      (mark_if_lem (eqb (op r) 6) (judge_settle r t.asides) v5 (mark_settle r t.asides) (mark_move r es o a h)))))
