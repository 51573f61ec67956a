-- Rows of removed entries decide nothing: a tree without them is judged alike, and the same records leave the same of both.
-- Assumes nothing.
use Prim.Native.Nat.{ℕ, zero, suc}
use native.Mathlib.Omega.{arith}
use mathlib.Core.Path.{◌≡◌, refl, sym, ap, ◌∙◌}
use mathlib.Core.Logic.{◌⊎◌, inl, inr, ⊎_elim}
use mathlib.Core.Bool.{Bool, true, false, cond, ◌&&◌, ◌||◌}
use mathlib.Core.Option.{Option, none, some}
use mathlib.Core.List.{List, [], ◌∷◌, ◌++◌}
use lib.Dec.{eqb}
use lib.ListN.{length}
use Rattle.model.specs.Record.{Rec, root, self_of, object_of, folder_of, label_of}
use Rattle.model.specs.Replay.{Entry, Aside, Tree, is_present, is_in, entry_of, is_holder, holder_of, has_entries, folder_stands, comes_to, is_below, judge_place, new_entry, stored, renamed, moved, removed, changed, settled, effect, judge, judge_make, judge_remove, judge_rename, judge_move, step, replay_from, replay, empty_tree, present_ones, trim}
use Rattle.model.specs.Table.{table_bytes}
use Rattle.byte_slice.proofs.Numbers.{bool_cases, and_wrong, not_both}
use Rattle.tree_laws.proofs.Steps.{step_elim, step_fits, step-aside, effect_elim, effect_make, effect_store, effect_remove, effect_rename, effect_settle, effect_move}
use Rattle.tree_laws.proofs.Settling.{replay-append}
use Rattle.tree_laws.proofs.Roots.{present_few, comes_way, way_comes, comes_few}

-- ---- what is present

present_yes : (e : Entry) (l : List Entry) → is_present e ≡ true → present_ones (e ∷ l) ≡ e ∷ present_ones l
unfolding present_ones
present_yes e l q = rw q

present_no : (e : Entry) (l : List Entry) → is_present e ≡ false → present_ones (e ∷ l) ≡ present_ones l
unfolding present_ones
present_no e l q = rw q

pub present_again : (l : List Entry) → present_ones (present_ones l) ≡ present_ones l
unfolding present_ones
present_again [] = refl
present_again (e ∷ l) =
    ⊎_elim
    (λ q. ap present_ones (present_yes e l q) ∙ present_yes e (present_ones l) q ∙ ap (λ (x : List Entry). e ∷ x) (present_again l) ∙ sym (present_yes e l q))
    (λ q. ap present_ones (present_no e l q) ∙ present_again l ∙ sym (present_no e l q))
    (bool_cases (is_present e))

present_append : (a b : List Entry) → present_ones (a ++ b) ≡ present_ones a ++ present_ones b
unfolding present_ones
present_append [] b = refl
present_append (e ∷ a) b =
    ⊎_elim
    (λ q. present_yes e (a ++ b) q ∙ ap (λ (x : List Entry). e ∷ x) (present_append a b) ∙ sym (ap (λ (x : List Entry). x ++ present_ones b) (present_yes e a q)))
    (λ q. present_no e (a ++ b) q ∙ present_append a b ∙ sym (ap (λ (x : List Entry). x ++ present_ones b) (present_no e a q)))
    (bool_cases (is_present e))

-- ---- looking up passes over what is absent

pub entry_present : (k : ℕ) (l : List Entry) → entry_of k (present_ones l) ≡ entry_of k l
unfolding entry_of present_ones
entry_present k [] = refl
entry_present k (e ∷ l) =
    ⊎_elim
    (λ q. ap (entry_of k) (present_yes e l q) ∙ ap (λ (x : Option Entry). cond (eqb e.made k && is_present e) (some e) x) (entry_present k l))
    (λ q. ap (entry_of k) (present_no e l q) ∙ entry_present k l ∙ rw (q, and_wrong (eqb e.made k)))
    (bool_cases (is_present e))

holder_present : (k f : ℕ) (t : List ℕ) (l : List Entry) → holder_of k f t (present_ones l) ≡ holder_of k f t l
unfolding holder_of present_ones is_holder is_in
holder_present k f t [] = refl
holder_present k f t (e ∷ l) =
    ⊎_elim
    (λ q. ap (holder_of k f t) (present_yes e l q) ∙ ap (λ (x : Option Entry). cond (is_holder k f t e) (some e) x) (holder_present k f t l))
    (λ q. ap (holder_of k f t) (present_no e l q) ∙ holder_present k f t l ∙ rw q)
    (bool_cases (is_present e))

entries_present : (f : ℕ) (l : List Entry) → has_entries f (present_ones l) ≡ has_entries f l
unfolding has_entries present_ones is_in
entries_present f [] = refl
entries_present f (e ∷ l) =
    ⊎_elim
    (λ q. ap (has_entries f) (present_yes e l q) ∙ ap (λ (x : Bool). is_in f e || x) (entries_present f l))
    (λ q. ap (has_entries f) (present_no e l q) ∙ entries_present f l ∙ rw q)
    (bool_cases (is_present e))

comes_present : (n k f : ℕ) (l : List Entry) → comes_to n k f (present_ones l) ≡ comes_to n k f l
unfolding comes_to
comes_present zero k f l = refl
comes_present (suc n) k f l = rw (entry_present f l) (go (entry_of f l) (λ g. comes_present n k g.inside l))
  where
    go : (o : Option Entry) → ((g : Entry) → comes_to n k g.inside (present_ones l) ≡ comes_to n k g.inside l)
        → (eqb f k || elim o [ none ↦ false | some g ↦ comes_to n k g.inside (present_ones l) ]) ≡ (eqb f k || elim o [ none ↦ false | some g ↦ comes_to n k g.inside l ])
    go none h = refl
    go (some g) h = ap (λ (x : Bool). eqb f k || x) (h g)

-- the steps that are asked for are fewer without the rows of removed entries, and enough
below_present : (k f : ℕ) (l : List Entry) → is_below k f (present_ones l) ≡ is_below k f l
unfolding is_below
below_present k f l = comes_present (suc (length (present_ones l))) k f l ∙ same (bool_cases few) (bool_cases many)
  where
    few : Bool
    few = comes_to (suc (length (present_ones l))) k f l

    many : Bool
    many = comes_to (suc (length l)) k f l

    more : few ≡ true → many ≡ true
    more h = let (s, w, b) = comes_way l (suc (length (present_ones l))) k f h in way_comes l (suc (length l)) s k f w (omega (arith, present_few l))

    same : (few ≡ true) ⊎ (few ≡ false) → (many ≡ true) ⊎ (many ≡ false) → few ≡ many
    same (inl a) b = a ∙ sym (more a)
    same (inr a) (inl b) = absurd (not_both few (comes_few l k (suc (length l)) f b) a)
    same (inr a) (inr b) = a ∙ sym b

-- so does the judgement
pub judge-trim : (r : Rec) (t : Tree) → judge r (trim t) ≡ judge r t
unfolding judge trim judge_make judge_remove judge_rename judge_move judge_place folder_stands
judge-trim r t =
    let es : List Entry = t.entries in
    rw (entry_present (folder_of r) es, holder_present root (folder_of r) (label_of r) es, entry_present (object_of r) es, remove (entry_of (object_of r) es), rename (entry_of (object_of r) es), move (entry_of (object_of r) es))
  where
    remove : (o : Option Entry) → judge_remove r (present_ones t.entries) o ≡ judge_remove r t.entries o
    remove none = refl
    remove (some e) = rw (entries_present e.made t.entries)

    rename : (o : Option Entry) → judge_rename r (present_ones t.entries) o ≡ judge_rename r t.entries o
    rename none = refl
    rename (some e) = rw (holder_present e.made e.inside (label_of r) t.entries)

    move : (o : Option Entry) → judge_move r (present_ones t.entries) o ≡ judge_move r t.entries o
    move none = refl
    move (some e) = rw (entry_present (folder_of r) t.entries, below_present e.made (folder_of r) t.entries, holder_present e.made (folder_of r) (label_of r) t.entries)

-- ---- a change of an entry that is present

changed_absent : (f : Entry → Entry) (k : ℕ) (e : Entry) (l : List Entry) → is_present e ≡ false → changed f k (e ∷ l) ≡ e ∷ changed f k l
unfolding changed
changed_absent f k e l q = rw (q, and_wrong (eqb e.made k))

changed_present : (f : Entry → Entry) (k : ℕ) (l : List Entry) → present_ones (changed f k (present_ones l)) ≡ present_ones (changed f k l)
unfolding changed present_ones
changed_present f k [] = refl
changed_present f k (e ∷ l) =
    ⊎_elim
    (λ q. ap (λ (x : List Entry). present_ones (changed f k x)) (present_yes e l q) ∙ there q (bool_cases (eqb e.made k)) (changed_present f k l))
    (λ q. ap (λ (x : List Entry). present_ones (changed f k x)) (present_no e l q) ∙ changed_present f k l ∙ sym (present_no e (changed f k l) q) ∙ ap present_ones (sym (changed_absent f k e l q)))
    (bool_cases (is_present e))
  where
    keep : (x : Entry) (a b : List Entry) → present_ones a ≡ present_ones b → present_ones (x ∷ a) ≡ present_ones (x ∷ b)
    keep x a b z = rw z

    there : is_present e ≡ true → (eqb e.made k ≡ true) ⊎ (eqb e.made k ≡ false)
        → present_ones (changed f k (present_ones l)) ≡ present_ones (changed f k l) → present_ones (changed f k (e ∷ present_ones l)) ≡ present_ones (changed f k (e ∷ l))
    there q (inl z) ih = rw (z, q) (keep (f e) (present_ones l) l (present_again l))
    there q (inr z) ih = rw z (keep e (changed f k (present_ones l)) (changed f k l) ih)

-- ---- one record, and all

trees : (a b : List Entry) (s : List Aside) → present_ones a ≡ present_ones b → trim (record { entries = a; asides = s }) ≡ trim (record { entries = b; asides = s })
unfolding trim
trees a b s e = rw e

pub step-trim : (t : Tree) (r : Rec) → trim (step (trim t) r) ≡ trim (step t r)
unfolding trim
step-trim t r =
    step_elim (λ (x : Tree). trim (step (trim t) r) ≡ trim x) t r
    (λ e. ap trim (step_fits (trim t) r (judge-trim r t ∙ e)) ∙ same)
    (λ n k e. ap trim (step-aside (trim t) r n k (judge-trim r t ∙ e)) ∙ trees (present_ones es) es (t.asides ++ (record { who = self_of r; reason = n; marked = k; is_open = true } ∷ [])) (present_again es))
  where
    es : List Entry
    es = t.entries

    change : (f : Entry → Entry) → trim (record { entries = changed f (object_of r) (present_ones es); asides = t.asides }) ≡ trim (record { entries = changed f (object_of r) es; asides = t.asides })
    change f = trees (changed f (object_of r) (present_ones es)) (changed f (object_of r) es) t.asides (changed_present f (object_of r) es)

    same : trim (effect r (trim t)) ≡ trim (effect r t)
    same =
        effect_elim (λ (x : Tree). trim (effect r (trim t)) ≡ trim x) r t
        (λ h. ap trim (effect_make r (trim t) h) ∙ trees (present_ones es ++ (new_entry r ∷ [])) (es ++ (new_entry r ∷ [])) t.asides
        (present_append (present_ones es) (new_entry r ∷ []) ∙ ap (λ (x : List Entry). x ++ present_ones (new_entry r ∷ [])) (present_again es) ∙ sym (present_append es (new_entry r ∷ []))))
        (λ h. ap trim (effect_store r (trim t) h) ∙ change (stored r))
        (λ h. ap trim (effect_remove r (trim t) h) ∙ change removed)
        (λ h. ap trim (effect_rename r (trim t) h) ∙ change (renamed r))
        (λ h. ap trim (effect_settle r (trim t) h) ∙ trees (present_ones es) es (settled (object_of r) t.asides) (present_again es))
        (λ h. ap trim (effect_move r (trim t) h) ∙ change (moved r))

pub trim_again : (t : Tree) → trim (trim t) ≡ trim t
unfolding trim
trim_again t = rw (present_again t.entries)

-- what shows alike before shows alike after
pub replay-alike : (l : List Rec) (a b : Tree) → trim a ≡ trim b → trim (replay_from a l) ≡ trim (replay_from b l)
unfolding replay_from
replay-alike [] a b e = e
replay-alike (r ∷ l) a b e =
    replay-alike l (step a r) (step b r) (sym (step-trim a r) ∙ ap (λ (t : Tree). trim (step t r)) e ∙ step-trim b r)

pub table-trim : (t : Tree) → table_bytes (trim t) ≡ table_bytes t
unfolding table_bytes trim
table-trim t = rw (present_again t.entries)

-- the replay from the tree of the first records, without rows of removed entries, shows what the replay of all shows
pub from_base : (p l : List Rec) → trim (replay_from (trim (replay p)) l) ≡ trim (replay (p ++ l))
unfolding replay
from_base p l =
    replay-alike l (trim (replay_from empty_tree p)) (replay_from empty_tree p) (trim_again (replay_from empty_tree p))
    ∙ ap trim (sym (replay-append empty_tree p l))

pub shown_from_base : (p l : List Rec) → table_bytes (replay_from (trim (replay p)) l) ≡ table_bytes (replay (p ++ l))
shown_from_base p l =
    sym (table-trim (replay_from (trim (replay p)) l)) ∙ ap table_bytes (from_base p l) ∙ table-trim (replay (p ++ l))
