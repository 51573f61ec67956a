-- The tree tables of two such logs differ in the mark of one row alone.
-- Assumes nothing.
use Prim.Native.Nat.{ℕ, suc, ◌+◌, ◌*◌, ◌≤◌, ◌<◌}
use native.Mathlib.Omega.{arith}
use mathlib.Core.Path.{◌≡◌, refl, sym, ap, ◌∙◌, subst}
use mathlib.Core.Bool.{Bool, true, false, cond}
use mathlib.Core.Logic.{◌⊎◌, inl, inr, ⊎_elim}
use mathlib.Core.List.{List, [], ◌∷◌, ◌++◌, append_assoc}
use lib.Dec.{ltb, leb, eqb}
use lib.ListN.{length, replicate, length-append}
use borrow.Author.Tests.{eq-eqb, ne_eqb, le-leb, lt-leb, lt-ltb, le-ltb}
use Rattle.byte_slice.proofs.Numbers.{bool_cases, and_wrong, eq_or_ne}
use Rattle.model.specs.Record.{Rec}
use Rattle.model.specs.Replay.{Entry, Aside, Tree, is_present, empty_tree, replay, is_disputed, present_ones}
use Rattle.model.specs.Table.{identity_bytes, entry_row, table_bytes}
use Rattle.log_laws.specs.Sound.{Sound}
use Rattle.log_laws.proofs.Members.{All}
use Rattle.log_laws.proofs.Formed.{well_length}
use Rattle.log_laws.proofs.Counts.{formed}
use Rattle.tree_laws.specs.Replayed.{Has, Distinct, makers, mapped, hide_from}
use Rattle.tree_laws.proofs.Identities.{makers-distinct}
use Rattle.tree_laws.proofs.Seen.{sound_distinct}
use Rattle.tree_laws.proofs.Dates.{kept}
use Rattle.tree_laws.proofs.Blind.{blind}
use Rattle.tree_laws.proofs.Tables.{Filled, Hides, Within, hide_append, hide_keeps, hide_all, row-length, hidden_table, filled-replay, entries_few}
use Rattle.mark_laws.specs.Marks.{mark_if, mark_tree, row_of, mark_from, mark_to, is_mark_place, hide_mark}
use Rattle.mark_laws.proofs.Trees.{given, mark_other}

-- ---- the places of a mark

elsewhere : (n i : ℕ) → (i < 4 + 72 * n + mark_from) ⊎ (4 + 72 * n + mark_to ≤ i) → is_mark_place n i ≡ false
unfolding is_mark_place
elsewhere n i (inl h) = rw (lt-leb (4 + 72 * n + mark_from) i h)
elsewhere n i (inr h) = rw (le-ltb i (4 + 72 * n + mark_to) h) (and_wrong (leb (4 + 72 * n + mark_from) i))

there : (n i : ℕ) → n < 512 → 4 + 72 * n + mark_from ≤ i → i < 4 + 72 * n + mark_to → is_mark_place n i ≡ true
unfolding is_mark_place
there n i b h k = rw (le-leb (4 + 72 * n + mark_from) i h, lt-ltb i (4 + 72 * n + mark_to) k, lt-ltb i 73732 (omega arith))

mark_places : (n : ℕ) → Within (is_mark_place n)
unfolding is_mark_place
mark_places n =
    record {
      before = λ i h. elsewhere n i (inl (omega arith));
      behind = λ i h. rw (le-ltb i 73732 h, and_wrong (ltb i (4 + 72 * n + mark_to))) (and_wrong (leb (4 + 72 * n + mark_from) i));
    }

-- ---- rows

abbrev zeros : List ℕ
zeros = replicate 16 0

row_other : (n y d : ℕ) (e : Entry) → (n < y) ⊎ (y < n) → Filled e → hide_from (is_mark_place y) (4 + 72 * n) (entry_row d e) ≡ entry_row d e
row_other n y d e o f =
    hide_keeps (is_mark_place y) (4 + 72 * n) (entry_row d e) (λ j h.
    elsewhere y (4 + 72 * n + j)
    (⊎_elim (λ p. inl (omega (arith, row-length d e f))) (λ p. inr (omega (arith, row-length d e f))) o))

module _ (k : ℕ) (s : List Aside) where
  abbrev g : Entry → Entry
  g = mark_if k zeros

  row_own : (n d : ℕ) (e : Entry) → n < 512 → Filled e → e.made ≡ k → hide_from (is_mark_place n) (4 + 72 * n) (entry_row d e) ≡ entry_row d (g e)
  unfolding entry_row identity_bytes mark_if
  row_own n d e b (p, q, m) z =
      let i : ℕ = 4 + 72 * n in
      let f : List ℕ = (e.kind ∷ d ∷ 0 ∷ 0 ∷ []) ++ (identity_bytes e.made ++ (identity_bytes e.inside ++ (identity_bytes e.contents ++ identity_bytes e.placing))) in
      let t : List ℕ = f ++ (e.date ++ e.label) in
      let w : length t ≡ 56 = omega (arith, length-append e.date e.label) in
      let a : hide_from (is_mark_place n) (i + length t) e.mark ≡ zeros =
      hide_all (is_mark_place n) (i + length t) e.mark (λ j h. there n (i + length t + j) b (omega arith) (omega arith)) ∙ rw m in
      rw (eq-eqb e.made k z)
      (ap (λ (x : List ℕ). hide_from (is_mark_place n) i (f ++ x)) (sym (append_assoc e.date e.label e.mark))
      ∙ hide_append (is_mark_place n) i t e.mark
      ∙ (λ x. hide_keeps (is_mark_place n) i t (λ j h. elsewhere n (i + j) (inl (omega arith))) x ++ a x)
      ∙ ap (λ (x : List ℕ). f ++ x) (append_assoc e.date e.label zeros))

  -- rows behind that of the entry k
  rows_behind : (y n : ℕ) → y < n → (es : List Entry) → All Filled es → (Has k (makers es) → ⊥) → Hides (is_mark_place y) g s n (present_ones es)
  unfolding present_ones makers
  rows_behind y n h [] a d = tt
  rows_behind y n h (e ∷ es) a d =
      ⊎_elim
      (λ (c : is_present e ≡ true).
      let x : ℕ = cond (is_disputed e.made s) 1 0 in
      rw c (
        row_other n y x e (inr h) a.0 ∙ ap (entry_row x) (sym (mark_other k zeros e (λ z. d (inl (sym z))))),
        rows_behind y (suc n) (omega arith) es a.1 (λ i. d (inr i)),
      ))
      (λ (c : is_present e ≡ false). rw c (rows_behind y n h es a.1 (λ i. d (inr i))))
      (bool_cases (is_present e))

  rows_marked : (n : ℕ) (es : List Entry) → n + length (present_ones es) ≤ 512 → All Filled es → Distinct (makers es) → Hides (is_mark_place (n + row_of k es)) g s n (present_ones es)
  unfolding present_ones makers row_of
  rows_marked n [] b a d = tt
  rows_marked n (e ∷ es) b a d =
      ⊎_elim
      (λ (c : is_present e ≡ true).
      let x : ℕ = cond (is_disputed e.made s) 1 0 in
      let b₁ : n + suc (length (present_ones es)) ≤ 512 = rw c at b in
      ⊎_elim
      (λ (z : e.made ≡ k).
      let y : n + row_of k (e ∷ es) ≡ n = rw (c, eq-eqb e.made k z) (omega arith) in
      subst (λ (i : ℕ). Hides (is_mark_place i) g s n (present_ones (e ∷ es))) (sym y) (rw c (
        row_own n x e (omega arith) a.0 z,
        rows_behind n (suc n) (omega arith) es a.1 (λ i. d.0 (subst (λ (v : ℕ). Has v (makers es)) (sym z) i)),
      )))
      (λ (z : e.made ≡ k → ⊥).
      let y : n + row_of k (e ∷ es) ≡ suc n + row_of k es = rw (c, ne_eqb e.made k z) (omega arith) in
      subst (λ (i : ℕ). Hides (is_mark_place i) g s n (present_ones (e ∷ es))) (sym y) (rw c (
        row_other n (suc n + row_of k es) x e (inl (omega arith)) a.0 ∙ ap (entry_row x) (sym (mark_other k zeros e z)),
        rows_marked (suc n) es (omega arith) a.1 d.1,
      )))
      (eq_or_ne e.made k))
      (λ (c : is_present e ≡ false).
      let y : n + row_of k (e ∷ es) ≡ n + row_of k es = rw c in
      subst (λ (i : ℕ). Hides (is_mark_place i) g s n (present_ones (e ∷ es))) (sym y) (rw c (rows_marked n es (rw c at b) a.1 d.1)))
      (bool_cases (is_present e))

-- ---- tables

mark_hidden : (k : ℕ) (t : Tree) → All Filled t.entries → length (present_ones t.entries) ≤ 512 → Distinct (makers t.entries)
    → hide_mark (row_of k t.entries) (table_bytes t) ≡ table_bytes (mark_tree k zeros t)
unfolding hide_mark mark_tree mark_if blind kept given
mark_hidden k t a h d =
    let y : 0 + row_of k t.entries ≡ row_of k t.entries = omega arith in
    let r : Hides (is_mark_place (row_of k t.entries)) (mark_if k zeros) t.asides 0 (present_ones t.entries) =
    rw y at (rows_marked k t.asides 0 t.entries (omega arith) a d) in
    hidden_table (is_mark_place (row_of k t.entries)) kept (given k zeros) (λ e f. (f.0, f.1, long (eqb e.made k) e.mark f.2))
    (mark_places (row_of k t.entries)) t a h r
  where
    long : (b : Bool) (m : List ℕ) → length m ≡ 16 → length (cond b zeros m) ≡ 16
    long true m p = refl
    long false m p = p

pub log_hidden : (k : ℕ) (l : List Rec) → Sound l → length l ≤ 512 → hide_mark (row_of k (replay l).entries) (table_bytes (replay l)) ≡ table_bytes (mark_tree k zeros (replay l))
unfolding replay empty_tree
log_hidden k l h b =
    mark_hidden k (replay l) (filled-replay empty_tree l (λ r i. well_length r (formed [] l r h i)) tt)
    (omega (arith, entries_few l))
    (makers-distinct l (sound_distinct l h))

-- a mark moves no row
pub row_mark : (k : ℕ) (v : List ℕ) (es : List Entry) → row_of k (mapped (mark_if k v) es) ≡ row_of k es
unfolding row_of mapped mark_if is_present
row_mark k v [] = refl
row_mark k v (e ∷ es) = rw (row_mark k v es)
