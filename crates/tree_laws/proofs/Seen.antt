-- A record that has seen all that a tree names never stands aside under 17; in a sound log no identity stands twice.
-- Assumes nothing.
use Prim.Native.Nat.{ℕ, ◌+◌, ◌*◌, ◌/◌, ◌%◌, ◌<◌}
use mathlib.Core.Path.{◌≡◌, refl, sym, ◌∙◌}
use mathlib.Core.Bool.{true, false, ◌&&◌}
use mathlib.Core.Logic.{inl, inr, ⊎_elim, ◌↔◌}
use mathlib.Core.Option.{Option, none, some}
use mathlib.Core.List.{List, [], ◌∷◌, ◌++◌}
use native.Mathlib.Omega.{arith}
use lib.Dec.{eqb}
use lib.ListN.{length}
use borrow.Author.Tests.{le-ltb, lt-ltb}
use Rattle.byte_slice.proofs.Numbers.{cond_cases}
use Rattle.model.specs.Numbers.{full_log, malformed}
use Rattle.model.specs.Record.{Rec, identity, unit, num, self_of, object_of, folder_of, label_of, has_stroke}
use Rattle.model.specs.Log.{count, no_counts}
use Rattle.model.specs.Replay.{Entry, Tree, Verdict, fits, aside, is_present, entry_of, unseen, judge_make, judge_store, judge_remove, judge_rename, judge_move, judge_settle, judge_place, folder_stands, judge, new_entry, stored, renamed, moved, removed, changed, has_entries, holder_of, step, empty_tree, replay_from, replay, reason_of}
use Rattle.log_laws.specs.Members.{Has as Member}
use Rattle.log_laws.specs.Sound.{SoundAfter, Sound}
use Rattle.log_laws.proofs.Formed.{well_unit, well_own}
use Rattle.log_laws.proofs.Counts.{formed, unit_of_lem, number_held, numbers, count_own, no_counts_lem}
use Rattle.tree_laws.specs.Replayed.{Has, Distinct, selves}
use Rattle.tree_laws.proofs.Verdicts.{Under, OneOf, Reason, reason_range, judged, under_map, under_cond, under_free, under_then, under_stands, under_place, make_reasons, settle_reasons}
use Rattle.tree_laws.proofs.Steps.{cond_elim, effect_elim, step_elim}

-- ---- the records that a tree names

-- the last contents and place records of the entries are among the identities ks
abbrev pub Among : List ℕ → List Entry → Type 0
Among ks [] = Unit {0}
Among ks (e ∷ es) = (Has e.contents ks × Has e.placing ks) × Among ks es

among_append : (ks : List ℕ) (es : List Entry) (n : Entry) → Among ks es → Has n.contents ks → Has n.placing ks → Among ks (es ++ (n ∷ []))
among_append ks [] n a p q = ((p, q), tt)
among_append ks (e ∷ es) n a p q = (a.0, among_append ks es n a.1 p q)

among_changed : (ks : List ℕ) (g : Entry → Entry) → ((e : Entry) → Has e.contents ks × Has e.placing ks → Has (g e).contents ks × Has (g e).placing ks)
    → (k : ℕ) (es : List Entry) → Among ks es → Among ks (changed g k es)
unfolding changed
among_changed ks g h k [] a = tt
among_changed ks g h k (e ∷ es) a =
    cond_elim (Among ks) (eqb e.made k && is_present e) (g e ∷ es) (e ∷ changed g k es)
    (λ _. (h e a.0, a.1))
    (λ _. (a.0, among_changed ks g h k es a.1))

among_step : (ks : List ℕ) (t : Tree) (r : Rec) → Has (self_of r) ks → Among ks t.entries → Among ks (step t r).entries
unfolding new_entry stored renamed moved removed
among_step ks t r i a =
    let P : Tree → Type 0 = λ (x : Tree). Among ks x.entries in
    step_elim P t r
    (λ _. effect_elim P r t
    (λ _. among_append ks t.entries (new_entry r) a i i)
    (λ _. among_changed ks (stored r) (λ e b. (i, b.1)) (object_of r) t.entries a)
    (λ _. among_changed ks removed (λ e b. b) (object_of r) t.entries a)
    (λ _. among_changed ks (renamed r) (λ e b. (b.0, i)) (object_of r) t.entries a)
    (λ _. a)
    (λ _. among_changed ks (moved r) (λ e b. (b.0, i)) (object_of r) t.entries a))
    (λ n k _. a)

among_replay : (ks : List ℕ) (t : Tree) (l : List Rec) → ((k : ℕ) → Has k (selves l) → Has k ks) → Among ks t.entries → Among ks (replay_from t l).entries
unfolding replay_from selves
among_replay ks t [] h a = a
among_replay ks t (r ∷ l) h a = among_replay ks (step t r) l (λ k i. h k (inr i)) (among_step ks t r (h (self_of r) (inl refl)) a)

pub tree-names : (l : List Rec) → Among (selves l) (replay l).entries
unfolding replay empty_tree
tree-names l = among_replay (selves l) empty_tree l (λ k i. i) tt

-- ---- a record that has seen all of them

-- the identities ks are within what r has seen
abbrev pub HasSeen : Rec → List ℕ → Type 0
HasSeen r ks = (k : ℕ) → Has k ks → unseen r k ≡ false

among_entry : (ks : List ℕ) (k : ℕ) (es : List Entry) (e : Entry) → Among ks es → entry_of k es ≡ some e → Has e.contents ks × Has e.placing ks
unfolding entry_of
among_entry ks k [] e a h = absurd (let z : ◌≡◌ {A = ℕ} 0 1 = cc in omega arith)
among_entry ks k (x ∷ es) e a h =
    ⊎_elim
    (λ c. let q : e ≡ x = cc in rw q a.0)
    (λ c. among_entry ks k es e a.1 (sym c.1 ∙ h))
    (cond_cases (eqb x.made k && is_present x) (some x) (entry_of k es))

abbrev pub Not17 : ℕ → Type 0
Not17 n = n ≡ 17 → ⊥

module _ (r : Rec) (ks : List ℕ) (s : HasSeen r ks) where
  store_seen : (es : List Entry) → Among ks es → (o : Option Entry) → entry_of (object_of r) es ≡ o → Under Not17 (judge_store r o)
  unfolding judge_store
  store_seen es a none q = λ e. omega arith
  store_seen es a (some e) q =
      let b = among_entry ks (object_of r) es e a q in
      rw (s e.contents b.0) (under_cond Not17 (eqb e.kind 1) (aside 14 e.made) fits (λ z. omega arith) tt)

  remove_seen : (es : List Entry) → Among ks es → (o : Option Entry) → entry_of (object_of r) es ≡ o → Under Not17 (judge_remove r es o)
  unfolding judge_remove
  remove_seen es a none q = λ e. omega arith
  remove_seen es a (some e) q =
      let b = among_entry ks (object_of r) es e a q in
      rw (s e.contents b.0, s e.placing b.1)
      (under_cond Not17 (eqb e.kind 1 && has_entries e.made es) (aside 16 e.made) fits (λ z. omega arith) tt)

  rename_seen : (es : List Entry) → Among ks es → (o : Option Entry) → entry_of (object_of r) es ≡ o → Under Not17 (judge_rename r es o)
  unfolding judge_rename
  rename_seen es a none q = λ e. omega arith
  rename_seen es a (some e) q =
      let b = among_entry ks (object_of r) es e a q in
      rw (s e.placing b.1) (under_free Not17 (λ z. omega arith) (holder_of e.made e.inside (label_of r) es))

  move_seen : (es : List Entry) → Among ks es → (o : Option Entry) → entry_of (object_of r) es ≡ o → Under Not17 (judge_move r es o)
  unfolding judge_move
  move_seen es a none q = λ e. omega arith
  move_seen es a (some e) q =
      let b = among_entry ks (object_of r) es e a q in
      rw (s e.placing b.1)
      (under_then Not17 (folder_stands (folder_of r) es) (judge_place r es e) (under_stands Not17 (λ z. omega arith) (λ z. omega arith) (folder_of r) es)
      (under_place Not17 (λ z. omega arith) (λ z. omega arith) r es e))

  pub seen_never_17 : (t : Tree) → Among ks t.entries → Under Not17 (judge r t)
  seen_never_17 t a =
      let es : List Entry = t.entries in
      let o : Option Entry = entry_of (object_of r) es in
      judged Not17 r t
      (under_map (OneOf 13 14 15) Not17 (λ n q e. ⊎_elim (λ z. omega arith) (⊎_elim (λ z. omega arith) (λ z. omega arith)) q) (judge_make r es) (make_reasons r es))
      (store_seen es a o refl)
      (remove_seen es a o refl)
      (rename_seen es a o refl)
      (under_map (λ n. n ≡ 18) Not17 (λ n q e. omega arith) (judge_settle r t.asides) (settle_reasons r t.asides))
      (move_seen es a o refl)

-- ---- identities of a sound log

pub selves_member : (l : List Rec) (k : ℕ) → Has k (selves l) → (s : Rec) × Member s l × (k ≡ self_of s)
unfolding selves
selves_member [] k i = absurd i
selves_member (r ∷ l) k (inl e) = (r, inl refl, e)
selves_member (r ∷ l) k (inr i) = let (s, j, e) = selves_member l k i in (s, inr j, e)

-- in a sound log no record has the root's identity
pub self_no_root : (l : List Rec) → Sound l → (k : ℕ) → Has k (selves l) → k ≡ 0 → ⊥
unfolding self_of identity
self_no_root l h k i z =
    let (s, j, e) = selves_member l k i in
    omega (arith, well_own s (formed [] l s h j))

-- in a sound log no two records have one identity
distinct-after : (pre l : List Rec) → SoundAfter no_counts pre l → Distinct (selves l)
unfolding selves self_of identity
distinct-after pre [] h = tt
distinct-after pre (r ∷ l) h = (
  λ i.
      let (s, j, e) = selves_member l (8 * num r + unit r) i in
      let a : unit s < 8 = unit_of_lem (r ∷ pre) l s h.1 j in
      let b : unit r < 8 = well_unit r h.0.formed in
      let u : unit s ≡ unit r = omega arith in
      let c : count (unit s) (r ∷ pre) < num s = (numbers (r ∷ pre) l s h.1 j).0 in
      let d : count (unit r) (r ∷ pre) < num s = rw u at c in
      omega (arith, count_own r pre, h.0.next, no_counts_lem (unit r)),
  distinct-after (r ∷ pre) l h.1,
)

pub sound_distinct : (l : List Rec) → Sound l → Distinct (selves l)
sound_distinct l h = distinct-after [] l h
