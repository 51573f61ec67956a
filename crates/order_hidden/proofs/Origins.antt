-- The last contents record of an entry as one record leaves it, and the last place record; what a store, a rename and a move that fit have
-- seen.
-- Assumes nothing.
use Prim.Native.Nat.{ℕ, ◌≤◌, ◌<◌}
use native.Mathlib.Omega.{arith}
use mathlib.Core.Path.{◌≡◌, refl, sym, ap, ◌∙◌, subst}
use mathlib.Core.Bool.{Bool, true, false, cond}
use mathlib.Core.Logic.{◌⊎◌, inl, inr, ⊎_elim}
use mathlib.Core.Option.{Option, none, some}
use mathlib.Core.List.{List, [], ◌∷◌, ◌++◌}
use lib.Dec.{eqb}
use Rattle.byte_slice.proofs.Numbers.{eq_or_ne}
use Rattle.model.specs.Record.{Rec, op, self_of, object_of, folder_of, label_of}
use Rattle.model.specs.Replay.{Entry, Tree, Verdict, fits, aside, is_present, entry_of, holder_of, unseen, and_then, free_label, folder_stands, judge_place, judge_store, judge_rename, judge_move, judge, new_entry, stored, renamed, moved, removed, changed, step}
use Rattle.tree_laws.specs.Replayed.{Has, Distinct, makers}
use Rattle.tree_laws.specs.Places.{Placing}
use Rattle.tree_laws.proofs.Steps.{effect_elim, step_elim}
use Rattle.tree_laws.proofs.Verdicts.{judge_store_lem, judge_rename_lem, judge_move_lem}
use Rattle.tree_laws.proofs.Roots.{none_some, some_same, entry_made, entry_in_lem, Same, unchanged, entry_other, entry_same, entry_gone, entry_last}
use Rattle.tree_laws.proofs.Places.{place_step}
use Rattle.order_hidden.specs.Hidden.{Storing}

-- the record r fits and is what the field h of the entry k, which is then x, names; or the field is as it was
abbrev pub Origin : (Entry → ℕ) → (ℕ → Rec → Type 0) → Tree → Rec → ℕ → Entry → Type 0
Origin h Sets t r k x =
    ((judge r t ≡ fits) × Sets k r × (h x ≡ self_of r))
    ⊎ ((e : Entry) × (entry_of k t.entries ≡ some e) × (h x ≡ h e) × (judge r t ≡ fits → Sets k r → ⊥))

-- ---- stores

no_storing : (k : ℕ) (r : Rec) → 3 < op r → Storing k r → ⊥
no_storing k r o (inl a) = omega (arith, a.0)
no_storing k r o (inr a) = omega (arith, a.0)

-- an entry of a changed list is the changed one, or stood there before
changed_back : (g : Entry → Entry) → Same g → ((e : Entry) → is_present e ≡ true → is_present (g e) ≡ true) → (k j : ℕ) (es : List Entry) (x : Entry) → entry_of j (changed g k es) ≡ some x
    → ((j ≡ k) × ((e : Entry) × (entry_of j es ≡ some e) × (x ≡ g e))) ⊎ ((j ≡ k → ⊥) × (entry_of j es ≡ some x))
changed_back g h p k j es x q =
    ⊎_elim
    (λ (y : j ≡ k). inl (y, go y (entry_of k es) refl))
    (λ (y : j ≡ k → ⊥). inr (y, sym (entry_other g h k j y es) ∙ q))
    (eq_or_ne j k)
  where
    go : j ≡ k → (o : Option Entry) → entry_of k es ≡ o → (e : Entry) × (entry_of j es ≡ some e) × (x ≡ g e)
    go y none z =
        let a : changed g k es ≡ es = unchanged g k es z in
        none_some (sym z ∙ ap (λ (v : ℕ). entry_of v es) (sym y) ∙ ap (entry_of j) (sym a) ∙ q)
    go y (some e) z =
        let a = entry_same g h k es e z (p e (entry_made k es e z).1) in
        (e, ap (λ (v : ℕ). entry_of v es) y ∙ z, some_same (sym q ∙ ap (λ (v : ℕ). entry_of v (changed g k es)) y ∙ a))

module _ (t : Tree) (r : Rec) (alone : Distinct (makers t.entries)) (fresh : Has (self_of r) (makers t.entries) → ⊥) (k : ℕ) (x : Entry) where
  abbrev Left : Type 0
  Left = Origin (λ (e : Entry). e.contents) Storing t r k x

  same : entry_of k t.entries ≡ some x → (judge r t ≡ fits → Storing k r → ⊥) → Left
  same q n = inr (x, q, refl, n)

  made : op r ≤ 2 → judge r t ≡ fits → entry_of k (t.entries ++ (new_entry r ∷ [])) ≡ some x → Left
  unfolding new_entry
  made o h q =
      ⊎_elim
      (λ y.
      same y (λ _ p.
      ⊎_elim
      (λ a. fresh (subst (λ (z : ℕ). Has z (makers t.entries)) (sym a.1) (entry_in_lem k t.entries x y)))
      (λ a. omega (arith, a.0))
      p))
      (λ y. inl (h, inl (o, y.1), ap (λ (e : Entry). e.contents) y.0))
      (entry_last k t.entries (new_entry r) x q)

  store_there : (e : Entry) → is_present e ≡ true → is_present (stored r e) ≡ true
  unfolding is_present stored
  store_there e p = p

  was_stored : op r ≡ 3 → judge r t ≡ fits → entry_of k (changed (stored r) (object_of r) t.entries) ≡ some x → Left
  unfolding stored
  was_stored o h q =
      ⊎_elim
      (λ y. let (e, z, a) = y.1 in inl (h, inr (o, sym y.0), ap (λ (v : Entry). v.contents) a))
      (λ y. same y.1 (λ _ p. ⊎_elim (λ a. omega (arith, a.0)) (λ a. y.0 (sym a.1)) p))
      (changed_back (stored r) (λ e. refl) store_there (object_of r) k t.entries x q)

  gone : (e : Entry) → is_present (removed e) ≡ false
  unfolding is_present removed
  gone e = refl

  was_removed : op r ≡ 4 → entry_of k (changed removed (object_of r) t.entries) ≡ some x → Left
  unfolding removed
  was_removed o q =
      ⊎_elim
      (λ (y : k ≡ object_of r).
      none_some (sym (entry_gone removed (λ e. refl) gone (object_of r) t.entries alone) ∙ ap (λ (v : ℕ). entry_of v (changed removed (object_of r) t.entries)) (sym y) ∙ q))
      (λ (y : k ≡ object_of r → ⊥). same (sym (entry_other removed (λ e. refl) (object_of r) k y t.entries) ∙ q) (λ _ p. no_storing k r (omega arith) p))
      (eq_or_ne k (object_of r))

  -- renamed or moved
  elsewhere : (g : Entry → Entry) → Same g → ((e : Entry) → (g e).contents ≡ e.contents) → ((e : Entry) → is_present e ≡ true → is_present (g e) ≡ true) → 3 < op r
      → entry_of k (changed g (object_of r) t.entries) ≡ some x → Left
  elsewhere g s c there o q =
      ⊎_elim
      (λ y. let (e, z, a) = y.1 in inr (e, z, ap (λ (v : Entry). v.contents) a ∙ c e, λ _ p. no_storing k r o p))
      (λ y. same y.1 (λ _ p. no_storing k r o p))
      (changed_back g s there (object_of r) k t.entries x q)

  rename_there : (e : Entry) → is_present e ≡ true → is_present (renamed r e) ≡ true
  unfolding is_present renamed
  rename_there e p = p

  was_renamed : op r ≡ 5 → entry_of k (changed (renamed r) (object_of r) t.entries) ≡ some x → Left
  unfolding renamed
  was_renamed o q = elsewhere (renamed r) (λ e. refl) (λ e. refl) rename_there (omega arith) q

  move_there : (e : Entry) → is_present e ≡ true → is_present (moved r e) ≡ true
  unfolding is_present moved
  move_there e p = p

  was_moved : 6 < op r → entry_of k (changed (moved r) (object_of r) t.entries) ≡ some x → Left
  unfolding moved
  was_moved o q = elsewhere (moved r) (λ e. refl) (λ e. refl) move_there (omega arith) q

  -- what one record leaves of the contents of an entry
  pub contents_step : entry_of k (step t r).entries ≡ some x → Origin (λ (e : Entry). e.contents) Storing t r k x
  contents_step =
      let P : Tree → Type 0 = λ (y : Tree). entry_of k y.entries ≡ some x → Origin (λ (e : Entry). e.contents) Storing t r k x in
      step_elim P t r
      (λ h. effect_elim P r t
      (λ o q. made o h q)
      (λ o q. was_stored o h q)
      (λ o q. was_removed o q)
      (λ o q. was_renamed o q)
      (λ o q. same q (λ _ p. no_storing k r (omega arith) p))
      (λ o q. was_moved o q))
      (λ n m h q. same q (λ f _. absurd (let z : ◌≡◌ {A = ℕ} 0 1 = cc in omega arith)))

  pub placing_step : entry_of k (step t r).entries ≡ some x → Origin (λ (e : Entry). e.placing) Placing t r k x
  placing_step q = ⊎_elim (λ p. inl (p.fit, p.places, p.last)) (λ p. inr (p.was, p.there, p.last, p.unplaced)) (place_step t r alone fresh k x q)

-- ---- what a record that fits has seen

-- a test that would put the record aside does not hold
passed : (b : Bool) (n k : ℕ) (v : Verdict) → cond b (aside n k) v ≡ fits → (b ≡ false) × (v ≡ fits)
passed true n k v f = absurd (let z : ◌≡◌ {A = ℕ} 0 1 = cc in omega arith)
passed false n k v f = (refl, f)

-- the entry k, and that r has seen the record that its field h names
abbrev pub SeenLast : (Entry → ℕ) → Tree → Rec → ℕ → Type 0
SeenLast h t r k = (e : Entry) × (entry_of k t.entries ≡ some e) × (unseen r (h e) ≡ false)

module _ (t : Tree) (r : Rec) (k : ℕ) where
  stored_on : (o : Option Entry) → entry_of k t.entries ≡ o → judge_store r o ≡ fits → SeenLast (λ (e : Entry). e.contents) t r k
  unfolding judge_store
  stored_on none q f = absurd (let z : ◌≡◌ {A = ℕ} 0 1 = cc in omega arith)
  stored_on (some e) q f =
      let g = (passed (eqb e.kind 1) 14 e.made (cond (unseen r e.contents) (aside 17 e.made) fits) f).1 in
      (e, q, (passed (unseen r e.contents) 17 e.made fits g).0)

  renamed_on_lem : (o : Option Entry) → entry_of k t.entries ≡ o → judge_rename r t.entries o ≡ fits → SeenLast (λ (e : Entry). e.placing) t r k
  unfolding judge_rename
  renamed_on_lem none q f = absurd (let z : ◌≡◌ {A = ℕ} 0 1 = cc in omega arith)
  renamed_on_lem (some e) q f =
      (e, q, (passed (unseen r e.placing) 17 e.made (free_label (holder_of e.made e.inside (label_of r) t.entries)) f).0)

  moved_on_lem : (o : Option Entry) → entry_of k t.entries ≡ o → judge_move r t.entries o ≡ fits → SeenLast (λ (e : Entry). e.placing) t r k
  unfolding judge_move
  moved_on_lem none q f = absurd (let z : ◌≡◌ {A = ℕ} 0 1 = cc in omega arith)
  moved_on_lem (some e) q f =
      (e, q, (passed (unseen r e.placing) 17 e.made (and_then (folder_stands (folder_of r) t.entries) (judge_place r t.entries e)) f).0)

  pub store_saw : judge r t ≡ fits → Storing k r → 2 < op r → SeenLast (λ (e : Entry). e.contents) t r k
  store_saw f (inl a) o = absurd (omega (arith, a.0))
  store_saw f (inr a) o =
      stored_on (entry_of k t.entries) refl (ap (λ (j : ℕ). judge_store r (entry_of j t.entries)) (sym a.1) ∙ sym (judge_store_lem r t a.0) ∙ f)

  pub place_saw : judge r t ≡ fits → Placing k r → 2 < op r → SeenLast (λ (e : Entry). e.placing) t r k
  place_saw f (inl a) o = absurd (omega (arith, a.0))
  place_saw f (inr (inl p, q)) o =
      renamed_on_lem (entry_of k t.entries) refl (ap (λ (j : ℕ). judge_rename r t.entries (entry_of j t.entries)) (sym q) ∙ sym (judge_rename_lem r t p) ∙ f)
  place_saw f (inr (inr p, q)) o =
      moved_on_lem (entry_of k t.entries) refl (ap (λ (j : ℕ). judge_move r t.entries (entry_of j t.entries)) (sym q) ∙ sym (judge_move_lem r t p) ∙ f)

-- a make of its own entry, or a change of another
pub storing_makes : (k : ℕ) (r : Rec) → Storing k r → ((op r ≤ 2) × (self_of r ≡ k)) ⊎ (2 < op r)
storing_makes k r (inl a) = inl a
storing_makes k r (inr a) = inr (omega (arith, a.0))

pub placing_makes : (k : ℕ) (r : Rec) → Placing k r → ((op r ≤ 2) × (self_of r ≡ k)) ⊎ (2 < op r)
placing_makes k r (inl a) = inl a
placing_makes k r (inr (inl p, q)) = inr (omega arith)
placing_makes k r (inr (inr p, q)) = inr (omega arith)
