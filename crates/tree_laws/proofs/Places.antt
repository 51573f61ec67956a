-- The last place record of an entry is its make or the last rename or move of it that fitted, and its label and folder are those given there.
-- Assumes nothing.
use Prim.Native.Nat.{ℕ, ◌≤◌, ◌<◌}
use native.Mathlib.Omega.{arith}
use mathlib.Core.Path.{◌≡◌, refl, sym, ap, ◌∙◌, subst}
use mathlib.Core.Bool.{Bool, true, false}
use mathlib.Core.Logic.{◌⊎◌, inl, inr, ⊎_elim}
use mathlib.Core.Option.{Option, none, some}
use mathlib.Core.List.{List, [], ◌∷◌, ◌++◌}
use Rattle.byte_slice.proofs.Numbers.{eq_or_ne}
use Rattle.model.specs.Record.{Rec, op, self_of, object_of, folder_of, label_of}
use Rattle.model.specs.Replay.{Entry, Tree, fits, aside, is_present, entry_of, judge, new_entry, stored, renamed, moved, removed, changed, step}
use Rattle.tree_laws.specs.Replayed.{Has, Distinct, makers}
use Rattle.tree_laws.specs.Places.{Placing, PlacedBy, PlaceKept}
use Rattle.tree_laws.proofs.Steps.{effect_elim, step_elim}
use Rattle.tree_laws.proofs.Roots.{none_some, some_same, entry_made, entry_in_lem, Same, unchanged, entry_other, entry_same, entry_gone, entry_last}

-- stores, removes and settles place nothing
low : (o : ℕ) → (o ≡ 3) ⊎ ((o ≡ 4) ⊎ (o ≡ 6)) → o ≤ 2 → ⊥
low o (inl e) h = omega arith
low o (inr (inl e)) h = omega arith
low o (inr (inr e)) h = omega arith

high : (o : ℕ) → (o ≡ 3) ⊎ ((o ≡ 4) ⊎ (o ≡ 6)) → (o ≡ 5) ⊎ (6 < o) → ⊥
high o (inl e) (inl h) = omega arith
high o (inl e) (inr h) = omega arith
high o (inr (inl e)) (inl h) = omega arith
high o (inr (inl e)) (inr h) = omega arith
high o (inr (inr e)) (inl h) = omega arith
high o (inr (inr e)) (inr h) = omega arith

no_placing : (k : ℕ) (r : Rec) → (op r ≡ 3) ⊎ ((op r ≡ 4) ⊎ (op r ≡ 6)) → Placing k r → ⊥
no_placing k r o (inl (a, _)) = low (op r) o a
no_placing k r o (inr (a, _)) = high (op r) o a

-- an entry of a changed list is the changed one, or stood there before
changed_back : (g : Entry → Entry) → Same g → ((e : Entry) → is_present e ≡ true → is_present (g e) ≡ true) → (k j : ℕ) (es : List Entry) (x : Entry) → entry_of j (changed g k es) ≡ some x
    → ((j ≡ k) × ((e : Entry) × (entry_of j es ≡ some e) × (x ≡ g e))) ⊎ ((j ≡ k → ⊥) × (entry_of j es ≡ some x))
changed_back g h p k j es x q =
    ⊎_elim
    (λ (y : j ≡ k). inl (y, go y (entry_of k es) refl))
    (λ (y : j ≡ k → ⊥). inr (y, sym (entry_other g h k j y es) ∙ q))
    (eq_or_ne j k)
  where
    go : j ≡ k → (o : Option Entry) → entry_of k es ≡ o → (e : Entry) × (entry_of j es ≡ some e) × (x ≡ g e)
    go y none z =
        let a : changed g k es ≡ es = unchanged g k es z in
        none_some (sym z ∙ ap (λ (v : ℕ). entry_of v es) (sym y) ∙ ap (entry_of j) (sym a) ∙ q)
    go y (some e) z =
        let a = entry_same g h k es e z (p e (entry_made k es e z).1) in
        (e, ap (λ (v : ℕ). entry_of v es) y ∙ z, some_same (sym q ∙ ap (λ (v : ℕ). entry_of v (changed g k es)) y ∙ a))

module _ (t : Tree) (r : Rec) (alone : Distinct (makers t.entries)) (fresh : Has (self_of r) (makers t.entries) → ⊥) (k : ℕ) (x : Entry) where
  es : List Entry
  es = t.entries

  Left : Type 0
  Left = PlacedBy k r t x ⊎ PlaceKept k r t x

  same : entry_of k es ≡ some x → (judge r t ≡ fits → Placing k r → ⊥) → Left
  unfolding es Left
  same q n = inr (record { was = x; there = q; last = refl; label = refl; folder = refl; unplaced = n })

  made : op r ≤ 2 → judge r t ≡ fits → entry_of k (es ++ (new_entry r ∷ [])) ≡ some x → Left
  unfolding es Left new_entry
  made o h q =
      ⊎_elim
      (λ y.
      same y (λ _ p.
      ⊎_elim
      (λ a. fresh (subst (λ (z : ℕ). Has z (makers t.entries)) (sym a.1) (entry_in_lem k t.entries x y)))
      (λ a. ⊎_elim (λ (z : op r ≡ 5). omega arith) (λ (z : 6 < op r). omega arith) a.0)
      p))
      (λ y.
      inl (record {
        fit = h;
        places = inl (o, y.1);
        last = ap (λ (e : Entry). e.placing) y.0;
        label = ap (λ (e : Entry). e.label) y.0;
        folder = λ _. ap (λ (e : Entry). e.inside) y.0;
        kept = λ (z : op r ≡ 5). let w : ⊥ = omega (arith, o) in absurd w;
      }))
      (entry_last k t.entries (new_entry r) x q)

  store_there : (e : Entry) → is_present e ≡ true → is_present (stored r e) ≡ true
  unfolding is_present stored
  store_there e p = p

  was_stored : op r ≡ 3 → entry_of k (changed (stored r) (object_of r) es) ≡ some x → Left
  unfolding es Left stored
  was_stored o q =
      ⊎_elim
      (λ y.
      let (e, z, a) = y.1 in
      inr (record {
        was = e;
        there = z;
        last = ap (λ (v : Entry). v.placing) a;
        label = ap (λ (v : Entry). v.label) a;
        folder = ap (λ (v : Entry). v.inside) a;
        unplaced = λ _ p. no_placing k r (inl o) p;
      }))
      (λ y. same y.1 (λ _ p. no_placing k r (inl o) p))
      (changed_back (stored r) (λ e. refl) store_there (object_of r) k t.entries x q)

  gone : (e : Entry) → is_present (removed e) ≡ false
  unfolding is_present removed
  gone e = refl

  was_removed : op r ≡ 4 → entry_of k (changed removed (object_of r) es) ≡ some x → Left
  unfolding es Left removed
  was_removed o q =
      ⊎_elim
      (λ (y : k ≡ object_of r).
      none_some (sym (entry_gone removed (λ e. refl) gone (object_of r) t.entries alone) ∙ ap (λ (v : ℕ). entry_of v (changed removed (object_of r) t.entries)) (sym y) ∙ q))
      (λ (y : k ≡ object_of r → ⊥). same (sym (entry_other removed (λ e. refl) (object_of r) k y t.entries) ∙ q) (λ _ p. no_placing k r (inr (inl o)) p))
      (eq_or_ne k (object_of r))

  rename_there : (e : Entry) → is_present e ≡ true → is_present (renamed r e) ≡ true
  unfolding is_present renamed
  rename_there e p = p

  was_renamed : op r ≡ 5 → judge r t ≡ fits → entry_of k (changed (renamed r) (object_of r) es) ≡ some x → Left
  unfolding es Left renamed
  was_renamed o h q =
      ⊎_elim
      (λ y.
      let (e, z, a) = y.1 in
      inl (record {
        fit = h;
        places = inr (inl o, sym y.0);
        last = ap (λ (v : Entry). v.placing) a;
        label = ap (λ (v : Entry). v.label) a;
        folder = λ n. absurd (n o);
        kept = λ _. (e, z, ap (λ (v : Entry). v.inside) a);
      }))
      (λ y. same y.1 (λ _ p. ⊎_elim (λ a. omega (arith, a.0)) (λ a. y.0 (sym a.1)) p))
      (changed_back (renamed r) (λ e. refl) rename_there (object_of r) k t.entries x q)

  move_there : (e : Entry) → is_present e ≡ true → is_present (moved r e) ≡ true
  unfolding is_present moved
  move_there e p = p

  was_moved : 6 < op r → judge r t ≡ fits → entry_of k (changed (moved r) (object_of r) es) ≡ some x → Left
  unfolding es Left moved
  was_moved o h q =
      ⊎_elim
      (λ y.
      let (e, z, a) = y.1 in
      inl (record {
        fit = h;
        places = inr (inr o, sym y.0);
        last = ap (λ (v : Entry). v.placing) a;
        label = ap (λ (v : Entry). v.label) a;
        folder = λ _. ap (λ (v : Entry). v.inside) a;
        kept = λ (z : op r ≡ 5). let w : ⊥ = omega (arith, o) in absurd w;
      }))
      (λ y. same y.1 (λ _ p. ⊎_elim (λ a. omega (arith, a.0)) (λ a. y.0 (sym a.1)) p))
      (changed_back (moved r) (λ e. refl) move_there (object_of r) k t.entries x q)

  -- what one record leaves of the place of an entry
  pub place_step : entry_of k (step t r).entries ≡ some x → PlacedBy k r t x ⊎ PlaceKept k r t x
  unfolding es Left
  place_step =
      let P : Tree → Type 0 = λ (y : Tree). entry_of k y.entries ≡ some x → PlacedBy k r t x ⊎ PlaceKept k r t x in
      step_elim P t r
      (λ h. effect_elim P r t
      (λ o q. made o h q)
      (λ o q. was_stored o q)
      (λ o q. was_removed o q)
      (λ o q. was_renamed o h q)
      (λ o q. same q (λ _ p. no_placing k r (inr (inr o)) p))
      (λ o q. was_moved o h q))
      (λ n m h q. same q (λ f _. absurd (let z : ◌≡◌ {A = ℕ} 0 1 = cc in omega arith)))
