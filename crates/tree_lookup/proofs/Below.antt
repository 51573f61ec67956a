-- The way up from a folder: whether it comes to an entry.
-- Assumes nothing.
use Prim.Native.Nat.{ℕ, suc, ◌+◌, ◌-◌, ◌*◌, ◌≤◌, ◌<◌}
use native.Mathlib.Numerals.{add-one}
use native.Mathlib.Nat.{sub-zero}
use native.Mathlib.Omega.{arith}
use mathlib.Core.Path.{◌≡◌, refl, sym, ◌∙◌}
use mathlib.Core.Bool.{Bool, true, false, not}
use mathlib.Core.Option.{none}
use mathlib.Core.List.{List, [], ◌∷◌}
use borrow.Author.Tests.{eq-eqb, ne_eqb, not-true, not-false}
use Rattle.model.specs.Replay.{Entry, entry_of, comes_to, is_below}
use Rattle.byte_slice.proofs.Numbers.{not_both}
use Rattle.model.specs.Table.{entry_in}
use Rattle.tree_table.specs.Rows.{entries_from, tree_in, row_in, InRange, AllProper}
use Rattle.tree_maps.specs.Keys.{is_identity}
use Rattle.tree_maps.proofs.Counts.{identity-range, range-identity}
use Rattle.tree_lookup.specs.Roles.{Holds}
use Rattle.tree_lookup.proofs.Working.{entries_length, row-none, row_some}

-- what is no identity is no entry
no_identity : (f : ℕ) (l : List Entry) → AllProper l → is_identity f ≡ false → entry_of f l ≡ none
unfolding entry_of
no_identity f [] p h = refl
no_identity f (e ∷ l) p h =
    rw (ne_eqb e.made f (λ (z : e.made ≡ f). not_both (is_identity f) (rw z at (range-identity e.made p.0.range)) h)) (no_identity f l p.1 h)

-- the way up has as many steps as there are entries and one, before the first of them
pub below_starts : (b : List ℕ) (n k f : ℕ) → comes_to (n + 1 - 0) k f (entries_from b 0 n) ≡ is_below k f (entries_from b 0 n)
unfolding is_below
below_starts b n k f = rw (sub-zero, entries_length b 0 n, add-one n)

module _ (b : List ℕ) (n k f at i : ℕ) (inv : comes_to (n + 1 - i) k at (entries_from b 0 n) ≡ is_below k f (entries_from b 0 n)) where
  pub below_ends : n + 1 ≤ i → false ≡ is_below k f (entries_from b 0 n)
  unfolding comes_to
  below_ends h = let z : n + 1 - i ≡ 0 = omega arith in rw z at inv

  -- the way has a step more
  more : i < n + 1 → comes_to (suc (n + 1 - (i + 1))) k at (entries_from b 0 n) ≡ is_below k f (entries_from b 0 n)
  more h = let z : n + 1 - i ≡ suc (n + 1 - (i + 1)) = omega arith in rw z at inv

  pub below_here : i < n + 1 → at ≡ k → true ≡ is_below k f (entries_from b 0 n)
  unfolding comes_to
  below_here h e = rw (eq-eqb at k e) at (more h)

  module _ (h : i < n + 1) (other : at ≡ k → ⊥) where
    pub below_root : (register : List ℕ) (m : ℕ) → Holds b register n m → (s : Bool) → s ≡ is_identity at → not s ≡ true → false ≡ is_below k f (entries_from b 0 n)
    unfolding comes_to tree_in
    below_root register m w s e g = rw (ne_eqb at k other, no_identity at (entries_from b 0 n) w.proper (sym e ∙ not-true s g)) at (more h)

    module _ (row : ℕ) (o : row_in b n row ≡ entry_of at (entries_from b 0 n)) where
      pub below_absent : n ≤ row → false ≡ is_below k f (entries_from b 0 n)
      unfolding comes_to
      below_absent g = rw (ne_eqb at k other, ← o, row-none b n row g) at (more h)

      pub below_goes : row < n → (up : ℕ) → up ≡ (entry_in b (4 + 72 * row)).inside → comes_to (n + 1 - (i + 1)) k up (entries_from b 0 n) ≡ is_below k f (entries_from b 0 n)
      unfolding comes_to
      below_goes g up e = rw e (rw (ne_eqb at k other, ← o, row_some b n row g) at (more h))

pub identity_in : (k : ℕ) (s : Bool) → s ≡ is_identity k → not s ≡ false → InRange k
identity_in k s e g = identity-range k (sym e ∙ not-false s g)
