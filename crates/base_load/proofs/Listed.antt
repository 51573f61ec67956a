-- The entries and asides of a base, one by one: the next behind those before it, and which identities are among them.
-- Assumes nothing.
use Prim.Native.Nat.{ℕ, zero, suc, ◌+◌, ◌≤◌, ◌<◌}
use native.Mathlib.Omega.{arith}
use mathlib.Core.Path.{◌≡◌, refl, sym, ap, ◌∙◌}
use mathlib.Core.Logic.{⊎_elim}
use mathlib.Core.List.{List, [], ◌∷◌, ◌++◌}
use lib.ListN.{length}
use borrow.Author.Tests.{ne_eqb}
use Rattle.model.specs.Replay.{Entry, Aside}
use Rattle.base_model.specs.Base.{base_entry, base_aside, base_entries, base_asides}
use Rattle.byte_slice.proofs.Numbers.{eq_or_ne}
use Rattle.tree_table.specs.Rows.{Proper, AllProper}
use Rattle.tree_lookup.specs.Roles.{row_from, note_from, Absent, Lone, Home, Housed}

module _ (b : List ℕ) where
  entries_behind : (s i : ℕ) → base_entries b s (suc i) ≡ base_entries b s i ++ (base_entry b (s + i) ∷ [])
  unfolding base_entries
  entries_behind s zero = let z : s + 0 ≡ s = omega arith in rw z
  entries_behind s (suc i) =
      let z : s + suc i ≡ suc s + i = omega arith in
      rw z (ap (λ (l : List Entry). base_entry b s ∷ l) (entries_behind (suc s) i))

  pub entries_next : (i : ℕ) → base_entries b 0 (i + 1) ≡ base_entries b 0 i ++ (base_entry b i ∷ [])
  entries_next i =
      let z : i + 1 ≡ suc i = omega arith in
      let y : 0 + i ≡ i = omega arith in
      rw z (entries_behind 0 i ∙ rw y)

  asides_behind : (s i : ℕ) → base_asides b s (suc i) ≡ base_asides b s i ++ (base_aside b (s + i) ∷ [])
  unfolding base_asides
  asides_behind s zero = let z : s + 0 ≡ s = omega arith in rw z
  asides_behind s (suc i) =
      let z : s + suc i ≡ suc s + i = omega arith in
      rw z (ap (λ (l : List Aside). base_aside b s ∷ l) (asides_behind (suc s) i))

  pub asides_next : (i : ℕ) → base_asides b 0 (i + 1) ≡ base_asides b 0 i ++ (base_aside b i ∷ [])
  asides_next i =
      let z : i + 1 ≡ suc i = omega arith in
      let y : 0 + i ≡ i = omega arith in
      rw z (asides_behind 0 i ∙ rw y)

  pub entries_long : (s i : ℕ) → length (base_entries b s i) ≡ i
  unfolding base_entries
  entries_long s zero = refl
  entries_long s (suc i) = ap suc (entries_long (suc s) i)

  pub asides_long : (s i : ℕ) → length (base_asides b s i) ≡ i
  unfolding base_asides
  asides_long s zero = refl
  asides_long s (suc i) = ap suc (asides_long (suc s) i)

  -- an identity that no entry has is in no row
  pub no_row : (k p s i : ℕ) → ((j : ℕ) → s ≤ j → j < s + i → (base_entry b j).made ≡ k → ⊥) → row_from k p (base_entries b s i) ≡ 0
  unfolding base_entries row_from
  no_row k p s zero h = refl
  no_row k p s (suc i) h = rw (ne_eqb (base_entry b s).made k (h s (omega arith) (omega arith))) (no_row k (suc p) (suc s) i (λ j f g. h j (omega arith) (omega arith)))

  pub no_note : (k p s i : ℕ) → ((j : ℕ) → s ≤ j → j < s + i → (base_aside b j).who ≡ k → ⊥) → note_from k p (base_asides b s i) ≡ 0
  unfolding base_asides note_from
  no_note k p s zero h = refl
  no_note k p s (suc i) h = rw (ne_eqb (base_aside b s).who k (h s (omega arith) (omega arith))) (no_note k (suc p) (suc s) i (λ j f g. h j (omega arith) (omega arith)))

  pub absent : (k s i : ℕ) → ((j : ℕ) → s ≤ j → j < s + i → (base_entry b j).made ≡ k → ⊥) → Absent k (base_entries b s i)
  unfolding base_entries
  absent k s zero h = tt
  absent k s (suc i) h = (h s (omega arith) (omega arith), absent k (suc s) i (λ j f g. h j (omega arith) (omega arith)))

  pub lone : (s i : ℕ) → ((j k : ℕ) → s ≤ j → j < k → k < s + i → (base_entry b j).made ≡ (base_entry b k).made → ⊥) → Lone (base_entries b s i)
  unfolding base_entries
  lone s zero h = tt
  lone s (suc i) h = (
    absent (base_entry b s).made (suc s) i (λ j f g e. h s j (omega arith) (omega arith) (omega arith) (sym e)),
    lone (suc s) i (λ j k f g l. h j k (omega arith) g (omega arith)),
  )

  pub all_proper : (s i : ℕ) → ((j : ℕ) → s ≤ j → j < s + i → Proper (base_entry b j)) → AllProper (base_entries b s i)
  unfolding base_entries
  all_proper s zero h = tt
  all_proper s (suc i) h = (h s (omega arith) (omega arith), all_proper (suc s) i (λ j f g. h j (omega arith) (omega arith)))

  pub all_housed : (es : List Entry) (s i : ℕ) → ((j : ℕ) → s ≤ j → j < s + i → Home (base_entry b j).inside es) → Housed es (base_entries b s i)
  unfolding base_entries
  all_housed es s zero h = tt
  all_housed es s (suc i) h = (h s (omega arith) (omega arith), all_housed es (suc s) i (λ j f g. h j (omega arith) (omega arith)))

  -- an identity that has a row is that of an entry
  pub row_of_lem : (k p s i : ℕ) → (row_from k p (base_entries b s i) ≡ 0 → ⊥) → (j : ℕ) × (s ≤ j) × (j < s + i) × ((base_entry b j).made ≡ k)
  unfolding base_entries row_from
  row_of_lem k p s zero h = absurd (h refl)
  row_of_lem k p s (suc i) h =
      ⊎_elim
      (λ (e : (base_entry b s).made ≡ k). (s, omega arith, omega arith, e))
      (λ (e : (base_entry b s).made ≡ k → ⊥).
      let (j, f, g, q) = row_of_lem k (suc p) (suc s) i (λ z. h (rw (ne_eqb (base_entry b s).made k e) z)) in
      (j, omega arith, omega arith, q))
      (eq_or_ne (base_entry b s).made k)
