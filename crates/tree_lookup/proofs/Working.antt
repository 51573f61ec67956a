-- What the rows and the roles of a working table say of its tree.
-- Assumes nothing.
use Prim.Native.Nat.{ℕ, zero, suc, ◌+◌, ◌-◌, ◌*◌, ◌≤◌, ◌<◌}
use native.Mathlib.Nat.{add-zero, zero-add}
use native.Mathlib.Omega.{arith}
use mathlib.Core.Path.{◌≡◌, refl, sym, ap, ◌∙◌}
use mathlib.Core.Logic.{◌⊎◌, inl, inr, ⊎_elim}
use mathlib.Core.Bool.{Bool, true, false, not}
use mathlib.Core.Option.{Option, none, some}
use mathlib.Core.List.{List, [], ◌∷◌}
use lib.ListN.{get_or, length}
use borrow.Author.Tests.{lt-ltb, le-ltb, not-true, not-false}
use Rattle.model.specs.Replay.{Entry, Aside, Tree, is_present, entry_of}
use Rattle.model.specs.Table.{entry_in, aside_in, work_bytes}
use Rattle.tree_table.specs.Rows.{entries_from, asides_from, tree_in, row_in, InRange, Proper, AllProper}
use Rattle.tree_table.proofs.Rows.{tree_back}
use Rattle.tree_table.proofs.Writes.{flagged-long}
use Rattle.byte_slice.proofs.Numbers.{lt_or_ge}
use Rattle.tree_lookup.specs.Roles.{row_from, row_of, note_of, behind_rows, role_of, Works, Holds, Reads}
use Rattle.tree_lookup.specs.Lookup.{row_among}
use Rattle.tree_lookup.proofs.Places.{row-at, row_lone, no_entry, entry_at, if_present}

-- an entry of no table, for places behind the rows
pub blank_entry : Entry
blank_entry = record { made = 0; kind = 0; inside = 0; label = []; contents = 0; date = []; mark = []; placing = 0 }

-- an aside of no table
pub blank_aside : Aside
blank_aside = record { who = 0; reason = 0; marked = 0; is_open = false }

-- ---- rows as they are read

pub entries_length : (b : List ℕ) (i n : ℕ) → length (entries_from b i n) ≡ n
unfolding entries_from
entries_length b i zero = refl
entries_length b i (suc n) = ap suc (entries_length b (suc i) n)

pub asides_length : (b : List ℕ) (i n : ℕ) → length (asides_from b i n) ≡ n
unfolding asides_from
asides_length b i zero = refl
asides_length b i (suc n) = ap suc (asides_length b (suc i) n)

pub entries_at : (b : List ℕ) (i n j : ℕ) (d : Entry) → j < n → get_or (entries_from b i n) j d ≡ entry_in b (4 + 72 * (i + j))
unfolding entries_from
entries_at b i zero j d h = absurd (omega arith)
entries_at b i (suc n) zero d h = rw add-zero
entries_at b i (suc n) (suc j) d h = let e : i + suc j ≡ suc i + j = omega arith in rw e (entries_at b (suc i) n j d (omega arith))

pub asides_at : (b : List ℕ) (i n j : ℕ) (d : Aside) → j < n → get_or (asides_from b i n) j d ≡ aside_in b (73732 + 12 * (i + j))
unfolding asides_from
asides_at b i zero j d h = absurd (omega arith)
asides_at b i (suc n) zero d h = rw add-zero
asides_at b i (suc n) (suc j) d h = let e : i + suc j ≡ suc i + j = omega arith in rw e (asides_at b (suc i) n j d (omega arith))

-- ---- proper entries

pub proper_at : (l : List Entry) (i : ℕ) (d : Entry) → i < length l → AllProper l → Proper (get_or l i d)
proper_at [] i d h p = absurd (omega arith)
proper_at (e ∷ l) zero d h p = p.0
proper_at (e ∷ l) (suc i) d h p = proper_at l i d (omega arith) p.1

-- ---- a working table shows its tree

module _ (b register : List ℕ) (n m : ℕ) (t : Tree) (w : Works b register n m t) where
  pub works_long : length b ≡ 86020
  unfolding work_bytes
  works_long =
      let f = w.rows_fit_lem in
      let g = w.notes_fit in
      let p = w.rows in
      let q = w.notes in
      rw w.bytes (flagged-long [] t.entries t.asides w.proper (omega arith) (omega arith))

  pub works_tree : tree_in b n m ≡ t
  unfolding work_bytes
  works_tree =
      let f = w.rows_fit_lem in
      let p = w.rows in
      rw (← w.rows, ← w.notes, w.bytes) (tree_back [] t w.proper (omega arith))

  pub works_holds : Holds b register n m
  works_holds = rw works_tree w

  pub works_row : (i : ℕ) (d : Entry) → i < n → get_or t.entries i d ≡ entry_in b (4 + 72 * i)
  unfolding tree_in
  works_row i d h =
      sym (ap (λ (x : Tree). get_or x.entries i d) works_tree) ∙ (rw (zero-add i) at (entries_at b 0 n i d h))

  pub works_range : (i : ℕ) → i < n → InRange (entry_in b (4 + 72 * i)).made
  works_range i h =
      let p = w.rows in
      rw (← works_row i blank_entry h) (proper_at t.entries i blank_entry (omega arith) w.proper).range

  pub works_note : (i : ℕ) (d : Aside) → i < m → get_or t.asides i d ≡ aside_in b (73732 + 12 * i)
  unfolding tree_in
  works_note i d h =
      sym (ap (λ (x : Tree). get_or x.asides i d) works_tree) ∙ (rw (zero-add i) at (asides_at b 0 m i d h))

-- ---- roles

pub behind_cases : (n : ℕ) → ((n ≡ 0) × (behind_rows n ≡ 0)) ⊎ ((1 ≤ n) × (behind_rows n ≡ 1024 + n))
unfolding behind_rows
behind_cases zero = inl (refl, refl)
behind_cases (suc n) = inr (omega arith, omega arith)

pub row_low : (b register : List ℕ) (n m : ℕ) (t : Tree) → Works b register n m t → (k : ℕ) → row_of k t ≤ n
unfolding row_of
row_low b register n m t w k = go (row_from k 0 t.entries) refl
  where
    go : (r : ℕ) → row_from k 0 t.entries ≡ r → r ≤ n
    go zero e = omega arith
    go (suc j) e =
        let a = row-at k 0 t.entries j blank_entry e in
        let p = w.rows in
        omega (arith, a.inside)

module _ (b register : List ℕ) (n m : ℕ) (t : Tree) (w : Works b register n m t) (k role : ℕ) (e : role ≡ role_of k t) where
  role_is : role ≡ row_of k t + behind_rows (note_of k t)
  unfolding role_of
  role_is = e

  pub role_row : 0 < role → role ≤ n → row_of k t ≡ role
  role_row h g =
      let f = w.rows_fit_lem in
      let q = role_is in
      ⊎_elim (λ (z : (note_of k t ≡ 0) × (behind_rows (note_of k t) ≡ 0)). omega (arith, z.1))
      (λ (z : (1 ≤ note_of k t) × (behind_rows (note_of k t) ≡ 1024 + note_of k t)). absurd (omega (arith, z.0, z.1)))
      (behind_cases (note_of k t))

  pub role_no_row : (role ≡ 0) ⊎ (n < role) → row_of k t ≡ 0
  role_no_row h =
      let q = role_is in
      let l = row_low b register n m t w k in
      ⊎_elim (λ (z : row_of k t ≡ 0). z)
      (λ (z : note_of k t ≡ 0).
      ⊎_elim (λ (y : (note_of k t ≡ 0) × (behind_rows (note_of k t) ≡ 0)).
      ⊎_elim (λ (x : role ≡ 0). omega (arith, y.1)) (λ (x : n < role). absurd (omega (arith, y.1))) h)
      (λ (y : (1 ≤ note_of k t) × (behind_rows (note_of k t) ≡ 1024 + note_of k t)). absurd (omega (arith, y.0)))
      (behind_cases (note_of k t)))
      (w.apart k)

  pub role_note : 1024 < role → note_of k t ≡ suc (role - 1025)
  role_note h =
      let q = role_is in
      let f = w.rows_fit_lem in
      ⊎_elim
      (λ (y : (note_of k t ≡ 0) × (behind_rows (note_of k t) ≡ 0)). absurd (omega (arith, y.1, row_low b register n m t w k)))
      (λ (y : (1 ≤ note_of k t) × (behind_rows (note_of k t) ≡ 1024 + note_of k t)).
      ⊎_elim (λ (z : row_of k t ≡ 0). omega (arith, y.1)) (λ (z : note_of k t ≡ 0). absurd (omega (arith, y.0))) (w.apart k))
      (behind_cases (note_of k t))

  pub role_no_note : role ≤ 1024 → note_of k t ≡ 0
  role_no_note h =
      let q = role_is in
      ⊎_elim (λ (y : (note_of k t ≡ 0) × (behind_rows (note_of k t) ≡ 0)). y.0)
      (λ (y : (1 ≤ note_of k t) × (behind_rows (note_of k t) ≡ 1024 + note_of k t)). absurd (omega (arith, y.1)))
      (behind_cases (note_of k t))

-- ---- a table in which roles are looked up

pub works_reads : (b register : List ℕ) (n m : ℕ) → Holds b register n m → Reads b register n m
works_reads b register n m w =
    record {
      long = works_long b register n m (tree_in b n m) w;
      rows_fit_lem = w.rows_fit_lem;
      notes_fit = w.notes_fit;
      apart = w.apart;
      named = w.named;
    }

-- ---- a row and what it shows

pub row-none : (b : List ℕ) (n i : ℕ) → n ≤ i → row_in b n i ≡ none
unfolding row_in
row-none b n i h = rw (le-ltb i n h)

pub row_some : (b : List ℕ) (n i : ℕ) → i < n → row_in b n i ≡ some (entry_in b (4 + 72 * i))
unfolding row_in
row_some b n i h = rw (lt-ltb i n h)

-- what a row shows has no other row
pub row_among_lem : (b register : List ℕ) (n m : ℕ) → Holds b register n m → (i : ℕ) (o : Option Entry) → i ≤ n → row_in b n i ≡ o
    → i ≡ row_among (entries_from b 0 n) o
unfolding row_among tree_in
row_among_lem b register n m w i o h e =
    let es = entries_from b 0 n in
    let l = entries_length b 0 n in
    ⊎_elim
    (λ (g : i < n).
    let x = entry_in b (4 + 72 * i) in
    let at : get_or es i blank_entry ≡ x = rw (zero-add i) at (entries_at b 0 n i blank_entry g) in
    let r : row_from x.made 0 es ≡ suc (0 + i) = row_lone x.made 0 es i blank_entry w.lone (omega arith) (rw at) in
    rw (← e, row_some b n i g) (omega arith))
    (λ (g : n ≤ i). rw (← e, row-none b n i g) (omega arith))
    (lt_or_ge i n)

-- ---- what `entry_of` answers

pub row_within : (role n : ℕ) → role ≤ n → role - 1 ≤ n
row_within role n h = omega arith

module _ (b register : List ℕ) (n m : ℕ) (w : Holds b register n m) (k role : ℕ) (e : role ≡ role_of k (tree_in b n m)) where
  nowhere : (role ≡ 0) ⊎ (n < role) → row_in b n n ≡ entry_of k (entries_from b 0 n)
  unfolding row_of tree_in
  nowhere h =
      row-none b n n (omega arith)
      ∙ sym (no_entry k (entries_from b 0 n) (role_no_row b register n m (tree_in b n m) w k role e h))

  pub entry_no_role : role ≡ 0 → row_in b n n ≡ entry_of k (entries_from b 0 n)
  entry_no_role h = nowhere (inl h)

  pub entry-aside : n < role → row_in b n n ≡ entry_of k (entries_from b 0 n)
  entry-aside h = nowhere (inr h)

  found : (role ≡ 0 → ⊥) → role ≤ n → entry_of k (entries_from b 0 n) ≡ if_present (entry_in b (4 + 72 * (role - 1)))
  unfolding row_of tree_in
  found h g =
      let j = role - 1 in
      let p : role ≡ suc j = omega arith in
      let r : row_from k 0 (entries_from b 0 n) ≡ suc j = role_row b register n m (tree_in b n m) w k role e (omega arith) g ∙ p in
      entry_at k (entries_from b 0 n) j blank_entry w.lone r
      ∙ ap (λ (x : Entry). if_present x) (rw (zero-add j) at (entries_at b 0 n j blank_entry (omega arith)))

  module _ (h : role ≡ 0 → ⊥) (g : role ≤ n) {t : Bool} (q : t ≡ is_present (entry_in b (4 + 72 * (role - 1)))) where
    pub entry-removed : not t ≡ true → row_in b n n ≡ entry_of k (entries_from b 0 n)
    entry-removed z = row-none b n n (omega arith) ∙ sym (found h g ∙ rw (← q, not-true t z))

    pub entry_found : not t ≡ false → row_in b n (role - 1) ≡ entry_of k (entries_from b 0 n)
    entry_found z = row_some b n (role - 1) (omega arith) ∙ sym (found h g ∙ rw (← q, not-false t z))
