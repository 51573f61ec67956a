-- A sound base whose counts are numbers of 16 bits can be put into a table.
-- Assumes nothing.
use Prim.Native.Nat.{ℕ, ◌+◌, ◌-◌, ◌*◌, ◌%◌, ◌≤◌, ◌<◌}
use native.Mathlib.Omega.{arith}
use mathlib.Core.Path.{◌≡◌, sym, ap, ◌∙◌}
use mathlib.Core.Logic.{◌⊎◌, inl, inr, ⊎_elim}
use mathlib.Core.Bool.{true}
use mathlib.Core.List.{List}
use lib.ListN.{get_or, length}
use Rattle.model.specs.Bytes.{word}
use Rattle.model.specs.Record.{root, unit_of, number_of}
use Rattle.model.specs.Replay.{Entry}
use Rattle.base_model.specs.Base.{base_vector, base_entry, base_aside, base_entries, entry_row_fits, aside_row_fits, id_at, sound_base}
use Rattle.byte_slice.proofs.Numbers.{eq_or_ne}
use Rattle.tree_laws.specs.Trees.{NamedIn, NamedOrNone, EntryFits, AsideFits}
use Rattle.base_laws.specs.Plain.{Reaches, top, up}
use Rattle.base_laws.proofs.Plain.{all_at, id_made, id_who, plain_of}
use Rattle.base_laws.proofs.Rows.{row_fits_lem, row_present, aside_fits_lem}
use Rattle.base_laws.proofs.Trees.{sound_tells}
use Rattle.tree_table.specs.Rows.{InRange}
use Rattle.tree_lookup.specs.Roles.{row_from, row_of, note_of, behind_rows, role_of, Home}
use Rattle.tree_lookup.proofs.Places.{row_absent, absent_at}
use Rattle.tree_lookup.proofs.Working.{blank_entry}
use Rattle.base_load.specs.Loading.{Loads, tree_to}
use Rattle.base_load.proofs.Listed.{no_row, no_note, entries_long}
use Rattle.base_load.proofs.Entering.{entry_is}
use Rattle.state_tree.specs.Small.{Small}

named-range : (v : List ℕ) (k : ℕ) → Small v → NamedIn v k → InRange k
named-range v k s h =
    let b = s.at (k % 8) (omega arith) in
    record { low = omega (arith, h.0); high = omega (arith, h.1) }

none_low : (v : List ℕ) (k : ℕ) → Small v → NamedOrNone v k → k < 524288
none_low v k s h = ⊎_elim (λ (z : k ≡ root). omega arith) (λ z. (named-range v k s z).high) h

none-range : (v : List ℕ) (k : ℕ) → Small v → NamedOrNone v k → (k ≡ 0) ⊎ InRange k
none-range v k s h = ⊎_elim (λ (z : k ≡ root). inl z) (λ z. inr (named-range v k s z)) h

id_aside : (b : List ℕ) (n k : ℕ) → id_at b n (n + k) ≡ (base_aside b k).who
id_aside b n k = let e : n + k - n ≡ k = omega arith in (rw e at (id_who b n (n + k) (omega arith)))

-- an identity that stands in a row has a row
has_row : (b : List ℕ) (n j f : ℕ) → j < n → (base_entry b j).made ≡ f → 1 ≤ row_from f 0 (base_entries b 0 n)
has_row b n j f h e =
    ⊎_elim
    (λ (z : row_from f 0 (base_entries b 0 n) ≡ 0).
    absurd (absent_at f (base_entries b 0 n) j blank_entry (row_absent f 0 (base_entries b 0 n) z) (omega (arith, entries_long b 0 n)) (ap (λ (x : Entry). x.made) (entry_is b n j blank_entry h) ∙ e)))
    (λ (z : row_from f 0 (base_entries b 0 n) ≡ 0 → ⊥). omega arith)
    (eq_or_ne (row_from f 0 (base_entries b 0 n)) 0)

home : (b : List ℕ) (n f : ℕ) → Reaches b n f → Home f (base_entries b 0 n)
home b n f (top e) = inl e
home b n f (up j r h e k w) = inr (has_row b n j f h e)

pub sound_loads : (b : List ℕ) → length b ≡ 43032 → sound_base b ≡ true → Small (base_vector b) → Loads b (word b 2) (word b 4)
unfolding entry_row_fits aside_row_fits base_entry base_aside
sound_loads b len e small =
    let s = sound_tells b e in
    let v = base_vector b in
    let n = word b 2 in
    let m = word b 4 in
    let p = plain_of b n m s.ids_pass s.names-pass in
    let passes : (i : ℕ) → i < n → entry_row_fits b i ≡ true = all_at n (entry_row_fits b) s.entries_pass in
    let noted : (j : ℕ) → j < m → aside_row_fits b j ≡ true = all_at m (aside_row_fits b) s.asides_pass in
    let fits : (i : ℕ) → i < n → EntryFits v (base_entry b i) = λ i h. row_fits_lem v b (24 + 72 * i) (omega (arith, s.few_entries)) (passes i h) in
    let stands : (j : ℕ) → j < m → AsideFits v (base_aside b j) = λ j h. aside_fits_lem v b (36888 + 12 * j) (noted j h) in
    record {
      long = len;
      few = s.few_entries;
      few_asides = s.few_asides;
      rows = λ i h.
          record {
            own = named-range v (base_entry b i).made small (fits i h).own_named;
            folder = none_low v (base_entry b i).inside small (fits i h).folder_named;
            contents = (named-range v (base_entry b i).contents small (fits i h).contents_named).high;
            placing = (named-range v (base_entry b i).placing small (fits i h).placing_named).high;
          };
      here = λ i h. row_present v b (24 + 72 * i) (passes i h);
      notes = λ j h.
          record {
            own = named-range v (base_aside b j).who small (stands j h).who_named;
            mark = none-range v (base_aside b j).marked small (stands j h).mark_named;
          };
      once = λ i j h g q. p.lone j i (omega arith) h (id_made b n i (omega arith) ∙ q ∙ sym (id_made b n j g));
      notes_once = λ i j h g q. p.lone (n + j) (n + i) (omega arith) (omega arith) (id_aside b n i ∙ q ∙ sym (id_aside b n j));
      not_both = λ i j h g q. p.lone (n + j) i (omega arith) (omega arith) (id_made b n i h ∙ q ∙ sym (id_aside b n j));
      housed = λ i h. home b n (base_entry b i).inside (p.rooted i h);
    }

-- what has a number above its unit's count is not in the base
pub not_there : (b : List ℕ) → length b ≡ 43032 → sound_base b ≡ true → (k : ℕ) → get_or (base_vector b) (unit_of k) 0 < number_of k → role_of k (tree_to b (word b 2) (word b 4)) ≡ 0
unfolding role_of row_of note_of tree_to behind_rows entry_row_fits aside_row_fits base_entry base_aside
not_there b len e k above =
    let s = sound_tells b e in
    let v = base_vector b in
    let n = word b 2 in
    let m = word b 4 in
    rw (
      no_row b k 0 0 n (λ j f g q.
          let h = (row_fits_lem v b (24 + 72 * j) (omega (arith, s.few_entries)) (all_at n (entry_row_fits b) s.entries_pass j (omega arith))).own_named in
          let c : NamedIn v k = rw q at h in
          omega (arith, c.1)),
      no_note b k 0 0 m (λ j f g q.
          let h = (aside_fits_lem v b (36888 + 12 * j) (all_at m (aside_row_fits b) s.asides_pass j (omega arith))).who_named in
          let c : NamedIn v k = rw q at h in
          omega (arith, c.1)),
    )
