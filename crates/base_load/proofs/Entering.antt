-- One label more in the register, from none to all; then table and register hold the tree of the base.
-- Assumes nothing.
use Prim.Native.Nat.{ℕ, zero, suc, ◌+◌, ◌-◌, ◌*◌, ◌≤◌, ◌<◌}
use native.Mathlib.Omega.{arith}
use mathlib.Core.Path.{◌≡◌, refl, sym, ap, ◌∙◌, subst}
use mathlib.Core.Logic.{◌⊎◌, ⊎_elim}
use mathlib.Core.Bool.{Bool, true, false, not}
use mathlib.Core.List.{List, []}
use lib.ListN.{get_or, length, set, take, drop, replicate}
use Rattle.model.specs.Record.{identity_at}
use Rattle.model.specs.Replay.{Entry, Tree, is_present, removed, empty_tree}
use Rattle.model.specs.Table.{work_bytes, entry_in}
use Rattle.base_model.specs.Base.{base_entry, base_aside, base_entries, base_asides}
use borrow.Author.Tests.{not-true}
use Rattle.byte_slice.proofs.Numbers.{not_both}
use Rattle.byte_slice.proofs.Parts.{part_is}
use Rattle.tree_table.specs.Rows.{tree_in, InRange}
use Rattle.tree_table.proofs.Rows.{tree_back}
use Rattle.tree_table.proofs.Writes.{flagged-long}
use Rattle.hash_chains.specs.Chains.{nodes_in, Chains}
use Rattle.tree_maps.specs.Keys.{register_size, is_identity, folder_at, OneEach, entered, Keyed}
use Rattle.tree_maps.proofs.Counts.{range-identity, children_few}
use Rattle.tree_maps.proofs.Keeping.{keyed_entered, entered-before, entered-long, entered_nodes}
use Rattle.tree_lookup.specs.Roles.{row_from, row_of, note_of, behind_rows, role_of, Named, Lone, MarksFit, Home, Reads, Works}
use Rattle.tree_lookup.proofs.Names.{row_few, named-kept}
use Rattle.tree_lookup.proofs.Homes.{no_row, place_folder, one_each}
use Rattle.tree_lookup.proofs.Below.{identity_in}
use Rattle.tree_lookup.proofs.Places.{absent_row}
use Rattle.tree_lookup.proofs.Working.{blank_entry}
use Rattle.tree_replay.proofs.Sound.{start_works, zeros-at}
use Rattle.base_load.specs.Loading.{Loads, Loading, Entering, tree_to, awaiting}
use Rattle.base_load.proofs.Listed.{entries_long, asides_long, lone, all_housed}
use Rattle.base_load.proofs.Roles.{proper_to, apart_to}
use Rattle.base_load.proofs.Labels.{await_long, await_folder, await_each, await_here, await_next, await_all, keyed_none}

-- ---- the fields as they are read

pub inside_is : (b : List ℕ) (i : ℕ) → (base_entry b i).inside ≡ identity_at b (24 + 72 * i + 8)
unfolding base_entry entry_in
inside_is b i = refl

pub label_is : (b : List ℕ) (i : ℕ) → take (24 + 72 * i + 56 - (24 + 72 * i + 24)) (drop (24 + 72 * i + 24) b) ≡ (base_entry b i).label
unfolding base_entry entry_in
label_is b i =
    let z : 24 + 72 * i + 56 - (24 + 72 * i + 24) ≡ 24 + 72 * i + 24 + 32 - (24 + 72 * i + 24) = omega arith in
    rw z (part_is b (24 + 72 * i + 24) 32)

entry_at : (b : List ℕ) (s n i : ℕ) (d : Entry) → i < n → get_or (base_entries b s n) i d ≡ base_entry b (s + i)
unfolding base_entries
entry_at b s zero i d h = absurd (omega arith)
entry_at b s (suc n) zero d h = let z : s + 0 ≡ s = omega arith in rw z
entry_at b s (suc n) (suc i) d h = let z : s + suc i ≡ suc s + i = omega arith in rw z (entry_at b (suc s) n i d (omega arith))

pub entry_is : (b : List ℕ) (n i : ℕ) (d : Entry) → i < n → get_or (base_entries b 0 n) i d ≡ base_entry b i
entry_is b n i d h = let z : 0 + i ≡ i = omega arith in entry_at b 0 n i d h ∙ rw z

marks_to : (b : List ℕ) (s i : ℕ) → ((j : ℕ) → s ≤ j → j < s + i → ((base_aside b j).marked ≡ 0) ⊎ InRange (base_aside b j).marked) → MarksFit (base_asides b s i)
unfolding base_asides
marks_to b s zero h = tt
marks_to b s (suc i) h = (h s (omega arith) (omega arith), marks_to b (suc s) i (λ j f g. h j (omega arith) (omega arith)))

module _ (b : List ℕ) (n m : ℕ) (w : Loads b n m) where
  lone_all : Lone (base_entries b 0 n)
  lone_all = lone b 0 n (λ j k f g l. w.once j k g (omega arith))

  each : OneEach (base_entries b 0 n)
  each = one_each (base_entries b 0 n) (proper_to b n m w n (omega arith)) lone_all

  -- ---- the table as it is read

  module _ (table : List ℕ) (e : table ≡ work_bytes (tree_to b n m)) where
    pub read_tree : tree_in table n m ≡ tree_to b n m
    unfolding tree_to work_bytes
    read_tree =
        let x = entries_long b 0 n in
        let y = asides_long b 0 m in
        let t : Tree = tree_to b n m in
        subst (λ (k : ℕ). tree_in table k m ≡ t) x
        (subst (λ (k : ℕ). tree_in table (length (base_entries b 0 n)) k ≡ t) y
        (rw e (tree_back [] t (proper_to b n m w n (omega arith)) (omega (arith, w.few)))))

    pub read_long : length table ≡ 86020
    unfolding tree_to work_bytes
    read_long =
        rw e
        (flagged-long [] (base_entries b 0 n) (base_asides b 0 m) (proper_to b n m w n (omega arith)) (omega (arith, entries_long b 0 n, w.few)) (omega (arith, asides_long b 0 m, w.few_asides)))

    pub reads_to : (register : List ℕ) → Named register (tree_to b n m) → Reads table register n m
    reads_to register g =
        record {
          long = read_long;
          rows_fit_lem = omega (arith, w.few);
          notes_fit = omega (arith, w.few_asides);
          apart = λ k. rw read_tree (apart_to b n m w n m k (omega arith) (omega arith));
          named = rw read_tree g;
        }

    -- the place of the folder of entry i
    module _ (i f : ℕ) (h : i < n) (q₀ : f ≡ identity_at b (24 + 72 * i + 8)) where
      q : f ≡ (base_entry b i).inside
      q = q₀ ∙ sym (inside_is b i)

      home : Home f (base_entries b 0 n)
      home = rw q (w.housed i h)

      pub place_found : (s : Bool) → s ≡ is_identity f → not s ≡ false → (r : ℕ) → r ≡ role_of f (tree_in table n m) → r ≡ row_of (base_entry b i).inside (tree_to b n m)
      unfolding role_of row_of note_of tree_to behind_rows
      place_found s e₁ g r x =
          let y : r ≡ role_of f (tree_to b n m) = x ∙ rw read_tree in
          let low : 1 ≤ row_from f 0 (base_entries b 0 n) =
          ⊎_elim (λ (z : f ≡ 0). absurd (let u = (identity_in f s e₁ g).low in omega arith)) (λ z. z) home in
          rw (← q)
          (⊎_elim (λ (z : row_of f (tree_to b n m) ≡ 0). absurd (omega arith)) (λ (z : note_of f (tree_to b n m) ≡ 0). y ∙ rw z (omega arith)) (apart_to b n m w n m f (omega arith) (omega arith)))

      pub place_root : (s : Bool) → s ≡ is_identity f → not s ≡ true → 0 ≡ row_of (base_entry b i).inside (tree_to b n m)
      unfolding row_of tree_to
      place_root s e₁ g =
          rw (← q) (sym (absent_row f 0 (base_entries b 0 n) (no_row f (base_entries b 0 n) (proper_to b n m w n (omega arith)) (λ r. not_both (is_identity f) (range-identity f r) (sym e₁ ∙ not-true s g)))))

      pub place_few : (s : Bool) → s ≡ is_identity f → not s ≡ false → (r : ℕ) → r ≡ role_of f (tree_in table n m) → r ≤ n
      unfolding tree_to
      place_few s e₁ g r x = omega (arith, place_found s e₁ g r x, row_few (base_entry b i).inside (tree_to b n m), entries_long b 0 n)

      pub place_range : (s : Bool) → s ≡ is_identity f → not s ≡ false → InRange f
      place_range s e₁ g = identity_in f s e₁ g

  -- ---- one label more

  pub entering_starts : (table register : List ℕ) → Loading b table register n m → Entering b register n m 0
  unfolding nodes_in
  entering_starts table register o =
      record {
        named = o.named;
        keyed = keyed_none register n (base_entries b 0 n) (entries_long b 0 n) o.wide o.blank;
        nodes = o.blank (4097 + 4096) (omega arith);
      }

  module _ (register : List ℕ) (i : ℕ) (o : Entering b register n m i) (h : i < n) where
    pub label_room : nodes_in 4097 register < 1536
    label_room = omega (arith, o.nodes, w.few)

    pub label_chains : Chains 4097 register
    label_chains = o.keyed.chains

    pub label_row : i < 65536
    label_row = omega (arith, w.few)

    pub label_place : (p : ℕ) → p ≤ n → p ≤ 1024
    label_place p g = omega (arith, w.few)

    pub label_wide : length register ≡ register_size
    label_wide = o.keyed.wide

    pub label_count : (p : ℕ) → p ≤ n → get_or register (8194 + p) 0 ≤ 1024
    label_count p g =
        let E = awaiting i (base_entries b 0 n) in
        omega (arith, o.keyed.counted p g, children_few (folder_at E p) E, await_long i (base_entries b 0 n), entries_long b 0 n, w.few)

    pub label_entered : (p f : ℕ) → f ≡ identity_at b (24 + 72 * i + 8) → p ≡ row_of (base_entry b i).inside (tree_to b n m) → (l : List ℕ)
        → l ≡ entered register p f (take (24 + 72 * i + 56 - (24 + 72 * i + 24)) (drop (24 + 72 * i + 24) b)) i → Entering b l n m (i + 1)
    unfolding tree_to row_of removed is_present
    label_entered p f q₀ x₀ l g₀ =
        let q : f ≡ (base_entry b i).inside = q₀ ∙ sym (inside_is b i) in
        let x : p ≡ row_from f 0 (base_entries b 0 n) = x₀ ∙ rw q in
        let t = (base_entry b i).label in
        let g : l ≡ entered register p f t i = g₀ ∙ rw (label_is b i) in
        let es = base_entries b 0 n in
        let E = awaiting i es in
        let e = base_entry b i in
        let d = blank_entry in
        let nl = entries_long b 0 n in
        let al = await_long i es in
        let at : get_or es i d ≡ e = entry_is b n i d h in
        let was : get_or E i d ≡ removed e = await_here i es d (omega arith) ∙ ap removed at in
        let home : Home f es = rw q (w.housed i h) in
        let folder : folder_at es p ≡ f = rw x (place_folder es (proper_to b n m w n (omega arith)) f home) in
        let within : p ≤ n = rw x (omega (arith, row_few f (tree_to b n m))) in
        let c = o.keyed.chains in
        let k =
        keyed_entered register n E o.keyed (al ∙ nl) (await_each i es each) i e d (omega arith) (rw was) p f within (omega (arith, w.few)) (await_folder i es p ∙ folder)
        h q (rw was) (w.here i h) label_room in
        let next : set E i e ≡ awaiting (i + 1) es = rw (← at) (await_next i es d (omega arith)) in
        record {
          named = rw g (named-kept register (entered register p f t i) (tree_to b n m) o.named (entered-long register p f t i) (entered-before register p f t i));
          keyed = rw (g, ← next) k;
          nodes = rw g (entered_nodes register p f t i c label_room ∙ omega (arith, o.nodes));
        }

  -- ---- all of them

  pub loaded : (table register : List ℕ) → table ≡ work_bytes (tree_to b n m) → (i : ℕ) → i ≤ n → n ≤ i → Entering b register n m i → Works table register n m (tree_to b n m)
  unfolding tree_to
  loaded table register e i u v o =
      let z : i ≡ length (base_entries b 0 n) = omega (arith, entries_long b 0 n) in
      record {
        bytes = e;
        rows = entries_long b 0 n;
        notes = asides_long b 0 m;
        rows_fit_lem = omega (arith, w.few);
        notes_fit = omega (arith, w.few_asides);
        proper = proper_to b n m w n (omega arith);
        lone = lone_all;
        marks = marks_to b 0 m (λ j f g. (w.notes j (omega arith)).mark);
        apart = λ k. apart_to b n m w n m k (omega arith) (omega arith);
        housed = all_housed b (base_entries b 0 n) 0 n (λ j f g. w.housed j (omega arith));
        named = o.named;
        keyed = subst (λ (x : List Entry). Keyed register n x) (ap (λ (k : ℕ). awaiting k (base_entries b 0 n)) z ∙ await_all (base_entries b 0 n)) o.keyed;
      }

  pub no_label_yet : (table register : List ℕ) → Loading b table register n m → table ≡ work_bytes (tree_to b n m)
  no_label_yet table register o = o.bytes

  pub loaded_nodes : (register : List ℕ) (i : ℕ) → i ≤ n → n ≤ i → Entering b register n m i → nodes_in 4097 register ≡ n
  loaded_nodes register i u v o = omega (arith, o.nodes)

  -- a table and a register of zeros
  pub loading_starts : (table register : List ℕ) → table ≡ replicate 86020 0 → register ≡ replicate register_size 0 → Loading b table register 0 0
  unfolding tree_to base_entries base_asides empty_tree
  loading_starts table register e f =
      let s = start_works table register e f in
      record {
        bytes = s.bytes;
        wide = s.keyed.wide;
        named = s.named;
        blank = λ q u. rw f (zeros-at register_size q);
      }

pub labels_start : (b table register : List ℕ) (n m : ℕ) → Loading b table register n m → Loads b n m → Entering b register n m 0
labels_start b table register n m o w = entering_starts b n m w table register o
