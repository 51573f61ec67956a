-- What the code over labels is asked, over plain values.
-- Assumes nothing.
use Prim.Native.Nat.{ℕ, ◌+◌, ◌-◌, ◌*◌, ◌≤◌, ◌<◌}
use native.Mathlib.Omega.{arith}
use mathlib.Core.Path.{◌≡◌, sym, ◌∙◌}
use mathlib.Core.Bool.{Bool, true, false, not, ◌&&◌}
use mathlib.Core.List.{List}
use lib.Dec.{eqb}
use lib.ListN.{get_or, take, drop, set, replicate}
use borrow.Author.Tests.{eq-eqb, ne_eqb, eqb-true}
use Rattle.model.specs.Record.{identity_at}
use Rattle.model.specs.Log.{all_to}
use Rattle.model.specs.Replay.{same_label}
use Rattle.byte_slice.proofs.Numbers.{and_true}
use Rattle.byte_slice.proofs.Parts.{part_is}
use Rattle.record_label.proofs.Same.{same_key}
use Rattle.model.specs.Table.{entry_in}
use Rattle.tree_maps.specs.Keys.{hash_of, chain_of}
use Rattle.tree_maps.proofs.Labels.{hash_key}
use Rattle.base_model.specs.Base.{last_to, base_entry, one_name, name_new}
use Rattle.std.proofs.Common.{Option}
use Rattle.std.specs.Option.{is_some}
use Rattle.base_links.specs.Places.{place_told}
use Rattle.base_links.specs.Links.{Linked, Walk}
use Rattle.base_links.proofs.Links.{walk_starts, walk_low, walk_goes, walk_found, walk_ends, linked_none, linked_more, none_told, all_next, all_ends, all_none}
use Rattle.base_names.specs.Names.{name_key}

-- labels that are the same have one chain
same_chain : (f : ℕ) (s t : List ℕ) → same_label s t ≡ true → hash_of f s ≡ hash_of f t
same_chain f s t e = hash_key f s t (same_key s t e)

-- ---- rows

module _ (b : List ℕ) (i : ℕ) where
  pub key_is : {f r : ℕ} → f ≡ identity_at b (24 + 72 * i + 8) → r ≡ hash_of f (take (24 + 72 * i + 24 + 32 - (24 + 72 * i + 24)) (drop (24 + 72 * i + 24) b)) → r ≡ name_key b i
  unfolding name_key chain_of base_entry entry_in
  key_is e g = g ∙ rw (e, part_is b (24 + 72 * i + 24) 32)

  module _ (j : ℕ) {f g : ℕ} (p : f ≡ identity_at b (24 + 72 * j + 8)) (q : g ≡ identity_at b (24 + 72 * i + 8)) where
    pub name_other : (f ≡ g → ⊥) → false ≡ one_name b i j
    unfolding one_name base_entry entry_in
    name_other d = rw (← p, ← q, ne_eqb f g d)

    pub name_same : {t : Bool} → f ≡ g
        → t ≡ same_label (take (24 + 72 * j + 24 + 32 - (24 + 72 * j + 24)) (drop (24 + 72 * j + 24) b)) (take (24 + 72 * i + 24 + 32 - (24 + 72 * i + 24)) (drop (24 + 72 * i + 24) b))
        → t ≡ one_name b i j
    unfolding one_name base_entry entry_in
    name_same d e = e ∙ rw (← p, ← q, eq-eqb f g d, part_is b (24 + 72 * j + 24) 32, part_is b (24 + 72 * i + 24) 32)

-- ---- a search

-- the search for the name of row i has come down to q
abbrev pub Seeks : List ℕ → ℕ → ℕ → Type 0
Seeks b i q = Walk (one_name b i) (name_key b) (name_key b i) i q

module _ (b heads next : List ℕ) (i : ℕ) (w : Linked (name_key b) heads next i) where
  agree : (j : ℕ) → one_name b i j ≡ true → name_key b j ≡ name_key b i
  unfolding one_name name_key chain_of
  agree j e =
      let (f, t) = and_true (eqb (base_entry b j).inside (base_entry b i).inside) (same_label (base_entry b j).label (base_entry b i).label) e in
      rw (eqb-true (base_entry b j).inside (base_entry b i).inside f) (same_chain (base_entry b i).inside (base_entry b j).label (base_entry b i).label t)

  pub seek_starts : {h q : ℕ} → h ≡ name_key b i → h < 1021 → q ≡ get_or heads h 0 → Seeks b i q
  seek_starts e l f = walk_starts (one_name b i) (name_key b) heads next (name_key b i) i agree w (omega arith) (f ∙ rw e)

  module _ {q : ℕ} (s : Seeks b i q) (z : 0 < q) where
    pub seek_low : {r : ℕ} → r ≡ get_or next (q - 1) 0 → r < q
    seek_low f = walk_low (one_name b i) (name_key b) heads next (name_key b i) i agree w s z f

    pub seek_goes : {r : ℕ} {t : Bool} → t ≡ one_name b i (q - 1) → t ≡ false → r ≡ get_or next (q - 1) 0 → Seeks b i r
    seek_goes e d f = walk_goes (one_name b i) (name_key b) heads next (name_key b i) i agree w s z (sym e ∙ d) f

pub seek_found : (b : List ℕ) (i q : ℕ) {t : Bool} → Seeks b i q → 0 < q → t ≡ one_name b i (q - 1) → t ≡ true → q - 1 + 1 ≡ last_to (one_name b i) i
seek_found b i q s z e d = walk_found (one_name b i) (name_key b) (name_key b i) i q s z (sym e ∙ d)

pub seek_ends : (b : List ℕ) (i q : ℕ) → Seeks b i q → q ≤ 0 → 0 ≡ last_to (one_name b i) i
seek_ends b i q s z = walk_ends (one_name b i) (name_key b) (name_key b i) i q s z

-- ---- all labels

module _ (b : List ℕ) where
  pub names_linked : (heads next heads' next' : List ℕ) (i n h : ℕ) → Linked (name_key b) heads next i → n ≤ 512 → i < n → h ≡ name_key b i → h < 1021
      → heads' ≡ set heads h (i + 1) → next' ≡ set next i (get_or heads h 0) → Linked (name_key b) heads' next' (i + 1)
  names_linked heads next heads' next' i n h w few low e l p q =
      linked_more (name_key b) heads next heads' next' h i w (omega arith) (omega arith) e p q

  pub names-next : (i : ℕ) (o : Option ℕ) {t : Bool} (u : Bool) → t ≡ all_to i (name_new b) → place_told o ≡ last_to (one_name b i) i → is_some o ≡ not u → (t && u) ≡ all_to (i + 1) (name_new b)
  unfolding name_new
  names-next i o u a f e = all_next (name_new b) i a (none_told o u e ∙ rw f)

  pub names_end : (i n : ℕ) {t : Bool} → i ≤ n → n ≤ i → t ≡ all_to i (name_new b) → t ≡ all_to n (name_new b)
  names_end i n h g e = all_ends (name_new b) i n h g e

  pub names-none : Linked (name_key b) (replicate 1024 0) (replicate 1024 0) 0
  names-none = linked_none (name_key b)

  pub names_start : true ≡ all_to 0 (name_new b)
  names_start = all_none (name_new b)
