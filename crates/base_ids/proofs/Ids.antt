-- What the code over identities is asked, over plain values.
-- Assumes nothing.
use Prim.Native.Nat.{ℕ, ◌+◌, ◌-◌, ◌*◌, ◌%◌, ◌≤◌, ◌<◌}
use native.Mathlib.Omega.{arith}
use mathlib.Core.Path.{◌≡◌, refl, sym, ap, ◌∙◌}
use mathlib.Core.Bool.{Bool, true, not, ◌&&◌}
use mathlib.Core.List.{List}
use lib.Dec.{eqb}
use lib.ListN.{get_or, set, replicate}
use borrow.Author.Tests.{eq-eqb, ne_eqb, eqb-true, lt-ltb, le-ltb}
use Rattle.model.specs.Record.{identity_at}
use Rattle.model.specs.Log.{all_to}
use Rattle.model.specs.Table.{entry_in, aside_in}
use Rattle.base_model.specs.Base.{last_to, base_entry, base_aside, id_at, is_id, id_new}
use Rattle.std.proofs.Common.{Option}
use Rattle.std.specs.Option.{is_some}
use Rattle.base_links.specs.Places.{place_told}
use Rattle.base_links.specs.Links.{Linked, Walk}
use Rattle.base_links.proofs.Links.{walk_starts, walk_low, walk_goes, walk_found, walk_ends, linked_none, linked_more, none_told, all_next, all_ends, all_none}
use Rattle.base_ids.specs.Ups.{link_of, id_key}

-- ---- fields

module _ (b : List ℕ) where
  pub folder_is : (i : ℕ) → eqb (get_or b (24 + 72 * i) 0) 1 ≡ eqb (base_entry b i).kind 1
  unfolding base_entry entry_in
  folder_is i = refl

  pub inside_is : (i : ℕ) {k : ℕ} → k ≡ identity_at b (24 + 72 * i + 8) → k ≡ (base_entry b i).inside
  unfolding base_entry entry_in
  inside_is i e = e

  pub id_entry : (n i : ℕ) {k : ℕ} → i < n → k ≡ identity_at b (24 + 72 * i + 4) → k ≡ id_at b n i
  unfolding id_at base_entry entry_in
  id_entry n i h e = rw (lt-ltb i n h) e

  pub id_aside : (n i : ℕ) {k : ℕ} → n ≤ i → k ≡ identity_at b (36888 + 12 * (i - n)) → k ≡ id_at b n i
  unfolding id_at base_aside aside_in
  id_aside n i h e = rw (le-ltb i n h) e

pub link_is : (k : ℕ) → k % 1021 ≡ link_of k
unfolding link_of
link_is k = refl

-- ---- a search

-- the search for k along its chain has come down to q
abbrev pub Seeks : List ℕ → ℕ → ℕ → ℕ → ℕ → Type 0
Seeks b n k i q = Walk (is_id b n k) (id_key b n) (link_of k) i q

module _ (b heads next : List ℕ) (n k i : ℕ) (w : Linked (id_key b n) heads next i) where
  agree : (j : ℕ) → is_id b n k j ≡ true → id_key b n j ≡ link_of k
  unfolding is_id id_key
  agree j e = ap link_of (eqb-true (id_at b n j) k e)

  pub seek_starts : {h q : ℕ} → h ≡ link_of k → h < 1021 → q ≡ get_or heads h 0 → Seeks b n k i q
  seek_starts e l f = walk_starts (is_id b n k) (id_key b n) heads next (link_of k) i agree w (omega arith) (f ∙ rw e)

  module _ {q : ℕ} (s : Seeks b n k i q) (z : 0 < q) {x : ℕ} (e : x ≡ id_at b n (q - 1)) where
    pub seek_low : {r : ℕ} → r ≡ get_or next (q - 1) 0 → r < q
    seek_low f = walk_low (is_id b n k) (id_key b n) heads next (link_of k) i agree w s z f

    pub seek_goes : {r : ℕ} → (x ≡ k → ⊥) → r ≡ get_or next (q - 1) 0 → Seeks b n k i r
    unfolding is_id
    seek_goes d f =
        walk_goes (is_id b n k) (id_key b n) heads next (link_of k) i agree w s z (ne_eqb (id_at b n (q - 1)) k (λ y. d (e ∙ y))) f

    pub seek_found : x ≡ k → q - 1 + 1 ≡ last_to (is_id b n k) i
    unfolding is_id
    seek_found d = walk_found (is_id b n k) (id_key b n) (link_of k) i q s z (eq-eqb (id_at b n (q - 1)) k (sym e ∙ d))

pub seek_ends : (b : List ℕ) (n k i q : ℕ) → Seeks b n k i q → q ≤ 0 → 0 ≡ last_to (is_id b n k) i
seek_ends b n k i q s z = walk_ends (is_id b n k) (id_key b n) (link_of k) i q s z

-- ---- all identities

module _ (b : List ℕ) (n : ℕ) where
  pub ids_linked : (heads next heads' next' : List ℕ) (i to k h : ℕ) → Linked (id_key b n) heads next i → n ≤ 512 → to ≤ n + 512 → i < to → k ≡ id_at b n i → h ≡ link_of k → h < 1021
      → heads' ≡ set heads h (i + 1) → next' ≡ set next i (get_or heads h 0) → Linked (id_key b n) heads' next' (i + 1)
  unfolding id_key
  ids_linked heads next heads' next' i to k h w few most low e f l p q =
      linked_more (id_key b n) heads next heads' next' h i w (omega arith) (omega arith) (f ∙ ap link_of e) p q

  pub ids_next : (i k : ℕ) (o : Option ℕ) {t : Bool} (u : Bool) → t ≡ all_to i (id_new b n) → k ≡ id_at b n i → place_told o ≡ last_to (is_id b n k) i → is_some o ≡ not u → (t && u) ≡ all_to (i + 1) (id_new b n)
  unfolding id_new
  ids_next i k o u a e f g = all_next (id_new b n) i a (none_told o u g ∙ rw (f, e))

  pub ids_end : (i to : ℕ) {t : Bool} → i ≤ to → to ≤ i → t ≡ all_to i (id_new b n) → t ≡ all_to to (id_new b n)
  ids_end i to h g e = all_ends (id_new b n) i to h g e

  pub ids_linked_end : (heads next : List ℕ) (i to : ℕ) → i ≤ to → to ≤ i → Linked (id_key b n) heads next i → Linked (id_key b n) heads next to
  ids_linked_end heads next i to h g w = let e : i ≡ to = omega arith in (rw e at w)

  pub ids_none : Linked (id_key b n) (replicate 1024 0) (replicate 1024 0) 0
  ids_none = linked_none (id_key b n)

  pub ids_start : true ≡ all_to 0 (id_new b n)
  ids_start = all_none (id_new b n)
