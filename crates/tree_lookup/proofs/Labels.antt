-- The holder of a label: found in the chain of the label, the earliest of those that hold it.
-- Assumes nothing.
use Prim.Native.Nat.{ℕ, zero, suc, ◌+◌, ◌-◌, ◌*◌, ◌≤◌, ◌<◌}
use native.Mathlib.Nat.{sub-zero}
use native.Mathlib.Omega.{arith}
use mathlib.Core.Path.{◌≡◌, sym, ◌∙◌}
use mathlib.Core.Logic.{⊎_elim}
use mathlib.Core.Bool.{Bool, true, false, not, ◌&&◌}
use mathlib.Core.List.{List, [], ◌∷◌}
use lib.Dec.{eqb}
use lib.ListN.{get_or, take, drop}
use borrow.Author.Tests.{eq-eqb, ne_eqb, eqb-true, le-leb, lt-leb, not-true, not-false}
use Rattle.model.specs.Replay.{Entry, is_present, is_in, same_label, is_holder, holder_of}
use Rattle.byte_slice.proofs.Numbers.{lt_or_ge, bool_cases, and_true, not_both, test_false}
use Rattle.record_label.proofs.Same.{same_key}
use Rattle.byte_slice.proofs.Parts.{part_is}
use Rattle.model.specs.Table.{entry_in}
use Rattle.tree_table.specs.Rows.{entries_from, tree_in, row_in}
use Rattle.hash_chains.specs.Chains.{nodes_in, first_of, behind, row_at, Found}
use Rattle.hash_chains.proofs.Links.{found_none, found-next}
use Rattle.tree_maps.specs.Keys.{hash_of, chain_of}
use Rattle.tree_maps.proofs.Labels.{hash_key}
use Rattle.tree_lookup.specs.Roles.{holds_at, earlier_of, Holds}
use Rattle.tree_lookup.proofs.Working.{blank_entry, row-none, row_some, works_row}

-- ---- one row

pub not_in : (e : Entry) (f : ℕ) {t : Bool} → t ≡ is_present e → t ≡ false → t ≡ is_in f e
unfolding is_in
not_in e f p q = rw (← p, q)

pub in_if : (e : Entry) (f y : ℕ) {t : Bool} → t ≡ is_present e → t ≡ true → y ≡ e.inside → eqb y f ≡ is_in f e
unfolding is_in
in_if e f y p q r = rw (← p, q, r)

module _ (b : List ℕ) (i k f : ℕ) (label : List ℕ) (t : Bool) (h : t ≡ is_in f (entry_in b (4 + 72 * i))) where
  pub holds_not : not t ≡ true → false ≡ holds_at b k f label i
  unfolding holds_at is_holder
  holds_not g = rw (← h, not-true t g)

  pub holds_itself : (x : ℕ) → not t ≡ false → x ≡ (entry_in b (4 + 72 * i)).made → x ≡ k → not (eqb x k) ≡ holds_at b k f label i
  unfolding holds_at is_holder
  holds_itself x g e y = rw (← h, not-false t g, eq-eqb (entry_in b (4 + 72 * i)).made k (sym e ∙ y), eq-eqb x k y)

  pub holds_same : (x : ℕ) (s : Bool) → not t ≡ false → x ≡ (entry_in b (4 + 72 * i)).made → (x ≡ k → ⊥) → s ≡ same_label (take (4 + 72 * i + 24 + 32 - (4 + 72 * i + 24)) (drop (4 + 72 * i + 24) b)) label → s ≡ holds_at b k f label i
  unfolding holds_at is_holder entry_in
  holds_same x s g y z e = rw (← h, not-false t g, ne_eqb (entry_in b (4 + 72 * i)).made k (λ (w : (entry_in b (4 + 72 * i)).made ≡ k). z (y ∙ w))) (e ∙ rw (part_is b (4 + 72 * i + 24) 32))

module _ (b : List ℕ) (k f : ℕ) (t : List ℕ) (row best : ℕ) where
  pub earlier_not : best ≤ row → best ≡ earlier_of b k f t row best
  unfolding earlier_of
  earlier_not h = rw (le-leb best row h)

  pub earlier_holds : row < best → (s : Bool) → s ≡ holds_at b k f t row → s ≡ true → row ≡ earlier_of b k f t row best
  unfolding earlier_of
  earlier_holds h s e g = rw (lt-leb best row h, ← e, g)

  pub earlier_free : row < best → (s : Bool) → s ≡ holds_at b k f t row → s ≡ false → best ≡ earlier_of b k f t row best
  unfolding earlier_of
  earlier_free h s e g = rw (lt-leb best row h, ← e, g)

-- ---- the rows from i on

entries_step : (b : List ℕ) (i n : ℕ) → i < n → entries_from b i (n - i) ≡ entry_in b (4 + 72 * i) ∷ entries_from b (suc i) (n - suc i)
unfolding entries_from
entries_step b i n h = let e : n - i ≡ suc (n - suc i) = omega arith in rw e

entries_end : (b : List ℕ) (i n : ℕ) → n ≤ i → entries_from b i (n - i) ≡ []
unfolding entries_from
entries_end b i n h = let e : n - i ≡ 0 = omega arith in rw e

module _ (b : List ℕ) (n k f : ℕ) (t : List ℕ) where
  skipped : (best : ℕ) → best ≤ n → ((i : ℕ) → i < best → holds_at b k f t i ≡ false) → (j : ℕ) → j ≤ best → holder_of k f t (entries_from b j (n - j)) ≡ holder_of k f t (entries_from b 0 n)
  unfolding holder_of holds_at
  skipped best fit free zero h = rw sub-zero
  skipped best fit free (suc j) h =
      let d : is_holder k f t (entry_in b (4 + 72 * j)) ≡ false = free j (omega arith) in
      rw (entries_step b j n (omega arith), d) at (skipped best fit free j (omega arith))

  -- the first row that holds the label, or none
  first_holder : (best : ℕ) → best ≤ n → ((i : ℕ) → i < best → holds_at b k f t i ≡ false) → (best < n → holds_at b k f t best ≡ true)
      → row_in b n best ≡ holder_of k f t (entries_from b 0 n)
  unfolding holder_of holds_at
  first_holder best fit free here =
      let s = skipped best fit free best (omega arith) in
      ⊎_elim
      (λ (h : best < n).
      let d : is_holder k f t (entry_in b (4 + 72 * best)) ≡ true = here h in
      row_some b n best h ∙ (rw (entries_step b best n h, d) at s))
      (λ (h : n ≤ best). row-none b n best h ∙ (rw (entries_end b best n h) at s))
      (lt_or_ge best n)

-- ---- along the chain

-- best holds the label or is behind all rows, and every earlier row that holds it comes from the node q on
pub record Seeking (b l : List ℕ) (n k f : ℕ) (t : List ℕ) (best q : ℕ) : Type 0 where
  pub node : q ≤ nodes_in 4097 l
  pub within : best ≤ n
  pub holds : best < n → holds_at b k f t best ≡ true
  pub ahead : (i : ℕ) → i < best → holds_at b k f t i ≡ true → Found 4097 l q i

module _ (b l : List ℕ) (n m : ℕ) (w : Holds b l n m) (k f : ℕ) (t : List ℕ) where
  -- what a holder has in common with the label that is sought
  held : (i : ℕ) → i < n → holds_at b k f t i ≡ true → Found 4097 l (first_of 4097 l (hash_of f t)) i
  unfolding holds_at is_holder is_in tree_in chain_of
  held i h e =
      let x = entry_in b (4 + 72 * i) in
      let (p, g) = and_true (is_in f x) (not (eqb x.made k) && same_label x.label t) e in
      let (_, q) = and_true (not (eqb x.made k)) (same_label x.label t) g in
      let (r, s) = and_true (is_present x) (eqb x.inside f) p in
      let at : get_or (entries_from b 0 n) i blank_entry ≡ x = works_row b l n m (tree_in b n m) w i blank_entry h in
      let y = w.keyed.kept i blank_entry h (rw at r) in
      let c : chain_of (get_or (entries_from b 0 n) i blank_entry) ≡ hash_of f t = rw (at, eqb-true x.inside f s) (hash_key f x.label t (same_key x.label t q)) in
      rw c at y

  pub seek_starts : (h q : ℕ) → h ≡ hash_of f t → q ≡ first_of 4097 l h → q ≤ nodes_in 4097 l → Seeking b l n k f t n q
  seek_starts h q e g y =
      record { node = y; within = omega arith; holds = λ z. absurd (omega arith); ahead = λ i z x. rw (g, e) (held i z x) }

  module _ (best q : ℕ) (s : Seeking b l n k f t best q) where
    pub seek-row : 0 < q → (row : ℕ) → row ≡ row_at 4097 l q → row < 1024
    seek-row h row e = let a = w.rows_fit_lem in omega (arith, w.keyed.rows q h s.node)

    pub seek_goes : 0 < q → (row best' q' : ℕ) → row ≡ row_at 4097 l q → best' ≡ earlier_of b k f t row best → q' ≡ behind 4097 l q → q' < q → Seeking b l n k f t best' q'
    unfolding earlier_of
    seek_goes h row best' q' r e g low =
        let a = s.node in
        let c = s.within in
        let d = w.keyed.rows q h a in
        let next : (i : ℕ) → i < best → holds_at b k f t i ≡ true → (row ≡ i → ⊥) → Found 4097 l q' i =
        λ i z y other. ⊎_elim (λ (x : row_at 4097 l q ≡ i). absurd (other (r ∙ x))) (λ (x : Found 4097 l (behind 4097 l q) i). rw g x) (found-next 4097 l q i (s.ahead i z y)) in
        ⊎_elim
        (λ (z : row < best).
        ⊎_elim
        (λ (y : holds_at b k f t row ≡ true).
        let v : best' ≡ row = e ∙ rw (lt-leb best row z, y) in
        record {
          node = omega arith;
          within = omega arith;
          holds = λ _. rw v y;
          ahead = λ i x u. next i (omega arith) u (λ (j : row ≡ i). omega arith);
        })
        (λ (y : holds_at b k f t row ≡ false).
        let v : best' ≡ best = e ∙ rw (lt-leb best row z, y) in
        record {
          node = omega arith;
          within = omega arith;
          holds = λ x. rw v (s.holds (omega arith));
          ahead = λ i x u. next i (omega arith) u (λ (j : row ≡ i). not_both (holds_at b k f t i) u (rw j at y));
        })
        (bool_cases (holds_at b k f t row)))
        (λ (z : best ≤ row).
        let v : best' ≡ best = e ∙ rw (le-leb best row z) in
        record {
          node = omega arith;
          within = omega arith;
          holds = λ x. rw v (s.holds (omega arith));
          ahead = λ i x u. next i (omega arith) u (λ (j : row ≡ i). omega arith);
        })
        (lt_or_ge row best)

    pub seek_ends : q ≤ 0 → row_in b n best ≡ holder_of k f t (entries_from b 0 n)
    seek_ends h =
        let z : q ≡ 0 = omega arith in
        first_holder b n k f t best s.within (λ i g. test_false (holds_at b k f t i) (λ (y : holds_at b k f t i ≡ true). found_none 4097 l i (rw z at (s.ahead i g y)))) s.holds

    -- no row before the last holds the label
    pub seek_none : q ≤ 0 → n ≤ best → row_in b n n ≡ holder_of k f t (entries_from b 0 n)
    seek_none h g =
        let c = s.within in
        let e : best ≡ n = omega arith in
        rw e at (seek_ends h)
