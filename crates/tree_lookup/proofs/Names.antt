-- The roles of identities: found in their chains, and kept as the tree grows.
-- Assumes nothing.
use Prim.Native.Nat.{ℕ, zero, suc, ◌+◌, ◌-◌, ◌*◌, ◌≤◌, ◌<◌}
use native.Mathlib.Nat.{zero-add, sub-zero}
use native.Mathlib.Omega.{arith}
use mathlib.Core.Path.{◌≡◌, refl, sym, ap, ◌∙◌}
use mathlib.Core.Logic.{◌⊎◌, inl, inr, ⊎_elim}
use mathlib.Core.List.{List, [], ◌∷◌, ◌++◌}
use lib.ListN.{get_or, length, set}
use borrow.Author.Tests.{eq-eqb, ne_eqb, le-leb, lt-leb}
use Rattle.model.specs.Record.{identity_at}
use Rattle.model.specs.Replay.{Entry, Aside, Tree}
use Rattle.byte_slice.proofs.Numbers.{eq_or_ne}
use Rattle.model.specs.Table.{entry_in, aside_in}
use Rattle.tree_table.specs.Rows.{entries_from, asides_from, tree_in}
use Rattle.hash_chains.specs.Chains.{nodes_in, behind, row_at, Found}
use Rattle.hash_chains.proofs.Links.{found_none, found-next, kept_nodes, kept_chains, kept-found, kept_rows, pushed_nodes, pushed_chains, pushed_new, pushed-found, pushed_rows}
use Rattle.tree_maps.specs.Keys.{link_of, named, made_at}
use Rattle.tree_maps.proofs.Counts.{link_low, made_row}
use Rattle.tree_lookup.specs.Roles.{row_from, note_from, row_of, note_of, behind_rows, role_of, who_at, name_of, Role, HasRole, Named, Reads}
use Rattle.tree_lookup.proofs.Places.{row-at, note_at}
use Rattle.tree_lookup.proofs.Working.{blank_entry, blank_aside, entries_length, entries_at, asides_length, asides_at, behind_cases}

-- ---- roles lie within the tree

pub row_few : (k : ℕ) (t : Tree) → row_of k t ≤ length t.entries
unfolding row_of
row_few k t = go (row_from k 0 t.entries) refl
  where
    go : (r : ℕ) → row_from k 0 t.entries ≡ r → r ≤ length t.entries
    go zero e = omega arith
    go (suc j) e = let a = row-at k 0 t.entries j blank_entry e in omega (arith, a.inside)

note_few : (k : ℕ) (t : Tree) → note_of k t ≤ length t.asides
unfolding note_of
note_few k t = go (note_from k 0 t.asides) refl
  where
    go : (r : ℕ) → note_from k 0 t.asides ≡ r → r ≤ length t.asides
    go zero e = omega arith
    go (suc j) e = let a = note_at k 0 t.asides j blank_aside e in omega (arith, a.inside)

pub role_within : (t : Tree) → length t.entries ≤ 1024 → ((k : ℕ) → (row_of k t ≡ 0) ⊎ (note_of k t ≡ 0)) → (r : ℕ) → HasRole t r → Role (length t.entries) (length t.asides) r
unfolding role_of
role_within t fit apart r (h, e) =
    let k = name_of t r in
    let a = row_few k t in
    let c = note_few k t in
    ⊎_elim
    (λ (z : (note_of k t ≡ 0) × (behind_rows (note_of k t) ≡ 0)). record { least = h; most = omega (arith, z.1); within = inl (omega (arith, z.1)) })
    (λ (z : (1 ≤ note_of k t) × (behind_rows (note_of k t) ≡ 1024 + note_of k t)).
    ⊎_elim (λ (y : row_of k t ≡ 0). record { least = h; most = omega (arith, z.1); within = inr (omega (arith, z.0, z.1)) })
    (λ (y : note_of k t ≡ 0). absurd (omega (arith, z.0)))
    (apart k))
    (behind_cases (note_of k t))

-- ---- identities by their roles

who_row : (l : List Aside) (i : ℕ) (d : Aside) → i < length l → who_at l i ≡ (get_or l i d).who
unfolding who_at
who_row [] i d h = absurd (omega arith)
who_row (x ∷ l) zero d h = refl
who_row (x ∷ l) (suc i) d h = who_row l i d (omega arith)

pub who_set : (l : List Aside) (i : ℕ) (a d : Aside) → a.who ≡ (get_or l i d).who → (j : ℕ) → who_at (set l i a) j ≡ who_at l j
unfolding who_at
who_set [] i a d h j = refl
who_set (x ∷ l) zero a d h zero = h
who_set (x ∷ l) zero a d h (suc j) = refl
who_set (x ∷ l) (suc i) a d h zero = refl
who_set (x ∷ l) (suc i) a d h (suc j) = who_set l i a d h j

pub who_more : (l : List Aside) (a : Aside) (i : ℕ) → i < length l → who_at (l ++ (a ∷ [])) i ≡ who_at l i
unfolding who_at
who_more [] a i h = absurd (omega arith)
who_more (x ∷ l) a zero h = refl
who_more (x ∷ l) a (suc i) h = who_more l a i (omega arith)

pub who_new : (l : List Aside) (a : Aside) → who_at (l ++ (a ∷ [])) (length l) ≡ a.who
unfolding who_at
who_new [] a = refl
who_new (x ∷ l) a = who_new l a

pub name-row : (t : Tree) (r : ℕ) → r ≤ 1024 → name_of t r ≡ made_at t.entries (r - 1)
unfolding name_of
name-row t r h = rw (le-leb r 1024 h)

pub name_note : (t : Tree) (r : ℕ) → 1024 < r → name_of t r ≡ who_at t.asides (r - 1025)
unfolding name_of
name_note t r h = rw (lt-leb r 1024 h)

note_is : (k i : ℕ) (l : List Aside) (j : ℕ) → note_from k i l ≡ suc j → who_at l (j - i) ≡ k
unfolding note_from who_at
note_is k i [] j h = absurd (omega arith)
note_is k i (a ∷ l) j h =
    ⊎_elim
    (λ (q : a.who ≡ k).
    let z : suc i ≡ suc j = rw (eq-eqb a.who k q) at h in
    let y : j - i ≡ 0 = omega arith in
    rw y q)
    (λ (q : a.who ≡ k → ⊥).
    let g : note_from k (suc i) l ≡ suc j = rw (ne_eqb a.who k q) at h in
    let r = note_at k (suc i) l j blank_aside g in
    let y : j - i ≡ suc (j - suc i) = omega (arith, r.from) in
    rw y (note_is k (suc i) l j g))
    (eq_or_ne a.who k)

-- the role of an identity is that of no other
pub name_role : (t : Tree) → length t.entries ≤ 1024 → ((k : ℕ) → (row_of k t ≡ 0) ⊎ (note_of k t ≡ 0)) → (k : ℕ) → (role_of k t ≡ 0 → ⊥) → name_of t (role_of k t) ≡ k
unfolding role_of row_of note_of behind_rows
name_role t fit apart k h = go (row_from k 0 t.entries) (note_from k 0 t.asides) refl refl (apart k)
  where
    go : (x y : ℕ) → row_from k 0 t.entries ≡ x → note_from k 0 t.asides ≡ y → (row_from k 0 t.entries ≡ 0) ⊎ (note_from k 0 t.asides ≡ 0)
        → name_of t (row_from k 0 t.entries + behind_rows (note_from k 0 t.asides)) ≡ k
    go zero zero e f o = absurd (h (rw (e, f)))
    go (suc j) zero e f o =
        let a = row-at k 0 t.entries j blank_entry e in
        let i = rw sub-zero at a.inside in
        let z : suc j + 0 ≡ suc j = omega arith in
        let y : suc j - 1 ≡ j = omega arith in
        rw (e, f, z) (name-row t (suc j) (omega arith) ∙ rw y (made_row t.entries j blank_entry i ∙ (rw sub-zero at a.is)))
    go zero (suc j) e f o =
        let z : 0 + (1025 + j) ≡ 1025 + j = omega arith in
        let y : 1025 + j - 1025 ≡ j = omega arith in
        rw (e, f, z) (name_note t (1025 + j) (omega arith) ∙ rw y (rw sub-zero at (note_is k 0 t.asides j f)))
    go (suc i) (suc j) e f o = ⊎_elim (λ (z : row_from k 0 t.entries ≡ 0). absurd (omega arith)) (λ (z : note_from k 0 t.asides ≡ 0). absurd (omega arith)) o

-- ---- what `name_at` is asked, over plain values

module _ (b : List ℕ) (n m r : ℕ) (w : Role n m r) where
  pub name_low : n < r → 1025 ≤ r
  name_low h = ⊎_elim (λ (z : r ≤ n). absurd (omega arith)) (λ (z : 1024 < r). omega arith) w.within

  pub name-entry : n ≤ 1024 → r ≤ n → (x : ℕ) → x ≡ (entry_in b (4 + 72 * (r - 1))).made → x ≡ name_of (tree_in b n m) r
  unfolding tree_in
  name-entry fit h x e =
      let es = entries_from b 0 n in
      let z = w.least in
      let i : r - 1 < n = omega arith in
      e
      ∙ sym
      (name-row (tree_in b n m) r (omega arith)
      ∙ made_row es (r - 1) blank_entry (omega (arith, entries_length b 0 n))
      ∙ ap (λ (y : Entry). y.made) (rw (zero-add (r - 1)) at (entries_at b 0 n (r - 1) blank_entry i)))

  pub name-aside : n < r → (x : ℕ) → x ≡ identity_at b (73732 + 12 * (r - 1025)) → x ≡ name_of (tree_in b n m) r
  unfolding tree_in aside_in
  name-aside h x e =
      let l = asides_from b 0 m in
      let z = name_low h in
      let a = w.most in
      let i : r - 1025 < m = omega arith in
      e
      ∙ sym
      (name_note (tree_in b n m) r (omega arith)
      ∙ who_row l (r - 1025) blank_aside (omega (arith, asides_length b 0 m))
      ∙ ap (λ (y : Aside). y.who) (rw (zero-add (r - 1025)) at (asides_at b 0 m (r - 1025) blank_aside i)))

-- ---- along the chain

-- the role of k, if it has one, comes from the node q on
pub record Tracing (l : List ℕ) (t : Tree) (k q : ℕ) : Type 0 where
  pub node : q ≤ nodes_in 0 l
  pub ahead : (role_of k t ≡ 0 → ⊥) → Found 0 l q (role_of k t)

module _ (b l : List ℕ) (n m : ℕ) (w : Reads b l n m) (k : ℕ) where
  entries_few : length (tree_in b n m).entries ≤ 1024
  unfolding tree_in
  entries_few = let f = w.rows_fit_lem in omega (arith, entries_length b 0 n)

  module _ (q : ℕ) (s : Tracing l (tree_in b n m) k q) where
    pub trace_role : 0 < q → (role : ℕ) → role ≡ row_at 0 l q → Role n m role
    unfolding tree_in
    trace_role h role e =
        let t = tree_in b n m in
        let r = role_within t entries_few w.apart (row_at 0 l q) (w.named.roles q h s.node) in
        rw (← e, entries_length b 0 n, asides_length b 0 m) at r

    pub trace_low : 0 < q → (role : ℕ) → role ≡ row_at 0 l q → role ≤ 2048
    trace_low h role e = let f = w.notes_fit in omega (arith, (trace_role h role e).most)

    pub trace_found : 0 < q → (role x : ℕ) → role ≡ row_at 0 l q → x ≡ name_of (tree_in b n m) role → x ≡ k → role ≡ role_of k (tree_in b n m)
    trace_found h role x e g y =
        let t = tree_in b n m in
        let r = (w.named.roles q h s.node).1 in
        let z : name_of t (row_at 0 l q) ≡ k = rw (← e) (sym g ∙ y) in
        e ∙ sym (rw z at r)

    pub trace_goes : 0 < q → (role x q' : ℕ) → role ≡ row_at 0 l q → x ≡ name_of (tree_in b n m) role → (x ≡ k → ⊥) → q' ≡ behind 0 l q → q' < q → Tracing l (tree_in b n m) k q'
    trace_goes h role x q' e g y p low =
        let t = tree_in b n m in
        let a = s.node in
        let fit = entries_few in
        record {
          node = omega arith;
          ahead = λ z.
              ⊎_elim
              (λ (v : row_at 0 l q ≡ role_of k t).
              absurd (y (g ∙ rw (e, v) (name_role t fit w.apart k z))))
              (λ (v : Found 0 l (behind 0 l q) (role_of k t)). rw p v)
              (found-next 0 l q (role_of k t) (s.ahead z));
        }

    pub trace_ends : q ≤ 0 → 0 ≡ role_of k (tree_in b n m)
    trace_ends h =
        let t = tree_in b n m in
        let z : q ≡ 0 = omega arith in
        ⊎_elim (λ (v : role_of k t ≡ 0). sym v) (λ (v : role_of k t ≡ 0 → ⊥). absurd (found_none 0 l (role_of k t) (rw z at (s.ahead v)))) (eq_or_ne (role_of k t) 0)

-- ---- the register as the tree grows

-- numbers behind the chains of identities are written
pub named-kept : (l m : List ℕ) (t : Tree) → Named l t → length m ≡ length l → ((i : ℕ) → i < 4097 → get_or m i 0 ≡ get_or l i 0) → Named m t
named-kept l m t w long same =
    let c = w.chains in
    let s : (i : ℕ) → 0 ≤ i → i < 0 + 4097 → get_or m i 0 ≡ get_or l i 0 = λ i _ h. same i (omega arith) in
    record {
      chains = kept_chains 0 l m c s long;
      count = kept_nodes 0 l m c s ∙ w.count;
      roles = kept_rows 0 l m c s (λ x. HasRole t x) w.roles;
      found = λ k u h. kept-found 0 l m c s (link_of k) (role_of k t) (link_low k) (w.found k u h);
    }

-- the tree changes, but no role
pub named_same : (l : List ℕ) (t u : Tree) → Named l t → length u.entries ≡ length t.entries → length u.asides ≡ length t.asides → ((k : ℕ) → role_of k u ≡ role_of k t)
    → ((r : ℕ) → name_of u r ≡ name_of t r) → Named l u
named_same l t u w p q same name =
    record {
      chains = w.chains;
      count = rw (p, q) w.count;
      roles = λ i a b. let x = w.roles i a b in (x.0, rw (name (row_at 0 l i), same (name_of t (row_at 0 l i))) x.1);
      found = λ k r h. rw (same k) (w.found k r (λ z. h (same k ∙ z)));
    }

-- an identity more
pub named_more : (l : List ℕ) (t u : Tree) (k role : ℕ) → Named l t → nodes_in 0 l < 1536 → role_of k t ≡ 0 → role_of k u ≡ role → 1 ≤ role → name_of u role ≡ k
    → ((j : ℕ) → (j ≡ k → ⊥) → role_of j u ≡ role_of j t) → ((r : ℕ) → HasRole t r → name_of u r ≡ name_of t r)
    → length u.entries + length u.asides ≡ length t.entries + length t.asides + 1 → Named (named l k role) u
unfolding named
named_more l t u k role w room fresh new least is same name more =
    let c = w.chains in
    let h = link_of k in
    let low = link_low k in
    record {
      chains = pushed_chains 0 l h role c room low;
      count = pushed_nodes 0 l h role c room low ∙ omega (arith, w.count);
      roles = pushed_rows 0 l h role c room low (λ x. HasRole u x) (least, rw is new)
          (λ q a b.
          let x = w.roles q a b in
          let r = row_at 0 l q in
          let other : name_of t r ≡ k → ⊥ = λ (z : name_of t r ≡ k). let y : role_of k t ≡ r = rw z at x.1 in omega (arith, x.0) in
          (x.0, rw (name r x, same (name_of t r) other) x.1));
      found = λ j v g.
          ⊎_elim (λ (z : j ≡ k). rw (z, new) (pushed_new 0 l h role c room low))
          (λ (z : j ≡ k → ⊥).
          rw (same j z) (pushed-found 0 l h role c room low (link_of j) (role_of j t) (link_low j) (w.found j v (λ y. g (same j z ∙ y)))))
          (eq_or_ne j k);
    }
