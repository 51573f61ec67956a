-- The second condition by running counts: among names that name all, no record stands before one it has seen exactly if the counts of the
-- records placed cover what each has seen.
-- Assumes nothing.
use Prim.Native.Nat.{ℕ, suc, ◌+◌, ◌≤◌, ◌<◌}
use native.Mathlib.Omega.{arith}
use mathlib.Core.Path.{◌≡◌, refl, sym, ap, ◌∙◌, subst}
use mathlib.Core.Logic.{◌⊎◌, inl, inr, ⊎_elim}
use mathlib.Core.Bool.{Bool, true, not, ◌&&◌}
use mathlib.Core.Option.{Option, none, some}
use mathlib.Core.List.{List, [], ◌∷◌}
use lib.Dec.{leb}
use lib.ListN.{get_or, length, set, replicate}
use borrow.Author.Tests.{leb-false, not-true}
use Rattle.model.specs.Vector.{covers}
use Rattle.model.specs.Record.{Rec, identity, unit_of, number_of, unit, num, seen, seen_vector, self_of}
use Rattle.model.specs.Log.{count, counts_to, no_counts, vector_of, vector_on, by_id}
use Rattle.byte_slice.proofs.Numbers.{lt_or_ge, eq_or_ne, and_true, true_and}
use Rattle.vector.proofs.Dominance.{covers_at, all_covers}
use Rattle.log_laws.specs.Members.{Has as Member}
use Rattle.log_laws.specs.Sound.{Sound}
use Rattle.log_laws.proofs.Counts.{count-cons, count-nil, count_own, count_plus, find_held, unit_of_lem, own_of, seen_within}
use Rattle.log_laws.proofs.Ids.{by_id_some}
use Rattle.log_laws.proofs.Tests.{vector_of_get_d, vector_on-none, seen_vector_get_d}
use Rattle.log_admit.proofs.Counts.{vector_cons}
use Rattle.tree_laws.specs.Replayed.{Has, Distinct, selves}
use Rattle.tree_laws.proofs.Seen.{selves_member}
use Rattle.order_model.specs.Order.{times, each_once, is_held, all_held, names_all, found_first, in_order_of, has_seen, sees_none, seen_first}
use Rattle.order_laws.specs.Marking.{covers_each}
use Rattle.order_laws.proofs.Rank.{member_selves, times-nil, times_own, times_other, self_found, none_seen}
use Rattle.order_laws.proofs.Marks.{both_ways, and_same, held_means, parts_self, times_more, Apart, once_at, names_apart, held_head}

-- ---- the records in the order of their names

-- a record found comes among the names
pub in_order_named : (ks : List ℕ) (l : List Rec) (s : Rec) → Member s (in_order_of ks l) → Member s l × (1 ≤ times (self_of s) ks)
unfolding in_order_of found_first
in_order_named [] l s i = absurd i
in_order_named (k ∷ ks) l s i = go (by_id (unit_of k) (number_of k) l) refl (in_order_named ks l s) i
  where
    go : (o : Option Rec) → by_id (unit_of k) (number_of k) l ≡ o → (Member s (in_order_of ks l) → Member s l × (1 ≤ times (self_of s) ks)) → Member s (found_first o (in_order_of ks l)) → Member s l × (1 ≤ times (self_of s) (k ∷ ks))
    go none e f j = let (a, b) = f j in (a, omega (arith, times_more (self_of s) k ks))
    go (some r) e f (inl q) =
        let (a, b, c) = by_id_some (unit_of k) (number_of k) l r e in
        let p : self_of s ≡ k = ap self_of q ∙ parts_self r k b c in
        (subst (λ (t : Rec). Member t l) (sym q) a, subst (λ (j : ℕ). 1 ≤ times j (k ∷ ks)) (sym p) (omega (arith, times_own k ks)))
    go (some r) e f (inr j) = let (a, b) = f j in (a, omega (arith, times_more (self_of s) k ks))

-- a record that comes among the names is found
pub named_in_order : (ks : List ℕ) (l : List Rec) (s : Rec) → Sound l → Member s l → 1 ≤ times (self_of s) ks → Member s (in_order_of ks l)
unfolding in_order_of found_first
named_in_order [] l s h i t = absurd (omega (arith, times-nil (self_of s)))
named_in_order (k ∷ ks) l s h i t =
    ⊎_elim
    (λ e.
    let f : by_id (unit_of k) (number_of k) l ≡ some s = subst (λ (j : ℕ). by_id (unit_of j) (number_of j) l ≡ some s) (sym e) (self_found l s h i) in
    subst (λ (o : Option Rec). Member s (found_first o (in_order_of ks l))) (sym f) (inl refl))
    (λ d. go (by_id (unit_of k) (number_of k) l) (named_in_order ks l s h i (omega (arith, times_other (self_of s) k ks d))))
    (eq_or_ne k (self_of s))
  where
    go : (o : Option Rec) → Member s (in_order_of ks l) → Member s (found_first o (in_order_of ks l))
    go none j = j
    go (some r) j = inr j

-- no identity comes twice
pub in_order_distinct : (ks : List ℕ) (l : List Rec) → Apart ks → Distinct (selves (in_order_of ks l))
unfolding in_order_of found_first selves
in_order_distinct [] l a = tt
in_order_distinct (k ∷ ks) l a = go (by_id (unit_of k) (number_of k) l) refl (in_order_distinct ks l a.1)
  where
    go : (o : Option Rec) → by_id (unit_of k) (number_of k) l ≡ o → Distinct (selves (in_order_of ks l)) → Distinct (selves (found_first o (in_order_of ks l)))
    go none e f = f
    go (some r) e f =
        let (i, b, c) = by_id_some (unit_of k) (number_of k) l r e in (
          (λ j.
              let (s, x, q) = selves_member (in_order_of ks l) (self_of r) j in
              let y : 1 ≤ times k ks = subst (λ (m : ℕ). 1 ≤ times m ks) (sym q ∙ parts_self r k b c) (in_order_named ks l s x).1 in
              omega (arith, a.0)),
          f,
        )

pub held_found : (l : List Rec) (k : ℕ) → Sound l → is_held k l ≡ true → (s : Rec) × (by_id (unit_of k) (number_of k) l ≡ some s)
held_found l k h e = let (s, i, q) = held_means l k e in (s, subst (λ (j : ℕ). by_id (unit_of j) (number_of j) l ≡ some s) q (self_found l s h i))

-- as many records as names
pub in_order_length : (ks : List ℕ) (l : List Rec) → Sound l → all_held ks l ≡ true → length (in_order_of ks l) ≡ length ks
unfolding in_order_of found_first
in_order_length [] l h e = refl
in_order_length (k ∷ ks) l h e =
    let (a, b) = held_head k ks l e in
    let (s, f) = held_found l k h a in
    rw f (ap suc (in_order_length ks l h b))

-- ---- the running counts

pub none_seen_at : (r : Rec) (m : List Rec) → sees_none r m ≡ true → (s : Rec) → Member s m → seen r (unit s) < num s
unfolding sees_none has_seen
none_seen_at r [] e s i = absurd i
none_seen_at r (x ∷ m) e s (inl q) =
    rw q (leb-false (num x) (seen r (unit x)) (not-true (leb (num x) (seen r (unit x))) (and_true (not (leb (num x) (seen r (unit x)))) (sees_none r m) e).0))
none_seen_at r (x ∷ m) e s (inr i) = none_seen_at r m (and_true (not (leb (num x) (seen r (unit x)))) (sees_none r m) e).1 s i

self_same : (r s : Rec) → unit r ≡ unit s → num s ≡ num r → self_of s ≡ self_of r
unfolding self_of identity
self_same r s q n = omega arith

-- the records pre are placed, and the records m are left, of a log l
record Placing (l pre m : List Rec) : Type 0 where
  either : (s : Rec) → Member s l → Member s pre ⊎ Member s m
  from : (s : Rec) → Member s m → Member s l
  apart : Distinct (selves m)
  low : (s : Rec) → Member s pre → num s ≤ count (unit s) pre
  high : (s : Rec) → Member s m → count (unit s) pre < num s

vector_more : (r : Rec) (l : List Rec) → unit r < 8 → vector_of (r ∷ l) ≡ set (vector_of l) (unit r) (get_or (vector_of l) (unit r) 0 + 1)
vector_more r l b = sym (vector_on-none (r ∷ l)) ∙ vector_cons no_counts r l b ∙ rw (vector_on-none l)

module _ (l : List Rec) (h : Sound l) where
  sees_covers : (pre m : List Rec) (r : Rec) → Placing l pre (r ∷ m) → sees_none r m ≡ covers (vector_of pre) (seen_vector r)
  sees_covers pre m r p =
      both_ways (sees_none r m) (covers (vector_of pre) (seen_vector r))
      (λ e. all_covers (vector_of pre) (seen_vector r) (λ u b.
      ⊎_elim
      (λ k. absurd (over e u b (omega (arith, vector_of_get_d pre u b, seen_vector_get_d r u b))))
      (λ k. k)
      (lt_or_ge (get_or (vector_of pre) u 0) (get_or (seen_vector r) u 0))))
      (λ e. none_seen r m (λ s i.
      let b = unit_of_lem [] l s h (p.from s (inr i)) in
      omega (arith, p.high s (inr i), covers_at (vector_of pre) (seen_vector r) e (unit s) b, vector_of_get_d pre (unit s) b, seen_vector_get_d r (unit s) b)))
    where
      over : sees_none r m ≡ true → (u : ℕ) → u < 8 → count u pre < seen r u → ⊥
      over e u b k =
          let i = p.from r (inl refl) in
          let (s, j, a, c) = find_held l u (seen r u) h (omega arith) (seen_within l r h i u b) in
          ⊎_elim
          (λ q. let x : num s ≤ count u pre = subst (λ (w : ℕ). num s ≤ count w pre) a (p.low s q) in omega arith)
          (λ q.
          ⊎_elim
          (λ y. let z : num s ≡ seen s (unit s) = subst (λ (t : Rec). num s ≡ seen t (unit s)) (sym y) (c ∙ ap (seen r) (sym a)) in omega (arith, own_of [] l s h j))
          (λ y. let z : seen r u < num s = subst (λ (w : ℕ). seen r w < num s) a (none_seen_at r m e s y) in omega arith)
          q)
          (p.either s j)

  -- one more is placed
  placed : (pre m : List Rec) (r : Rec) → Placing l pre (r ∷ m) → covers (vector_of pre) (seen_vector r) ≡ true → Placing l (r ∷ pre) m
  unfolding selves
  placed pre m r p e =
      record {
        either = λ s i. ⊎_elim (λ a. inl (inr a)) (λ a. ⊎_elim (λ b. inl (inl b)) (λ b. inr b) a) (p.either s i);
        from = λ s i. p.from s (inr i);
        apart = p.apart.1;
        low = λ s i. ⊎_elim (λ q. rw q (omega (arith, own, count_own r pre))) (λ j. omega (arith, p.low s j, count_plus (unit s) r pre)) i;
        high = λ s i. ⊎_elim (λ a. next s i a.0 a.1) (λ a. omega (arith, a.1, p.high s (inr i))) (count-cons (unit s) r pre);
      }
    where
      b : unit r < 8
      b = unit_of_lem [] l r h (p.from r (inl refl))

      own : num r ≡ suc (count (unit r) pre)
      own =
          omega (arith, p.high r (inl refl), own_of [] l r h (p.from r (inl refl)), covers_at (vector_of pre) (seen_vector r) e (unit r) b, vector_of_get_d pre (unit r) b, seen_vector_get_d r (unit r) b)

      next : (s : Rec) → Member s m → unit r ≡ unit s → count (unit s) (r ∷ pre) ≡ suc (count (unit s) pre) → count (unit s) (r ∷ pre) < num s
      next s i q c =
          let o : num r ≡ suc (count (unit s) pre) = subst (λ (w : ℕ). num r ≡ suc (count w pre)) q own in
          ⊎_elim
          (λ n. absurd (p.apart.0 (subst (λ (k : ℕ). Has k (selves m)) (self_same r s q n) (member_selves m s i))))
          (λ n. omega (arith, p.high s (inr i)))
          (eq_or_ne (num s) (num r))

  placing_covers : (pre m : List Rec) → Placing l pre m → seen_first m ≡ covers_each (vector_of pre) m
  unfolding seen_first covers_each
  placing_covers pre [] p = refl
  placing_covers pre (r ∷ m) p =
      let q = sees_covers pre m r p in
      and_same (sees_none r m) (seen_first m) (covers (vector_of pre) (seen_vector r)) (covers_each (set (vector_of pre) (unit r) (get_or (vector_of pre) (unit r) 0 + 1)) m) q
      (λ e. placing_covers (r ∷ pre) m (placed pre m r p (sym q ∙ e)) ∙ ap (λ (v : List ℕ). covers_each v m) (vector_more r pre (unit_of_lem [] l r h (p.from r (inl refl)))))

  none_counted : vector_of [] ≡ replicate 8 0
  unfolding vector_of counts_to count
  none_counted = refl

  -- the second condition, as the code finds it
  pub seen_by_counts : (ks : List ℕ) → names_all ks l ≡ true → seen_first (in_order_of ks l) ≡ covers_each (replicate 8 0) (in_order_of ks l)
  unfolding names_all
  seen_by_counts ks e =
      let (a, b) = and_true (each_once ks l) (all_held ks l) e in
      placing_covers [] (in_order_of ks l)
      (record {
        either = λ s i. inr (named_in_order ks l s h i (omega (arith, once_at ks l s a i)));
        from = λ s i. (in_order_named ks l s i).0;
        apart = in_order_distinct ks l (names_apart ks l a b);
        low = λ s i. absurd i;
        high = λ s i. omega (arith, count-nil (unit s), own_of [] l s h (in_order_named ks l s i).0);
      })
      ∙ ap (λ (v : List ℕ). covers_each v (in_order_of ks l)) none_counted
