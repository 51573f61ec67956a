-- The first condition by marks: as many names as records, each ours and none marked before its turn.
-- Assumes nothing.
use Prim.Native.Nat.{ℕ, suc, ◌+◌, ◌≤◌, ◌<◌}
use native.Mathlib.Omega.{arith}
use mathlib.Core.Path.{◌≡◌, refl, sym, ap, ◌∙◌, subst}
use mathlib.Core.Logic.{◌⊎◌, inl, inr, ⊎_elim}
use mathlib.Core.Bool.{Bool, true, false, cond, not, ◌&&◌, ◌||◌, false≢true}
use mathlib.Core.List.{List, [], ◌∷◌}
use lib.Dec.{leb, eqb}
use lib.ListN.{get_or, length, set, length-set}
use lib.Seq.{get_or-set_same, get_or-set_other}
use borrow.Author.Tests.{eq-eqb, ne_eqb, eqb-true, le-leb, leb-true}
use Rattle.model.specs.Record.{Rec, identity, unit_of, number_of, unit, num, self_of}
use Rattle.model.specs.Log.{count, vector_of}
use Rattle.byte_slice.proofs.Numbers.{eq_or_ne, or_true, and_true, true_and}
use Rattle.log_laws.specs.Members.{Has as Member}
use Rattle.log_laws.specs.Sound.{Sound}
use Rattle.log_laws.proofs.Counts.{find_held, number_held, own_of, unit_of_lem}
use Rattle.log_laws.proofs.Tests.{vector_of_get_d}
use Rattle.log_closure.specs.Tables.{slot_of}
use Rattle.log_admit.proofs.Tables.{slot_below, slot_apart}
use Rattle.log_admit.proofs.Counts.{count_few}
use Rattle.tree_laws.specs.Replayed.{Has, Distinct, selves}
use Rattle.tree_laws.proofs.Seen.{sound_distinct}
use Rattle.order_model.specs.Order.{times, each_once, is_held, all_held, names_all}
use Rattle.order_laws.specs.Marking.{is_ours, mark_slot, is_new, marks_all}
use Rattle.order_laws.proofs.Rank.{self_unit, self_num, times-nil, times_own, times_other, member_selves, all_once, has_held}

-- ---- tests

pub both_ways : (a b : Bool) → (a ≡ true → b ≡ true) → (b ≡ true → a ≡ true) → a ≡ b
both_ways true b f g = sym (f refl)
both_ways false true f g = g refl
both_ways false false f g = refl

pub and_same : (a b c d : Bool) → a ≡ c → (a ≡ true → b ≡ d) → (a && b) ≡ (c && d)
and_same true b c d e f = f refl ∙ ap (λ (x : Bool). x && d) e
and_same false b c d e f = ap (λ (x : Bool). x && d) e

-- ---- names that are held

pub held_means : (l : List Rec) (k : ℕ) → is_held k l ≡ true → (s : Rec) × Member s l × (self_of s ≡ k)
unfolding is_held
held_means [] k e = absurd (false≢true e)
held_means (r ∷ l) k e =
    ⊎_elim
    (λ a. (r, inl refl, eqb-true (self_of r) k a))
    (λ a. let (s, i, q) = held_means l k a in (s, inr i, q))
    (or_true (eqb (self_of r) k) (is_held k l) e)

pub means_held : (l : List Rec) (k : ℕ) (s : Rec) → Member s l → self_of s ≡ k → is_held k l ≡ true
means_held l k s i q = subst (λ (j : ℕ). is_held j l ≡ true) q (has_held l s i)

pub parts_self : (s : Rec) (k : ℕ) → unit s ≡ unit_of k → num s ≡ number_of k → self_of s ≡ k
unfolding self_of identity
parts_self s k a b = omega arith

ours_held : (l : List Rec) (k : ℕ) → Sound l → is_ours (vector_of l) k ≡ true → is_held k l ≡ true
unfolding is_ours
ours_held l k h e =
    let (a, b) = and_true (leb 1 (number_of k)) (leb (number_of k) (get_or (vector_of l) (unit_of k) 0)) e in
    let m : unit_of k < 8 = omega arith in
    let (s, i, p, q) = find_held l (unit_of k) (number_of k) h (omega (arith, leb-true 1 (number_of k) a)) (omega (arith, leb-true (number_of k) (get_or (vector_of l) (unit_of k) 0) b, vector_of_get_d l (unit_of k) m)) in
    means_held l k s i (parts_self s k p q)

-- a held name has a number from 1 to the count of its unit
pub held_number : (l : List Rec) (k : ℕ) → Sound l → is_held k l ≡ true → (1 ≤ number_of k) × (number_of k ≤ count (unit_of k) l)
held_number l k h e =
    let (s, i, q) = held_means l k e in
    let b = unit_of_lem [] l s h i in
    let u : unit_of k ≡ unit s = ap (λ (j : ℕ). unit_of j) (sym q) ∙ self_unit s b in
    let n : number_of k ≡ num s = ap (λ (j : ℕ). number_of j) (sym q) ∙ self_num s b in
    (omega (arith, own_of [] l s h i), rw (u, n) (number_held l s h i))

held_ours : (l : List Rec) (k : ℕ) → Sound l → is_held k l ≡ true → is_ours (vector_of l) k ≡ true
unfolding is_ours
held_ours l k h e =
    let (a, b) = held_number l k h e in
    let m : unit_of k < 8 = omega arith in
    true_and (leb 1 (number_of k)) (leb (number_of k) (get_or (vector_of l) (unit_of k) 0)) (le-leb 1 (number_of k) a) (le-leb (number_of k) (get_or (vector_of l) (unit_of k) 0) (omega (arith, vector_of_get_d l (unit_of k) m)))

held_few : (l : List Rec) (k : ℕ) → Sound l → length l ≤ 512 → is_held k l ≡ true → number_of k ≤ 512
held_few l k h f e = omega (arith, (held_number l k h e).1, count_few (unit_of k) l)

pub mark_below : (l : List Rec) (k : ℕ) → Sound l → length l ≤ 512 → is_held k l ≡ true → mark_slot k < 4096
unfolding mark_slot
mark_below l k h f e = slot_below (unit_of k) (number_of k) (omega arith) (held_number l k h e).0 (held_few l k h f e)

mark_apart : (l : List Rec) (j k : ℕ) → Sound l → length l ≤ 512 → is_held j l ≡ true → is_held k l ≡ true → (j ≡ k → ⊥) → mark_slot j ≡ mark_slot k → ⊥
unfolding mark_slot
mark_apart l j k h f a b d e =
    slot_apart (unit_of j) (number_of j) (unit_of k) (number_of k) (held_number l j h a).0 (held_few l j h f a) (held_number l k h b).0 (held_few l k h f b)
    (λ p. d (omega (arith, p.0, p.1))) e

-- ---- how often a name comes

pub times_more : (j k : ℕ) (ks : List ℕ) → times j ks ≤ times j (k ∷ ks)
times_more j k ks =
    ⊎_elim
    (λ e. subst (λ (x : ℕ). times x ks ≤ times x (k ∷ ks)) e (omega (arith, times_own k ks)))
    (λ d. omega (arith, times_other j k ks d))
    (eq_or_ne k j)

times_plus : (j k : ℕ) (ks : List ℕ) → times j (k ∷ ks) ≡ times j (k ∷ []) + times j ks
times_plus j k ks =
    ⊎_elim
    (λ e. subst (λ (x : ℕ). times x (k ∷ ks) ≡ times x (k ∷ []) + times x ks) e (omega (arith, times_own k ks, times_own k [], times-nil k)))
    (λ d. omega (arith, times_other j k ks d, times_other j k [] d, times-nil j))
    (eq_or_ne k j)

-- no name comes twice
abbrev pub Apart : List ℕ → Type 0
Apart [] = Unit {0}
Apart (k ∷ ks) = (times k ks ≡ 0) × Apart ks

apart_most : (ks : List ℕ) → Apart ks → (j : ℕ) → times j ks ≤ 1
apart_most [] h j = omega (arith, times-nil j)
apart_most (k ∷ ks) h j =
    ⊎_elim
    (λ e. subst (λ (x : ℕ). times x (k ∷ ks) ≤ 1) e (omega (arith, times_own k ks, h.0)))
    (λ d. omega (arith, times_other j k ks d, apart_most ks h.1 j))
    (eq_or_ne k j)

pub held_head : (k : ℕ) (ks : List ℕ) (l : List Rec) → all_held (k ∷ ks) l ≡ true → (is_held k l ≡ true) × (all_held ks l ≡ true)
unfolding all_held
held_head k ks l e = and_true (is_held k l) (all_held ks l) e

most_apart : (ks : List ℕ) (l : List Rec) → all_held ks l ≡ true → ((j : ℕ) → is_held j l ≡ true → times j ks ≤ 1) → Apart ks
most_apart [] l e h = tt
most_apart (k ∷ ks) l e h =
    let (a, b) = held_head k ks l e in
    (omega (arith, h k a, times_own k ks), most_apart ks l b (λ j i. omega (arith, h j i, times_more j k ks)))

pub once_at : (ks : List ℕ) (l : List Rec) (r : Rec) → each_once ks l ≡ true → Member r l → times (self_of r) ks ≡ 1
unfolding each_once
once_at ks [] r e i = absurd i
once_at ks (x ∷ l) r e (inl q) = ap (λ (s : Rec). times (self_of s) ks) q ∙ eqb-true (times (self_of x) ks) 1 (and_true (eqb (times (self_of x) ks) 1) (each_once ks l) e).0
once_at ks (x ∷ l) r e (inr i) = once_at ks l r (and_true (eqb (times (self_of x) ks) 1) (each_once ks l) e).1 i

pub names_apart : (ks : List ℕ) (l : List Rec) → each_once ks l ≡ true → all_held ks l ≡ true → Apart ks
names_apart ks l e f =
    most_apart ks l f (λ j i.
    let (s, a, q) = held_means l j i in
    subst (λ (x : ℕ). times x ks ≤ 1) q (omega (arith, once_at ks l s e a)))

-- ---- as many names as records

-- how often the records come among the names
unfoldable pub total : List ℕ → List Rec → ℕ
total ks [] = 0
total ks (r ∷ l) = times (self_of r) ks + total ks l

total_nil : (l : List Rec) → total [] l ≡ 0
unfolding total
total_nil [] = refl
total_nil (r ∷ l) = omega (arith, times-nil (self_of r), total_nil l)

total_cons : (k : ℕ) (ks : List ℕ) (l : List Rec) → total (k ∷ ks) l ≡ total (k ∷ []) l + total ks l
unfolding total
total_cons k ks [] = refl
total_cons k ks (r ∷ l) = omega (arith, times_plus (self_of r) k ks, total_cons k ks l)

total_zero : (k : ℕ) (l : List Rec) → ((s : Rec) → Member s l → k ≡ self_of s → ⊥) → total (k ∷ []) l ≡ 0
unfolding total
total_zero k [] d = refl
total_zero k (r ∷ l) d = omega (arith, times_other (self_of r) k [] (d r (inl refl)), times-nil (self_of r), total_zero k l (λ s i. d s (inr i)))

total_one : (l : List Rec) (s : Rec) → Distinct (selves l) → Member s l → total (self_of s ∷ []) l ≡ 1
unfolding total selves
total_one [] s d i = absurd i
total_one (x ∷ l) s d (inl e) =
    subst (λ (t : Rec). times (self_of x) (self_of t ∷ []) + total (self_of t ∷ []) l ≡ 1) (sym e)
    (omega (arith, times_own (self_of x) [], times-nil (self_of x), total_zero (self_of x) l (λ t i q. d.0 (subst (λ (k : ℕ). Has k (selves l)) (sym q) (member_selves l t i)))))
total_one (x ∷ l) s d (inr i) =
    omega (arith, times_other (self_of x) (self_of s) [] (λ q. d.0 (subst (λ (k : ℕ). Has k (selves l)) q (member_selves l s i))), times-nil (self_of x), total_one l s d.1 i)

total_length : (ks : List ℕ) (l : List Rec) → Sound l → all_held ks l ≡ true → total ks l ≡ length ks
total_length [] l h e = total_nil l
total_length (k ∷ ks) l h e =
    let (a, b) = held_head k ks l e in
    let (s, i, q) = held_means l k a in
    let o : total (k ∷ []) l ≡ 1 = subst (λ (j : ℕ). total (j ∷ []) l ≡ 1) q (total_one l s (sound_distinct l h) i) in
    omega (arith, total_cons k ks l, total_length ks l h b)

each_total : (ks : List ℕ) (l : List Rec) → ((r : Rec) → Member r l → times (self_of r) ks ≡ 1) → total ks l ≡ length l
unfolding total
each_total ks [] h = refl
each_total ks (r ∷ l) h = omega (arith, h r (inl refl), each_total ks l (λ s i. h s (inr i)))

total_most : (ks : List ℕ) (l : List Rec) → ((j : ℕ) → times j ks ≤ 1) → total ks l ≤ length l
unfolding total
total_most ks [] h = omega arith
total_most ks (r ∷ l) h = omega (arith, h (self_of r), total_most ks l h)

total_each : (ks : List ℕ) (l : List Rec) → ((j : ℕ) → times j ks ≤ 1) → total ks l ≡ length l → (r : Rec) → Member r l → times (self_of r) ks ≡ 1
unfolding total
total_each ks [] h e r i = absurd i
total_each ks (x ∷ l) h e r (inl q) = ap (λ (s : Rec). times (self_of s) ks) q ∙ omega (arith, h (self_of x), total_most ks l h)
total_each ks (x ∷ l) h e r (inr i) = total_each ks l h (omega (arith, h (self_of x), total_most ks l h)) r i

-- names that name all are as many as the records
pub once_length : (ks : List ℕ) (l : List Rec) → Sound l → each_once ks l ≡ true → all_held ks l ≡ true → length ks ≡ length l
once_length ks l h e f = sym (total_length ks l h f) ∙ each_total ks l (λ r i. once_at ks l r e i)

-- ---- the marks

module _ (l : List Rec) (h : Sound l) (f : length l ≤ 512) where
  -- each name is held, none comes twice, and what has a mark does not come
  record Marked (ks marks : List ℕ) : Type 0 where
    held : all_held ks l ≡ true
    apart : Apart ks
    free : (j : ℕ) → (get_or marks (mark_slot j) 0 ≡ 0 → ⊥) → times j ks ≡ 0

  marks_mean : (ks marks : List ℕ) → length marks ≡ 4096 → marks_all (vector_of l) marks ks ≡ true → Marked ks marks
  unfolding marks_all is_new all_held
  marks_mean [] marks n e = record { held = refl; apart = tt; free = λ j d. times-nil j }
  marks_mean (k ∷ ks) marks n e =
      let (a, b) = and_true (is_new (vector_of l) marks k) (marks_all (vector_of l) (set marks (mark_slot k) 1) ks) e in
      let (o, z) = and_true (is_ours (vector_of l) k) (eqb (get_or marks (mark_slot k) 0) 0) a in
      let q = ours_held l k h o in
      let w = eqb-true (get_or marks (mark_slot k) 0) 0 z in
      let v = marks_mean ks (set marks (mark_slot k) 1) (length-set marks (mark_slot k) 1 ∙ n) b in
      let g = get_or-set_same marks (mark_slot k) 1 0 (omega (arith, mark_below l k h f q)) in
      record {
        held = true_and (is_held k l) (all_held ks l) q v.held;
        apart = (v.free k (λ y. omega arith), v.apart);
        free = λ j d.
            times_other j k ks (λ y. d (ap (λ (x : ℕ). get_or marks (mark_slot x) 0) (sym y) ∙ w))
            ∙ v.free j (λ y. d (sym (get_or-set_other marks (mark_slot k) (mark_slot j) 1 0
            (λ s. d (ap (λ (x : ℕ). get_or marks x 0) s ∙ w))) ∙ y));
      }

  mean_marks : (ks marks : List ℕ) → length marks ≡ 4096 → all_held ks l ≡ true → Apart ks → ((j : ℕ) → is_held j l ≡ true → 1 ≤ times j ks → get_or marks (mark_slot j) 0 ≡ 0) → marks_all (vector_of l) marks ks ≡ true
  unfolding marks_all is_new
  mean_marks [] marks n e a z = refl
  mean_marks (k ∷ ks) marks n e a z =
      let (q, b) = held_head k ks l e in
      true_and (is_new (vector_of l) marks k) (marks_all (vector_of l) (set marks (mark_slot k) 1) ks)
      (true_and (is_ours (vector_of l) k) (eqb (get_or marks (mark_slot k) 0) 0) (held_ours l k h q) (eq-eqb (get_or marks (mark_slot k) 0) 0 (z k q (omega (arith, times_own k ks)))))
      (mean_marks ks (set marks (mark_slot k) 1) (length-set marks (mark_slot k) 1 ∙ n) b a.1 (λ j i t.
      get_or-set_other marks (mark_slot k) (mark_slot j) 1 0
      (mark_apart l j k h f i q (λ y. let x : 1 ≤ times k ks = subst (λ (m : ℕ). 1 ≤ times m ks) y t in omega (arith, a.0)))
      ∙ z j i (omega (arith, times_more j k ks))))

  -- the first condition, as the code finds it
  pub names_by_marks : (ks marks : List ℕ) → length marks ≡ 4096 → ((i : ℕ) → get_or marks i 0 ≡ 0) → names_all ks l ≡ (eqb (length ks) (length l) && marks_all (vector_of l) marks ks)
  unfolding names_all
  names_by_marks ks marks n z =
      both_ways (each_once ks l && all_held ks l) (eqb (length ks) (length l) && marks_all (vector_of l) marks ks)
      (λ e.
      let (a, b) = and_true (each_once ks l) (all_held ks l) e in
      true_and (eqb (length ks) (length l)) (marks_all (vector_of l) marks ks) (eq-eqb (length ks) (length l) (once_length ks l h a b)) (mean_marks ks marks n b (names_apart ks l a b) (λ j i t. z (mark_slot j))))
      (λ e.
      let (a, b) = and_true (eqb (length ks) (length l)) (marks_all (vector_of l) marks ks) e in
      let v = marks_mean ks marks n b in
      true_and (each_once ks l) (all_held ks l)
      (all_once ks l (total_each ks l (apart_most ks v.apart) (total_length ks l h v.held ∙ eqb-true (length ks) (length l) a)))
      v.held)
