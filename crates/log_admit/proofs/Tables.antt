-- What the tables say of the records held, and what one record more does to them.
-- Assumes nothing.
use Prim.Native.Nat.{ℕ, zero, suc, ◌+◌, ◌-◌, ◌*◌, ◌≤◌, ◌<◌}
use native.Mathlib.Omega.{arith}
use mathlib.Core.Path.{◌≡◌, refl, sym, ◌∙◌, subst}
use mathlib.Core.Logic.{◌⊎◌, inl, inr, ⊎_elim}
use mathlib.Core.Bool.{Bool, true, false, cond, ◌&&◌}
use mathlib.Core.Option.{none, some}
use mathlib.Core.List.{List, [], ◌∷◌}
use lib.Dec.{leb, eqb}
use lib.ListN.{get_or, length, set, length-set}
use lib.Seq.{get_or-set_same, get_or-set_other, ext_get_or}
use borrow.Author.Tests.{lt-ltb, le-ltb, le-leb, lt-leb}
use Rattle.model.specs.Numbers.{not_next, not_closed}
use Rattle.model.specs.Bytes.{put_at}
use Rattle.model.specs.Vector.{covers}
use Rattle.model.specs.Record.{Rec, unit, num, seen, seen_vector, well_formed}
use Rattle.model.specs.Log.{rank, count, count_on, vector_on, by_id, all_to, is_next, is_within, is_closed, nowhere_above, rises, record_fault}
use Rattle.byte_slice.proofs.Numbers.{lt_or_ge, eq_or_ne, bool_cases}
use Rattle.byte_slice.proofs.PutAt.{length-put, part-put, part_put_before}
use Rattle.log_closure.specs.Tables.{slot_of, position_of, row_at, unit_closed, closed_by, join_fault, fault_by, floor_of, Placed, Stands, Indexed}
use Rattle.log_admit.proofs.Counts.{count_few, vector_cons, by_id_same, by_id_other, Alike, alike_vector}
use Rattle.vector.proofs.Dominance.{covers_at}
use Rattle.log_laws.proofs.Counts.{count-cons}
use Rattle.log_laws.proofs.Formed.{well_unit}
use Rattle.log_laws.proofs.Tests.{vector_on-length, vector_on_get_d, seen_vector-length, seen_vector_get_d}

-- ---- slots

pub slot_below : (u c : ℕ) → u < 8 → 1 ≤ c → c ≤ 512 → slot_of u c < 4096
unfolding slot_of
slot_below u c h l k = omega arith

pub slot_apart : (u c w d : ℕ) → 1 ≤ c → c ≤ 512 → 1 ≤ d → d ≤ 512 → ((u ≡ w) × (c ≡ d) → ⊥) → slot_of u c ≡ slot_of w d → ⊥
unfolding slot_of
slot_apart u c w d a b e f n q =
    let h : u ≡ w = omega arith in
    n (h, omega arith)

-- ---- tests

all_same : (n : ℕ) (p q : ℕ → Bool) → ((u : ℕ) → u < n → p u ≡ q u) → all_to n p ≡ all_to n q
unfolding all_to
all_same zero p q h = refl
all_same (suc n) p q h = rw (all_same n p q (λ u k. h u (omega arith)), h n (omega arith))

rises_is : (m : List Rec) (r : Rec) → rises m r ≡ leb (floor_of m) (rank r)
unfolding rises floor_of
rises_is [] r = sym (le-leb 0 (rank r) (omega arith))
rises_is (s ∷ l) r =
    ⊎_elim
    (λ e. lt-ltb (rank s) (rank r) e ∙ sym (le-leb (suc (rank s)) (rank r) e))
    (λ e. le-ltb (rank s) (rank r) e ∙ sym (lt-leb (suc (rank s)) (rank r) (omega arith)))
    (lt_or_ge (rank s) (rank r))

-- ---- what the tables say

module _ (base : List ℕ) (at : ℕ → Rec) (top : ℕ) (m : List Rec) (held places seens : List ℕ) (h : Indexed base at top m held places seens) where
  pub held_at : (u : ℕ) → u < 8 → get_or held u 0 ≡ count_on base u m
  held_at u k = rw h.counts (vector_on_get_d base m u k)

  pub indexed_placed : Placed base held places
  indexed_placed =
      record {
        few = λ u k. omega (arith, held_at u k, count_few u m, h.few);
        inside = λ u c k l g. omega (arith, (h.stands u c k l (omega (arith, held_at u k))).below, h.room);
      }

  -- the seen of the record of a count is nowhere above, by the tables and by the list
  closed_unit : (r : Rec) → covers held (seen_vector r) ≡ true → (u : ℕ) → u < 8
      → unit_closed base places seens (seen_vector r) u ≡ cond (leb (seen r u) (get_or base u 0)) true (nowhere_above r (by_id u (seen r u) m))
  unfolding unit_closed nowhere_above
  closed_unit r w u k =
      rw (seen_vector_get_d r u k)
      (⊎_elim
      (λ (e : get_or base u 0 < seen r u).
      let s = h.stands u (seen r u - get_or base u 0) k (omega arith) (omega (arith, covers_at held (seen_vector r) w u k, held_at u k, seen_vector_get_d r u k)) in
      let c : get_or base u 0 + (seen r u - get_or base u 0) ≡ seen r u = omega arith in
      let f : by_id u (seen r u) m ≡ some (at (position_of places u (seen r u - get_or base u 0))) = rw c at s.found in
      rw (lt-leb (seen r u) (get_or base u 0) e, f, s.row))
      (λ (e : seen r u ≤ get_or base u 0). rw (le-leb (seen r u) (get_or base u 0) e))
      (lt_or_ge (get_or base u 0) (seen r u)))

  closed_is : (r : Rec) → covers held (seen_vector r) ≡ true → closed_by base places seens (seen_vector r) ≡ is_closed base m r
  unfolding closed_by is_closed
  closed_is r w = all_same 8 (unit_closed base places seens (seen_vector r)) _ (closed_unit r w)

  next_is : (r : Rec) → unit r < 8 → eqb (num r) (suc (get_or held (unit r) 0)) ≡ is_next base m r
  unfolding is_next
  next_is r k = rw (held_at (unit r) k)

  within_is : (r : Rec) → covers held (seen_vector r) ≡ is_within base m r
  unfolding is_within
  within_is r = rw h.counts

  -- joining, by the tables and by the list
  pub join_is : (r : Rec) → unit r < 8 → join_fault base held places seens r ≡ cond (is_next base m r && is_within base m r) (cond (is_closed base m r) 0 not_closed) not_next
  unfolding join_fault
  join_is r k =
      rw (next_is r k, ← within_is r)
      (⊎_elim
      (λ (c : covers held (seen_vector r) ≡ true). rw (closed_is r c))
      (λ (c : covers held (seen_vector r) ≡ false). rw c (none_within (is_next base m r) (closed_by base places seens (seen_vector r)) (is_closed base m r)))
      (bool_cases (covers held (seen_vector r))))
    where
      none_within : (t a b : Bool) → ◌≡◌ {A = ℕ} (cond (t && false) (cond a 0 9) 8) (cond (t && false) (cond b 0 9) 8)
      none_within true a b = refl
      none_within false a b = refl

  pub fault_is : (floor : ℕ) → floor ≡ floor_of m → (r : Rec) → fault_by base floor held places seens r ≡ record_fault base m r
  unfolding fault_by record_fault
  fault_is floor f r =
      ⊎_elim
      (λ (w : well_formed r ≡ true). rw (w, f, rises_is m r, join_is r (well_unit r w)))
      (λ (w : well_formed r ≡ false). rw w)
      (bool_cases (well_formed r))

-- ---- what changes

-- the identity u.c is that of r, or it was held before
old_or_new : (base : List ℕ) (r : Rec) (m : List Rec) → num r ≡ suc (count_on base (unit r) m) → (u c : ℕ) → c ≤ count u (r ∷ m)
    → ((unit r ≡ u) × (num r - get_or base (unit r) 0 ≡ c)) ⊎ ((c ≤ count u m) × ((unit r ≡ u) × (num r ≡ get_or base u 0 + c) → ⊥))
old_or_new base r m n u c k =
    ⊎_elim
    (λ (a : (unit r ≡ u) × (count u (r ∷ m) ≡ suc (count u m))).
    let q : num r ≡ suc (count_on base u m) = rw a.0 at n in
    ⊎_elim
    (λ (e : num r ≡ get_or base u 0 + c). inl (a.0, rw a.0 (omega arith)))
    (λ (e : num r ≡ get_or base u 0 + c → ⊥). inr (omega arith, λ s. e s.1))
    (eq_or_ne (num r) (get_or base u 0 + c)))
    (λ (a : (unit r ≡ u → ⊥) × (count u (r ∷ m) ≡ count u m)). inr (omega arith, λ s. a.0 s.0))
    (count-cons u r m)

module _ (base : List ℕ) (at : ℕ → Rec) (top : ℕ) (m : List Rec) (held places seens : List ℕ) (h : Indexed base at top m held places seens) where
  module _ (r : Rec) (p : ℕ) (u8 : unit r < 8) (n : num r ≡ suc (count_on base (unit r) m)) (k : length m < 512) (lo : top ≤ p) (hi : p < 518) (e : at p ≡ r) where
    -- the relative number
    nth : ℕ
    nth = num r - get_or base (unit r) 0

    nth_is : nth ≡ suc (count (unit r) m)
    unfolding nth
    nth_is = omega arith

    number_is : get_or base (unit r) 0 + nth ≡ num r
    unfolding nth
    number_is = omega arith

    slots : List ℕ
    slots = set places (slot_of (unit r) nth) p

    rows : List ℕ
    rows = put_at seens (8 * p) (seen_vector r)

    slot_new : position_of slots (unit r) nth ≡ p
    unfolding position_of slots
    slot_new =
        get_or-set_same places (slot_of (unit r) nth) p 0
        (omega (arith, h.places_long, slot_below (unit r) nth u8 (omega (arith, nth_is)) (omega (arith, nth_is, count_few (unit r) m))))

    slot_old : (u c : ℕ) → 1 ≤ c → c ≤ count u m → ((unit r ≡ u) × (num r ≡ get_or base u 0 + c) → ⊥) → position_of slots u c ≡ position_of places u c
    unfolding position_of slots
    slot_old u c l g d =
        get_or-set_other places (slot_of (unit r) nth) (slot_of u c) p 0
        (slot_apart u c (unit r) nth l (omega (arith, count_few u m)) (omega (arith, nth_is)) (omega (arith, nth_is, count_few (unit r) m)) clash)
      where
        clash : (u ≡ unit r) × (c ≡ nth) → ⊥
        clash s = d (sym s.0, rw (s.0, s.1) (sym number_is))

    row_new : row_at rows p ≡ seen_vector r
    unfolding row_at rows
    row_new = rw (seen_vector-length r) at (part-put seens (8 * p) (seen_vector r) (omega (arith, h.seens_long)))

    row_old : (q : ℕ) → q < top → row_at rows q ≡ row_at seens q
    unfolding row_at rows
    row_old q g = part_put_before seens (8 * p) (seen_vector r) (8 * q) 8 (omega arith) (omega (arith, h.seens_long))

    stands_new : Stands base at (suc p) (r ∷ m) slots rows (unit r) nth
    stands_new =
        record {
          below = rw slot_new (omega arith);
          found = rw (slot_new, e, number_is) (by_id_same r m (unit r) (num r) refl refl);
          row = rw (slot_new, e) row_new;
        }

    stands_old : (u c : ℕ) → u < 8 → 1 ≤ c → c ≤ count u m → ((unit r ≡ u) × (num r ≡ get_or base u 0 + c) → ⊥) → Stands base at (suc p) (r ∷ m) slots rows u c
    stands_old u c v l g d =
        let s = h.stands u c v l g in
        record {
          below = rw (slot_old u c l g d) (omega (arith, s.below));
          found = rw (slot_old u c l g d, by_id_other r m u (get_or base u 0 + c) d) s.found;
          row = rw (slot_old u c l g d, row_old (position_of places u c) s.below) s.row;
        }

    -- the record r at the position p is noted
    pub indexed_note : Indexed base at (suc p) (r ∷ m) (set held (unit r) (get_or held (unit r) 0 + 1)) (set places (slot_of (unit r) (num r - get_or base (unit r) 0)) p) (put_at seens (8 * p) (seen_vector r))
    unfolding nth slots rows
    indexed_note =
        record {
          counts = rw h.counts (sym (vector_cons base r m u8));
          places_long = simp length-set h.places_long;
          seens_long = length-put seens (8 * p) (seen_vector r) (omega (arith, seen_vector-length r, h.seens_long)) ∙ h.seens_long;
          few = omega arith;
          room = omega arith;
          stands = λ u c v l g. ⊎_elim
              (λ (s : (unit r ≡ u) × (nth ≡ c)). subst (λ (w : ℕ). Stands base at (suc p) (r ∷ m) slots rows w c) s.0 (subst (λ (w : ℕ). Stands base at (suc p) (r ∷ m) slots rows (unit r) w) s.1 stands_new))
              (λ s. stands_old u c v l s.0 s.1)
              (old_or_new base r m n u c g);
          beyond = λ u c g. past u c g (count-cons u r m);
        }
      where
        past : (u c : ℕ) → count_on base u (r ∷ m) < c → ((unit r ≡ u) × (count u (r ∷ m) ≡ suc (count u m))) ⊎ ((unit r ≡ u → ⊥) × (count u (r ∷ m) ≡ count u m)) → by_id u c (r ∷ m) ≡ none
        past u c g (inl a) =
            let q : num r ≡ suc (count_on base u m) = rw a.0 at n in
            by_id_other r m u c (λ s. omega (arith, s.1)) ∙ h.beyond u c (omega arith)
        past u c g (inr a) = by_id_other r m u c (λ s. a.0 s.0) ∙ h.beyond u c (omega arith)

  -- the same of a list that is like it, of positions that are like them, and of more room
  pub indexed_alike : (l : List Rec) → Alike m l → length l ≤ 512 → Indexed base at top l held places seens
  indexed_alike l k f =
      record {
        counts = h.counts ∙ alike_vector base k;
        places_long = h.places_long;
        seens_long = h.seens_long;
        few = f;
        room = h.room;
        stands = λ u c v o g.
            let s = h.stands u c v o (omega (arith, k.counts u)) in
            record { below = s.below; found = sym (k.records u (get_or base u 0 + c)) ∙ s.found; row = s.row };
        beyond = λ u c g. sym (k.records u c) ∙ h.beyond u c (omega (arith, k.counts u));
      }

  pub indexed_where : (to : ℕ → Rec) (more : ℕ) → top ≤ more → more ≤ 518 → ((p : ℕ) → p < top → at p ≡ to p) → Indexed base to more m held places seens
  indexed_where to more lo hi same =
      record {
        counts = h.counts;
        places_long = h.places_long;
        seens_long = h.seens_long;
        few = h.few;
        room = hi;
        stands = λ u c v o g.
            let s = h.stands u c v o g in
            record {
              below = omega (arith, s.below);
              found = rw (← same (position_of places u c) s.below) s.found;
              row = rw (← same (position_of places u c) s.below) s.row;
            };
        beyond = h.beyond;
      }

-- nothing is held
pub indexed_none : (base : List ℕ) (at : ℕ → Rec) (held places seens : List ℕ) → length base ≡ 8 → held ≡ base → length places ≡ 4096 → length seens ≡ 4144 → Indexed base at 0 [] held places seens
unfolding count by_id
indexed_none base at held places seens n e p s =
    record {
      counts = e ∙ ext_get_or 0 base (vector_on base []) (n ∙ sym (vector_on-length base [])) (λ u k.
          let b : u < 8 = omega arith in
          omega (arith, vector_on_get_d base [] u b));
      places_long = p;
      seens_long = s;
      few = omega arith;
      room = omega arith;
      stands = λ u c v l g. absurd (omega arith);
      beyond = λ u c g. refl;
    }
