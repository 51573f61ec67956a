-- What the checks of a record are asked, over plain values.
-- Assumes nothing.
use Prim.Native.Nat.{ℕ, suc, ◌+◌, ◌-◌, ◌*◌, ◌≤◌, ◌<◌}
use native.Mathlib.Omega.{arith}
use mathlib.Core.Path.{◌≡◌, refl, sym, ◌∙◌}
use mathlib.Core.Bool.{Bool, true, false, cond, not, ◌&&◌}
use mathlib.Core.List.{List}
use lib.Dec.{leb, eqb}
use lib.ListN.{get_or, set}
use borrow.Author.Tests.{le-leb, lt-leb, ne_eqb, eqb-true, not-true, not-false}
use Rattle.model.specs.Bytes.{put_at}
use Rattle.model.specs.Vector.{covers}
use Rattle.model.specs.Record.{Rec, unit, num, seen_vector, well_formed}
use Rattle.model.specs.Log.{rank}
use Rattle.vector.proofs.Dominance.{covers_at}
use Rattle.log_closure.specs.Tables.{slot_of, closed_by, join_fault, fault_by, Placed, Spare, noted, admit_of}
use Rattle.log_laws.proofs.Formed.{well_unit}

pub formed : (r : Rec) (t : Bool) → t ≡ well_formed r → not t ≡ false → well_formed r ≡ true
formed r t e g = sym e ∙ not-false t g

-- what is seen lies within what is held, so its positions lie in the tables
pub placed_within : (base held s places : List ℕ) (t : Bool) → Placed base held places → t ≡ covers held s → not t ≡ false → Placed base s places
placed_within base held s places t p e g =
    let w : covers held s ≡ true = sym e ∙ not-false t g in
    record {
      few = λ u h. omega (arith, covers_at held s w u h, p.few u h);
      inside = λ u c h l k. p.inside u c h l (omega (arith, covers_at held s w u h));
    }

-- ---- a record joins those held

module _ (r : Rec) (base held places seens : List ℕ) where
  module _ (w : well_formed r ≡ true) (u : ℕ) (a : u ≡ unit r) where
    pub unit_small : u < 8
    unit_small = rw a (well_unit r w)

  module _ (u n : ℕ) (x : Bool) (a : u ≡ unit r) (b : n ≡ num r) (d : x ≡ eqb n (suc (get_or held u 0))) where
    pub join_number : not x ≡ true → 8 ≡ join_fault base held places seens r
    unfolding join_fault
    join_number y = rw (← a, ← b, ← d, not-true x y)

    module _ (y : not x ≡ false) (s : List ℕ) (v : s ≡ seen_vector r) (t : Bool) (f : t ≡ covers held s) where
      pub join_above : not t ≡ true → 8 ≡ join_fault base held places seens r
      unfolding join_fault
      join_above z = rw (← a, ← b, ← d, not-false x y, ← v, ← f, not-true t z)

      module _ (z : not t ≡ false) (o : Bool) (i : o ≡ closed_by base places seens s) where
        pub join_open : not o ≡ true → 9 ≡ join_fault base held places seens r
        unfolding join_fault
        join_open w = rw (← a, ← b, ← d, not-false x y, ← v, ← f, not-false t z, ← i, not-true o w)

        pub join_quick : o ≡ true → 0 ≡ join_fault base held places seens r
        unfolding join_fault
        join_quick w = rw (← a, ← b, ← d, not-false x y, ← v, ← f, not-false t z, ← i, w)

        pub join_none : not o ≡ false → 0 ≡ join_fault base held places seens r
        unfolding join_fault
        join_none w = rw (← a, ← b, ← d, not-false x y, ← v, ← f, not-false t z, ← i, not-false o w)

  -- a record that joins is its unit's next
  pub join_next : join_fault base held places seens r ≡ 0 → num r ≡ suc (get_or held (unit r) 0)
  unfolding join_fault
  join_next z = go (eqb (num r) (suc (get_or held (unit r) 0))) refl z
    where
      go : (a : Bool) → eqb (num r) (suc (get_or held (unit r) 0)) ≡ a → ◌≡◌ {A = ℕ} (cond (a && covers held (seen_vector r)) (cond (closed_by base places seens (seen_vector r)) 0 9) 8) 0 → num r ≡ suc (get_or held (unit r) 0)
      go true q x = eqb-true (num r) (suc (get_or held (unit r) 0)) q
      go false q x = absurd (omega arith)

-- ---- a record behind others

module _ (r : Rec) (base : List ℕ) (floor : ℕ) (held places seens : List ℕ) (w : Bool) (e : w ≡ well_formed r) where
  pub fault-malformed : not w ≡ true → 7 ≡ fault_by base floor held places seens r
  unfolding fault_by
  fault-malformed g = rw (← e, not-true w g)

  module _ (g : not w ≡ false) (k : ℕ) (q : k ≡ rank r) where
    pub fault_low : k < floor → 20 ≡ fault_by base floor held places seens r
    unfolding fault_by
    fault_low h = rw (← e, not-false w g, ← q, lt-leb floor k h)

    pub fault_joins : floor ≤ k → (n : ℕ) → n ≡ join_fault base held places seens r → n ≡ fault_by base floor held places seens r
    unfolding fault_by
    fault_joins h n f = rw (← e, not-false w g, ← q, le-leb floor k h) f

-- ---- a record behind others is admitted

module _ (r : Rec) (base : List ℕ) (floor : ℕ) (held places seens : List ℕ) (n : ℕ) (e : n ≡ fault_by base floor held places seens r) where
  pub admit_refuses : (p : ℕ) → (n ≡ 0 → ⊥) → noted n held floor places seens ≡ admit_of base r p held floor places seens
  unfolding admit_of
  admit_refuses p h = rw (← e, ne_eqb n 0 h)

module _ (r : Rec) (base : List ℕ) (floor : ℕ) (held places seens : List ℕ) (e : 0 ≡ fault_by base floor held places seens r) where
  pub no_fault : (well_formed r ≡ true) × (num r ≡ suc (get_or held (unit r) 0))
  unfolding fault_by
  no_fault = go (well_formed r) (leb floor (rank r)) refl (sym e)
    where
      go : (a b : Bool) → well_formed r ≡ a → ◌≡◌ {A = ℕ} (cond a (cond b (join_fault base held places seens r) 20) 7) 0 → (well_formed r ≡ true) × (num r ≡ suc (get_or held (unit r) 0))
      go true true p x = (p, join_next r base held places seens x)
      go true false p x = absurd (omega arith)
      go false b p x = absurd (omega arith)

  module _ (u : ℕ) (a : u ≡ unit r) where
    pub unit_admitted : u < 8
    unit_admitted = rw a (well_unit r no_fault.0)

    module _ (c : ℕ) (b : c ≡ num r) where
      next-held : c ≡ suc (get_or held u 0)
      next-held = b ∙ rw a no_fault.1

      pub number_above : Spare base held → get_or held u 0 < c
      number_above s = omega (arith, next-held)

      module _ (s : Spare base held) where
        pub number_behind : get_or base u 0 ≤ c
        number_behind = omega (arith, next-held, s.behind u unit_admitted)

        pub number_least : 1 ≤ c - get_or base u 0
        number_least = omega (arith, next-held, s.behind u unit_admitted)

        pub number_most : c - get_or base u 0 ≤ 512
        number_most = omega (arith, next-held, s.below u unit_admitted)

  pub admit_notes : (p u c d k : ℕ) (s held' places' seens' : List ℕ) → u ≡ unit r → c ≡ num r → d ≡ c - get_or base u 0 → k ≡ rank r → s ≡ seen_vector r
      → held' ≡ set held u (get_or held u 0 + 1) → places' ≡ set places (slot_of u d) p → seens' ≡ put_at seens (8 * p) s
      → noted 0 held' (k + 1) places' seens' ≡ admit_of base r p held floor places seens
  unfolding admit_of
  admit_notes p u c d k s held' places' seens' a b q o f g h i = rw (← e, g, h, i, q, a, b, o, f)
