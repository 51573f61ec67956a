-- The ways out of the single checks of a block and its records, over plain values.
-- Assumes nothing.
use Prim.Native.Nat.{ℕ, suc, ◌+◌, ◌-◌, ◌*◌, ◌≤◌, ◌<◌}
use native.Mathlib.Omega.{arith}
use mathlib.Core.Path.{◌≡◌, refl, sym, ◌∙◌}
use mathlib.Core.Bool.{Bool, true, false, cond, not, true≢false}
use mathlib.Core.List.{List}
use lib.Dec.{ltb, eqb}
use lib.ListN.{get_or, length, take, drop, set}
use borrow.Author.Tests.{lt-ltb, le-ltb, ltb-true, le-leb, lt-leb, eq-eqb, ne_eqb, eqb-true, eqb-false, not-true, not-false}
use Rattle.std.proofs.Common.{◌↔◌, IsTrue}
use Rattle.model.specs.Bytes.{same_bytes, put_at}
use Rattle.model.specs.Vector.{covers}
use Rattle.model.specs.Record.{Rec, unit, num, seen_vector, well_formed}
use Rattle.model.specs.Block.{archive_in, block_fault, record_at, given_fault}
use Rattle.base_model.specs.Base.{is_listed}
use Rattle.byte_slice.proofs.Parts.{part_is}
use Rattle.log_laws.proofs.Formed.{well_unit}
use Rattle.log_closure.specs.Tables.{slot_of, position_of, join_fault, Placed}
use Rattle.log_admit.proofs.Faults.{formed, join_next}
use Rattle.log_check.specs.Places.{offset_of, laid_at}
use Rattle.take_beside.specs.Judging.{Counted, held_at, Step, step, held_by, new_by, new_step, take_by}

-- ---- the block given

module _ (archive : ℕ) (b : List ℕ) where
  pub given_length : (length b ≡ 512 → ⊥) → 2 ≡ given_fault archive b
  unfolding given_fault
  given_length h = rw (ne_eqb (length b) 512 h)

  module _ (n : length b ≡ 512) (f : ℕ) (e : f ≡ block_fault b) where
    pub given_bad : (f ≡ 0 → ⊥) → f ≡ given_fault archive b
    unfolding given_fault
    given_bad h = rw (eq-eqb (length b) 512 n, ← e, ne_eqb f 0 h)

    module _ (z : f ≡ 0) (a : ℕ) (q : a ≡ archive_in b) where
      pub given_other : (a ≡ archive → ⊥) → 6 ≡ given_fault archive b
      unfolding given_fault
      given_other h = rw (eq-eqb (length b) 512 n, ← e, eq-eqb f 0 z, ← q, ne_eqb a archive h)

      pub given_good : a ≡ archive → 0 ≡ given_fault archive b
      unfolding given_fault
      given_good h = rw (eq-eqb (length b) 512 n, ← e, eq-eqb f 0 z, ← q, eq-eqb a archive h)

-- ---- the record at a position

module _ (log b rec : List ℕ) (p : ℕ) (t : Bool) where
  pub held_in_log : p < 512 → t ≡ same_bytes (take (80 * p + 80 - 80 * p) (drop (80 * p) log)) rec → t ≡ same_bytes (held_at log b p) rec
  unfolding held_at laid_at offset_of
  held_in_log h e = rw (lt-ltb p 512 h) (rw (part_is log (80 * p) 80) at e)

  pub held_in_block : 512 ≤ p → t ≡ same_bytes (take (28 + 80 * (p - 512) + 80 - (28 + 80 * (p - 512))) (drop (28 + 80 * (p - 512)) b)) rec → t ≡ same_bytes (held_at log b p) rec
  unfolding held_at record_at
  held_in_block h e = rw (le-ltb p 512 h) (rw (part_is b (28 + 80 * (p - 512)) 80) at e)

-- ---- a new record

module _ (r : Rec) (base held : List ℕ) (used : ℕ) (places seens : List ℕ) (n : ℕ) (e : n ≡ join_fault base held places seens r) where
  module _ (o : Bool) (i : IsTrue o ↔ (n ≡ 8)) (j : o ≡ true) where
    pub new_not_next : n ≡ new_by base held used places seens r
    unfolding new_by
    new_not_next = rw (← e, i.0 j)

  module _ (o : Bool) (i : IsTrue o ↔ (n ≡ 8)) (j : o ≡ false) (s : List ℕ) (d : s ≡ seen_vector r) (t : Bool) (c : t ≡ covers s base) where
    x : n ≡ 8 → ⊥
    x q = true≢false (sym (i.1 q) ∙ j)

    covering : covers (seen_vector r) base ≡ t
    covering = sym (rw d at c)

    pub new_below : not t ≡ true → 27 ≡ new_by base held used places seens r
    unfolding new_by
    new_below g = rw (← e, ne_eqb n 8 x, covering, not-true t g)

    module _ (g : not t ≡ false) where
      pub new_barred : (n ≡ 0 → ⊥) → n ≡ new_by base held used places seens r
      unfolding new_by
      new_barred h = rw (← e, ne_eqb n 8 x, covering, not-false t g, ne_eqb n 0 h)

      pub new_full : n ≡ 0 → 512 ≤ used → 11 ≡ new_by base held used places seens r
      unfolding new_by
      new_full z k = rw (← e, ne_eqb n 8 x, covering, not-false t g, eq-eqb n 0 z, le-ltb used 512 k)

      pub new_none : n ≡ 0 → used < 512 → 0 ≡ new_by base held used places seens r
      unfolding new_by
      new_none z k = rw (← e, ne_eqb n 8 x, covering, not-false t g, eq-eqb n 0 z, lt-ltb used 512 k)

-- ---- a new record is refused or held

module _ (r : Rec) (base held : List ℕ) (used : ℕ) (places seens : List ℕ) (n : ℕ) (e : n ≡ new_by base held used places seens r) where
  pub new_refuses : (p : ℕ) → (n ≡ 0 → ⊥) → step n held used places seens ≡ new_step base r p held used places seens
  unfolding new_step
  new_refuses p h = rw (← e, ne_eqb n 0 h)

  module _ (z : n ≡ 0) where
    -- it is its unit's next, and there is room
    pub new_free : (num r ≡ suc (get_or held (unit r) 0)) × (used < 512)
    unfolding new_by
    new_free =
        go (eqb (join_fault base held places seens r) 8) (covers (seen_vector r) base) (eqb (join_fault base held places seens r) 0) (ltb used 512) refl refl (sym e ∙ z)
      where
        go : (x y a b : Bool) → eqb (join_fault base held places seens r) 0 ≡ a → ltb used 512 ≡ b
            → ◌≡◌ {A = ℕ} (cond x 8 (cond y (cond a (cond b 0 11) (join_fault base held places seens r)) 27)) 0
            → (num r ≡ suc (get_or held (unit r) 0)) × (used < 512)
        go true y a b p q x = absurd (omega arith)
        go false false a b p q x = absurd (omega arith)
        go false true true true p q x = (join_next r base held places seens (eqb-true (join_fault base held places seens r) 0 p), ltb-true used 512 q)
        go false true true false p q x = absurd (omega arith)
        go false true false b p q x = absurd (eqb-false (join_fault base held places seens r) 0 p x)

    module _ (w : well_formed r ≡ true) (g : Counted base held used) (u c : ℕ) (a : u ≡ unit r) (b : c ≡ num r) where
      new_unit : u < 8
      new_unit = rw a (well_unit r w)

      new_held : c ≡ suc (get_or held u 0)
      new_held = b ∙ rw a new_free.0

      pub new_above : get_or held u 0 < c
      new_above = omega (arith, new_held)

      pub new_behind : get_or base u 0 ≤ c
      new_behind = omega (arith, new_held, g.behind u new_unit)

      pub new_least : 1 ≤ c - get_or base u 0
      new_least = omega (arith, new_held, g.behind u new_unit)

      pub new_most : c - get_or base u 0 ≤ 512
      new_most = omega (arith, new_held, new_free.1, g.within u new_unit)

    pub new_notes : (p u c d : ℕ) (s held' places' seens' : List ℕ) → u ≡ unit r → c ≡ num r → d ≡ c - get_or base u 0 → s ≡ seen_vector r
        → held' ≡ set held u (get_or held u 0 + 1) → places' ≡ set places (slot_of u d) p → seens' ≡ put_at seens (8 * p) s
        → step 0 held' (used + 1) places' seens' ≡ new_step base r p held used places seens
    unfolding new_step
    new_notes p u c d s held' places' seens' a b o f g h i = rw (← e, z, g, h, i, o, a, b, f)

-- ---- a record of a block

module _ (m : ℕ) (base : List ℕ) (at : ℕ → Rec) (r : Rec) (p : ℕ) (held : List ℕ) (used : ℕ) (places seens : List ℕ) (w : Bool) (e : w ≡ well_formed r) where
  pub take-malformed : not w ≡ true → step 7 held used places seens ≡ take_by m base at r p held used places seens
  unfolding take_by
  take-malformed g = rw (← e, not-true w g)

  module _ (g : not w ≡ false) (u : ℕ) (a : u ≡ unit r) (y : Bool) (i : y ≡ is_listed m u) where
    named : is_listed m (unit r) ≡ y
    named = sym (rw a at i)

    pub take-unlisted : not y ≡ true → step 26 held used places seens ≡ take_by m base at r p held used places seens
    unfolding take_by
    take-unlisted h = rw (← e, not-false w g, named, not-true y h)

    module _ (j : not y ≡ false) (c : ℕ) (b : c ≡ num r) where
      pub take_unheld : get_or held u 0 < c → (o : Step) → o ≡ new_step base r p held used places seens → o ≡ take_by m base at r p held used places seens
      unfolding take_by
      take_unheld h o f = f ∙ rw (← e, not-false w g, named, not-false y j, ← a, ← b, lt-leb c (get_or held u 0) h)

      pub take_known : c ≤ get_or held u 0 → (n : ℕ) → n ≡ held_by base at places r → step n held used places seens ≡ take_by m base at r p held used places seens
      unfolding take_by
      take_known h n f = rw (f, ← e, not-false w g, named, not-false y j, ← a, ← b, le-leb c (get_or held u 0) h)

module _ (r : Rec) (w : Bool) (e : w ≡ well_formed r) (g : not w ≡ false) (u : ℕ) (a : u ≡ unit r) where
  pub unit_judged : u < 8
  unit_judged = rw a (well_unit r (formed r w e g))

pub known_within : (held : List ℕ) (r : Rec) (u c : ℕ) → u ≡ unit r → c ≡ num r → c ≤ get_or held u 0 → num r ≤ get_or held (unit r) 0
known_within held r u c a b h = rw (← a, ← b) h

-- ---- a record whose identity is held, or comes before

module _ (base : List ℕ) (at : ℕ → Rec) (r : Rec) (places : List ℕ) (u c : ℕ) (a : u ≡ unit r) (b : c ≡ num r) where
  pub held-before : c ≤ get_or base u 0 → 0 ≡ held_by base at places r
  unfolding held_by
  held-before k = rw (← a, ← b, le-leb c (get_or base u 0) k)

  module _ (l : get_or base u 0 < c) (q d : ℕ) (i : q ≡ position_of places u d) (j : d ≡ c - get_or base u 0) (t : Bool) (f : t ≡ same_bytes (at q) r) where
    pub held-differs : not t ≡ true → 10 ≡ held_by base at places r
    unfolding held_by
    held-differs z = rw (← a, ← b, lt-leb c (get_or base u 0) l, ← j, ← i, ← f, not-true t z)

    pub held_same : not t ≡ false → 0 ≡ held_by base at places r
    unfolding held_by
    held_same z = rw (← a, ← b, lt-leb c (get_or base u 0) l, ← j, ← i, ← f, not-false t z)

module _ (base held places : List ℕ) (r : Rec) (w : well_formed r ≡ true) (k : Placed base held places) (h : num r ≤ get_or held (unit r) 0) (u c : ℕ) (a : u ≡ unit r) (b : c ≡ num r) where
  pub held-unit : u < 8
  held-unit = rw a (well_unit r w)

  within : c ≤ get_or held u 0
  within = rw (a, b) h

  pub held_most : c - get_or base u 0 ≤ 512
  held_most = omega (arith, within, k.few u held-unit)

  pub held_inside : get_or base u 0 < c → (q d : ℕ) → q ≡ position_of places u d → d ≡ c - get_or base u 0 → q < 518
  held_inside l q d i j = rw (i, j) (k.inside u (c - get_or base u 0) held-unit (omega arith) (omega (arith, within)))
