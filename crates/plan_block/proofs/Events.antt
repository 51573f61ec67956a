-- The ways out of the checks of an event, over plain values, and event after event.
-- Assumes nothing.
use Prim.Native.Nat.{ℕ, suc, ◌+◌, ◌-◌, ◌*◌, ◌≤◌, ◌<◌}
use native.Mathlib.Numerals.{add-one}
use native.Mathlib.Omega.{arith}
use mathlib.Core.Path.{◌≡◌, ◌∙◌}
use mathlib.Core.Bool.{Bool, true, false, not, ◌&&◌}
use mathlib.Core.List.{List}
use lib.ListN.{get_or, take, drop}
use borrow.Author.Tests.{eq-eqb, ne_eqb, le-leb, lt-leb, not-true, not-false}
use Rattle.model.specs.Bytes.{blank, part}
use Rattle.byte_slice.proofs.Parts.{part_is}
use Rattle.plan_model.specs.Plan.{event_at, event_kind, event_unit, event_other, act_holds, pass_holds, event_holds, events_hold}

-- ---- the event of an act

module _ (e : List ℕ) where
  pub act_above : 7 < get_or e 1 0 → false ≡ act_holds e
  unfolding act_holds event_unit
  act_above h = rw (lt-leb (get_or e 1 0) 7 h)

  module _ {t : Bool} (low : get_or e 1 0 ≤ 7) (et : t ≡ blank (take (4 - 2) (drop 2 e))) where
    pub act_other : not t ≡ true → false ≡ act_holds e
    unfolding act_holds event_unit part
    act_other h = rw (le-leb (get_or e 1 0) 7 low, ← et, not-true t h)

    module _ (h : not t ≡ false) where
      pub act_strange : (get_or e 4 0 ≡ get_or e 1 0 → ⊥) → false ≡ act_holds e
      unfolding act_holds event_unit part
      act_strange d = rw (le-leb (get_or e 1 0) 7 low, ← et, not-false t h, ne_eqb (get_or e 4 0) (get_or e 1 0) d)

      pub act_decides : {s : Bool} → get_or e 4 0 ≡ get_or e 1 0 → s ≡ blank (take (24 - 6) (drop 6 e)) → s ≡ act_holds e
      unfolding act_holds event_unit part
      act_decides d es = es ∙ rw (le-leb (get_or e 1 0) 7 low, ← et, not-false t h, eq-eqb (get_or e 4 0) (get_or e 1 0) d)

-- ---- the event of a pass

module _ (e : List ℕ) where
  pub pass_above : 7 < get_or e 1 0 → false ≡ pass_holds e
  unfolding pass_holds event_unit
  pass_above h = rw (lt-leb (get_or e 1 0) 7 h)

  module _ (low : get_or e 1 0 ≤ 7) where
    pub pass_far : 7 < get_or e 2 0 → false ≡ pass_holds e
    unfolding pass_holds event_unit event_other
    pass_far h = rw (le-leb (get_or e 1 0) 7 low, lt-leb (get_or e 2 0) 7 h)

    module _ (near : get_or e 2 0 ≤ 7) where
      pub pass_itself : get_or e 1 0 ≡ get_or e 2 0 → false ≡ pass_holds e
      unfolding pass_holds event_unit event_other
      pass_itself h = rw (le-leb (get_or e 1 0) 7 low, le-leb (get_or e 2 0) 7 near, eq-eqb (get_or e 1 0) (get_or e 2 0) h)

      pub pass_decides : {t : Bool} → (get_or e 1 0 ≡ get_or e 2 0 → ⊥) → t ≡ blank (take (84 - 3) (drop 3 e)) → t ≡ pass_holds e
      unfolding pass_holds event_unit event_other part
      pass_decides h et = et ∙ rw (le-leb (get_or e 1 0) 7 low, le-leb (get_or e 2 0) 7 near, ne_eqb (get_or e 1 0) (get_or e 2 0) h)

-- ---- an event

module _ (e : List ℕ) where
  pub is_act : {t : Bool} → get_or e 0 0 ≡ 1 → t ≡ act_holds e → t ≡ event_holds e
  unfolding event_holds event_kind
  is_act h et = et ∙ rw (eq-eqb (get_or e 0 0) 1 h)

  module _ (other : get_or e 0 0 ≡ 1 → ⊥) where
    pub is_none : (get_or e 0 0 ≡ 2 → ⊥) → false ≡ event_holds e
    unfolding event_holds event_kind
    is_none h = rw (ne_eqb (get_or e 0 0) 1 other, ne_eqb (get_or e 0 0) 2 h)

    pub is_pass : {t : Bool} → get_or e 0 0 ≡ 2 → t ≡ pass_holds e → t ≡ event_holds e
    unfolding event_holds event_kind
    is_pass h et = et ∙ rw (ne_eqb (get_or e 0 0) 1 other, eq-eqb (get_or e 0 0) 2 h)

-- ---- event after event

module _ (b : List ℕ) (n i : ℕ) (inv : events_hold b i (n - i) ≡ events_hold b 0 n) where
  module _ {t : Bool} (h : i < n) (et : t ≡ event_holds (take (28 + 84 * i + 84 - (28 + 84 * i)) (drop (28 + 84 * i) b))) where
    here : t ≡ event_holds (event_at b i)
    unfolding event_at
    here = rw (part_is b (28 + 84 * i) 84) at et

    step : t && events_hold b (i + 1) (n - (i + 1)) ≡ events_hold b 0 n
    unfolding events_hold
    step = let k : n - i ≡ suc (n - (i + 1)) = omega arith in rw (k, ← here, ← add-one i) at inv

    pub stops : not t ≡ true → false ≡ events_hold b 0 n
    stops z = rw (not-true t z) at step

    pub goes_on_lem : not t ≡ false → events_hold b (i + 1) (n - (i + 1)) ≡ events_hold b 0 n
    goes_on_lem z = rw (not-false t z) at step

  pub ends : i ≤ n → n ≤ i → true ≡ events_hold b 0 n
  unfolding events_hold
  ends l g = let k : n - i ≡ 0 = omega arith in rw k at inv
