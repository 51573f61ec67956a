-- What the code that climbs is asked, over plain values.
-- Assumes nothing.
use Prim.Native.Nat.{ℕ, zero, suc, ◌+◌, ◌-◌, ◌≤◌, ◌<◌}
use native.Mathlib.Omega.{arith}
use mathlib.Core.Path.{◌≡◌, refl, sym, ap, ◌∙◌}
use mathlib.Core.Logic.{⊎_elim}
use mathlib.Core.Bool.{true, false, ◌&&◌, ◌||◌}
use mathlib.Core.List.{List}
use lib.Dec.{eqb, leb}
use lib.ListN.{get_or, length, set, replicate, length-set, length-replicate, get_or-replicate}
use lib.Seq.{get_or-set_same, get_or-set_other}
use borrow.Author.Tests.{eq-eqb, ne_eqb, le-leb, lt-leb}
use Rattle.model.specs.Log.{all_to}
use Rattle.byte_slice.proofs.Numbers.{lt_or_ge, eq_or_ne, not_both}
use Rattle.base_links.proofs.Links.{all_next, all_ends, all_none, all_false}
use Rattle.std.proofs.Common.{Option}
use Rattle.std.specs.Bool.{then_some}
use Rattle.base_climb.specs.Climb.{climbs, climbs_from, Exact, Known, Away}
use Rattle.base_climb.specs.Steps.{steps_told}

shifted : (k s : ℕ) → leb k s ≡ leb (suc k) (suc s)
shifted k s =
    ⊎_elim
    (λ h. lt-leb k s h ∙ sym (lt-leb (suc k) (suc s) (omega arith)))
    (λ h. le-leb k s h ∙ sym (le-leb (suc k) (suc s) (omega arith)))
    (lt_or_ge s k)

module _ (ups : List ℕ) where
  -- ---- one step

  at_zero : (q : ℕ) → climbs ups 0 q ≡ eqb q 0
  unfolding climbs
  at_zero q = refl

  at_suc : (s q : ℕ) → climbs ups (suc s) q ≡ (eqb q 0 || (leb q 512 && climbs ups s (get_or ups (q - 1) 0)))
  unfolding climbs
  at_suc s q = refl

  at_some : (s q : ℕ) → (q ≡ 0 → ⊥) → q ≤ 512 → climbs ups (suc s) q ≡ climbs ups s (get_or ups (q - 1) 0)
  at_some s q z l = at_suc s q ∙ rw (ne_eqb q 0 z, le-leb q 512 l)

  at_none : (s q : ℕ) → (q ≡ 0 → ⊥) → 512 < q → climbs ups s q ≡ false
  at_none zero q z l = at_zero q ∙ ne_eqb q 0 z
  at_none (suc s) q z l = at_suc s q ∙ rw (ne_eqb q 0 z, lt-leb q 512 l)

  -- the top is no step away
  top_at : (s : ℕ) → climbs ups s 0 ≡ leb 0 s
  top_at zero = at_zero 0 ∙ sym (le-leb 0 0 (omega arith))
  top_at (suc s) = at_suc s 0 ∙ sym (le-leb 0 (suc s) (omega arith))

  exact_top : (q : ℕ) → q ≡ 0 → Exact ups q 0
  exact_top q e = record { at = λ s. rw e (top_at s) }

  -- a step more, and back
  up_at : (q k : ℕ) → (q ≡ 0 → ⊥) → q ≤ 512 → Exact ups (get_or ups (q - 1) 0) k → (s : ℕ) → climbs ups s q ≡ leb (suc k) s
  up_at q k z l f zero = at_zero q ∙ (ne_eqb q 0 z ∙ sym (lt-leb (suc k) 0 (omega arith)))
  up_at q k z l f (suc s) = at_some s q z l ∙ (f.at s ∙ shifted k s)

  exact_up : (q k : ℕ) → (q ≡ 0 → ⊥) → q ≤ 512 → Exact ups (get_or ups (q - 1) 0) k → Exact ups q (suc k)
  exact_up q k z l f = record { at = up_at q k z l f }

  exact_some : (q k : ℕ) → Exact ups q (suc k) → q ≡ 0 → ⊥
  exact_some q k f z = not_both (climbs ups 0 q) (at_zero q ∙ eq-eqb q 0 z) (f.at 0 ∙ lt-leb (suc k) 0 (omega arith))

  exact_low : (q k : ℕ) → Exact ups q (suc k) → q ≤ 512
  exact_low q k f =
      ⊎_elim
      (λ (l : 512 < q).
      absurd
      (not_both
      (climbs ups (suc k) q)
      (f.at (suc k) ∙ le-leb (suc k) (suc k) (omega arith))
      (at_none (suc k) q (exact_some q k f) l)))
      (λ l. l)
      (lt_or_ge 512 q)

  exact_down : (q k : ℕ) → Exact ups q (suc k) → Exact ups (get_or ups (q - 1) 0) k
  exact_down q k f =
      record { at = λ s. sym (at_some s q (exact_some q k f) (exact_low q k f)) ∙ (f.at (suc s) ∙ sym (shifted k s)) }

-- ---- the climb from row i has come to q by t steps

pub record Climbing (ups : List ℕ) (n i t q : ℕ) : Type 0 where
  pub few : t ≤ n
  pub same : climbs ups (n - t) q ≡ climbs_from ups n i
  pub carries : (k : ℕ) → Exact ups q k → Exact ups (get_or ups i 0) (t + k)

module _ (ups : List ℕ) (n i : ℕ) where
  pub climb_starts : {q : ℕ} → q ≡ get_or ups i 0 → Climbing ups n i 0 q
  unfolding climbs_from
  climb_starts {q} e =
      record {
        few = omega arith;
        same = let z : n - 0 ≡ n = omega arith in rw (z, e);
        carries = λ k f. let z : 0 + k ≡ k = omega arith in rw (z, ← e) f;
      }

  reached : (k : ℕ) → Exact ups (get_or ups i 0) k → Away ups n i k
  unfolding climbs_from
  reached k f = record { told = sym (f.at n); exact = λ l. f }

  module _ {t q : ℕ} (w : Climbing ups n i t q) where
    pub climb_top : q ≡ 0 → Away ups n i t
    climb_top e = reached t (let z : t + 0 ≡ t = omega arith in (rw z at (w.carries 0 (exact_top ups q e))))

    pub climb_known : (depths : List ℕ) (d : ℕ) → Known ups depths → (q ≡ 0 → ⊥) → q ≤ 512 → d ≡ get_or depths (q - 1) 0 → 0 < d → Away ups n i (t + d)
    climb_known depths d known z l e h =
        let f : Exact ups (get_or ups (q - 1) 0) (d - 1) = rw e (known.far (q - 1) (omega arith) (rw e at h)) in
        let s : suc (d - 1) ≡ d = omega arith in
        reached (t + d) (rw s at (w.carries (suc (d - 1)) (exact_up ups q (d - 1) z l f)))

    never : n ≤ 512 → climbs ups (n - t) q ≡ false → Away ups n i 513
    never l e = record { told = lt-leb 513 n (omega arith) ∙ (sym e ∙ w.same); exact = λ h. absurd (omega arith) }

    -- further than n is as good as never
    pub climb_far : n ≤ 512 → (k : ℕ) → Away ups n i k → n < k → Away ups n i 513
    climb_far l k a h = record { told = lt-leb 513 n (omega arith) ∙ (sym (lt-leb k n h) ∙ a.told); exact = λ g. absurd (omega arith) }

    pub climb_lost : n ≤ 512 → (q ≡ 0 → ⊥) → 512 < q → Away ups n i 513
    climb_lost l z h = never l (at_none ups (n - t) q z h)

    pub climb_over : n ≤ 512 → n ≤ t → (q ≡ 0 → ⊥) → Away ups n i 513
    climb_over l h z =
        let e : n - t ≡ 0 = omega (arith, w.few) in
        never l (rw e (at_zero ups q ∙ ne_eqb q 0 z))

    pub climb_end : n ≤ t → q ≡ 0 → Away ups n i n
    climb_end h e = let s : t ≡ n = omega (arith, w.few) in (rw s at (climb_top e))

    -- as the code tells it: a row that was reached, and the end of the climb
    pub climb_tells : n ≤ 512 → (k : ℕ) → Away ups n i k → {r : Option ℕ} → r ≡ then_some (leb k n) k → Away ups n i (steps_told r)
    climb_tells l k a e =
        ⊎_elim
        (λ (h : n < k). rw (e, lt-leb k n h) (climb_far l k a h))
        (λ (h : k ≤ n). rw (e, le-leb k n h) a)
        (lt_or_ge n k)

    pub climb_ends : n ≤ 512 → n ≤ t → {r : Option ℕ} → r ≡ then_some (eqb q 0) n → Away ups n i (steps_told r)
    climb_ends l h e =
        ⊎_elim
        (λ (z : q ≡ 0). rw (e, eq-eqb q 0 z) (climb_end h z))
        (λ (z : q ≡ 0 → ⊥). rw (e, ne_eqb q 0 z) (climb_over l h z))
        (eq_or_ne q 0)

    pub climb_goes : {r : ℕ} → t < n → (q ≡ 0 → ⊥) → q ≤ 512 → r ≡ get_or ups (q - 1) 0 → Climbing ups n i (t + 1) r
    climb_goes {r} h z l e =
        let s : suc (n - (t + 1)) ≡ n - t = omega arith in
        record {
          few = omega arith;
          same = rw e (sym (at_some ups (n - (t + 1)) q z l) ∙ rw s w.same);
          carries = λ k f.
              let p : t + suc k ≡ t + 1 + k = omega arith in
              (rw p at (w.carries (suc k) (exact_up ups q k z l (rw e at f))));
        }

-- ---- what is known

module _ (ups : List ℕ) where
  pub known_none : {n : ℕ} {d : List ℕ} → n ≡ 1024 → d ≡ replicate n 0 → Known ups d
  known_none z e =
      rw (e, z) record {
        long = length-replicate {A = ℕ} 1024 0;
        far = λ j l h. absurd (omega (arith, get_or-replicate {A = ℕ} 1024 j 0 0 (omega arith)));
      }

  pub known_more : (depths depths' : List ℕ) (row k : ℕ) → Known ups depths → row < 512 → Exact ups (get_or ups row 0) k → depths' ≡ set depths row (k + 1) → Known ups depths'
  known_more depths depths' row k w low f p =
      record {
        long = ap (λ (l : List ℕ). length l) p ∙ (length-set depths row (k + 1) ∙ w.long);
        far = λ j l h.
            ⊎_elim
            (λ (z : j ≡ row).
            let s : k + 1 - 1 ≡ k = omega arith in
            rw (p, z, get_or-set_same depths row (k + 1) 0 (omega (arith, w.long)), s) f)
            (λ (z : j ≡ row → ⊥).
            let g : get_or depths' j 0 ≡ get_or depths j 0 = rw p (get_or-set_other depths row j (k + 1) 0 z) in
            rw g (w.far j l (rw g at h)))
            (eq_or_ne j row);
      }

  -- on the way up from a row that is not at the top stands a row
  module _ (row k : ℕ) (f : Exact ups (get_or ups row 0) k) (z : k ≡ 0 → ⊥) where
    again : Exact ups (get_or ups row 0) (suc (k - 1))
    again = let s : suc (k - 1) ≡ k = omega arith in rw s f

    pub row_some : {q : ℕ} → q ≡ get_or ups row 0 → 1 ≤ q
    row_some e = let h : get_or ups row 0 ≡ 0 → ⊥ = exact_some ups (get_or ups row 0) (k - 1) again in omega (arith, e)

    pub row_low : {q : ℕ} → q ≡ get_or ups row 0 → q - 1 < 512
    row_low e = omega (arith, e, exact_low ups (get_or ups row 0) (k - 1) again)

    pub row_exact : {q : ℕ} → q ≡ get_or ups row 0 → Exact ups (get_or ups (q - 1) 0) (k - 1)
    row_exact e = rw e (exact_down ups (get_or ups row 0) (k - 1) again)

-- ---- all rows

module _ (ups : List ℕ) (n : ℕ) where
  pub all_start : true ≡ all_to 0 (climbs_from ups n)
  all_start = all_none (climbs_from ups n)

  pub all_lost : (i : ℕ) → Away ups n i 513 → n ≤ 512 → i < n → false ≡ all_to n (climbs_from ups n)
  all_lost i w l h = sym (all_false n (climbs_from ups n) i h (sym w.told ∙ lt-leb 513 n (omega arith)))

  module _ (i k : ℕ) (w : Away ups n i k) where
    pub all_goes : k ≤ n → true ≡ all_to i (climbs_from ups n) → true ≡ all_to (i + 1) (climbs_from ups n)
    all_goes l e = all_next (climbs_from ups n) i e (sym (le-leb k n l) ∙ w.told)

    pub away_exact : k ≤ n → Exact ups (get_or ups i 0) k
    away_exact l = w.exact l

  pub all_end : (i : ℕ) → i ≤ n → n ≤ i → true ≡ all_to i (climbs_from ups n) → true ≡ all_to n (climbs_from ups n)
  all_end i h g e = all_ends (climbs_from ups n) i n h g e
