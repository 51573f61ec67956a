-- Running counts over the records that are named.
-- Assumes nothing.
use Prim.Native.Nat.{ℕ, suc, ◌+◌, ◌-◌, ◌*◌, ◌≤◌, ◌<◌}
use native.Mathlib.Omega.{arith}
use mathlib.Core.Path.{◌≡◌, sym, ap, ◌∙◌, subst}
use mathlib.Core.Logic.{◌⊎◌, inl, inr}
use mathlib.Core.Bool.{Bool, true, false, not, ◌&&◌}
use mathlib.Core.List.{List, ◌∷◌}
use lib.ListN.{get_or, length, take, drop, set}
use lib.Seq.{get_or-set_same, get_or-set_other, set_out}
use borrow.Author.Tests.{not-true, not-false}
use Rattle.model.specs.Vector.{covers}
use Rattle.model.specs.Record.{Rec, unit, seen_vector}
use Rattle.byte_slice.proofs.Numbers.{lt_or_ge, eq_or_ne}
use Rattle.log_check.specs.InOrder.{listed}
use Rattle.order_laws.specs.Marking.{covers_each}
use Rattle.order_names.specs.Named.{place_named, named_at}
use Rattle.order_names.proofs.Names.{named_lent}
use Rattle.order_seen.specs.Units.{Units}

pub unit_low : (log list places : List ℕ) (n i p u : ℕ) → Units log list places n → i < n → p ≡ place_named list places i
    → u ≡ unit (take (80 * p + 80 - 80 * p) (drop (80 * p) log)) → u < 8
unit_low log list places n i p u w h e q = omega (arith, w.small i h, q ∙ ap unit (named_lent log list places i p e))

-- ---- no count is above the number of records before

pub record Low (had : List ℕ) (i : ℕ) : Type 0 where
  pub low : (v : ℕ) → get_or had v 0 ≤ i

pub low_room : (had : List ℕ) (i n u : ℕ) → Low had i → i < n → n ≤ 512 → get_or had u 0 < 65535
low_room had i n u w h f = omega (arith, w.low u)

pub low_more : (had had' : List ℕ) (i u : ℕ) → Low had i → had' ≡ set had u (get_or had u 0 + 1) → Low had' (i + 1)
low_more had had' i u h e = record { low = λ v. subst (λ (x : List ℕ). get_or x v 0 ≤ i + 1) (sym e) (at v (eq_or_ne v u) (lt_or_ge u (length had))) }
  where
    at : (v : ℕ) → (v ≡ u) ⊎ (v ≡ u → ⊥) → (u < length had) ⊎ (length had ≤ u) → get_or (set had u (get_or had u 0 + 1)) v 0 ≤ i + 1
    at v (inr d) s = omega (arith, get_or-set_other had u v (get_or had u 0 + 1) 0 d, h.low v)
    at v (inl q) (inl s) = subst (λ (x : ℕ). get_or (set had u (get_or had u 0 + 1)) x 0 ≤ i + 1) (sym q) (omega (arith, get_or-set_same had u (get_or had u 0 + 1) 0 s, h.low u))
    at v (inl q) (inr s) = rw (set_out had u (get_or had u 0 + 1) s) (omega (arith, h.low v))

-- ---- the counts

listed_next : (at : ℕ → Rec) (i n : ℕ) → i < n → listed at i (n - i) ≡ at i ∷ listed at (i + 1) (n - (i + 1))
unfolding listed
listed_next at i n h = rw (let e : n - i ≡ suc (n - (i + 1)) = omega arith in e, let e : i + 1 ≡ suc i = omega arith in e)

covers-next : (had : List ℕ) (at : ℕ → Rec) (i n : ℕ) → i < n
    → covers_each had (listed at i (n - i)) ≡ (covers had (seen_vector (at i)) && covers_each (set had (unit (at i)) (get_or had (unit (at i)) 0 + 1)) (listed at (i + 1) (n - (i + 1))))
unfolding covers_each
covers-next had at i n h = ap (covers_each had) (listed_next at i n h)

module _ (log list places : List ℕ) (i n p : ℕ) (h : i < n) (e : p ≡ place_named list places i) (had s : List ℕ) (r t : Bool) (q : s ≡ seen_vector (take (80 * p + 80 - 80 * p) (drop (80 * p) log))) (f : r ≡ covers had s) (inv : covers_each had (listed (named_at log list places) i (n - i)) ≡ t) where
  test : covers had (seen_vector (named_at log list places i)) ≡ r
  test = sym (f ∙ ap (covers had) (q ∙ ap seen_vector (named_lent log list places i p e)))

  pub covers_stop : not r ≡ true → false ≡ t
  covers_stop z = rw (covers-next had (named_at log list places) i n h, test, not-true r z) at inv

  pub covers_go : not r ≡ false → (u : ℕ) (had' : List ℕ) → u ≡ unit (take (80 * p + 80 - 80 * p) (drop (80 * p) log)) → had' ≡ set had u (get_or had u 0 + 1)
      → covers_each had' (listed (named_at log list places) (i + 1) (n - (i + 1))) ≡ t
  covers_go z u had' w v =
      let c : u ≡ unit (named_at log list places i) = w ∙ ap unit (named_lent log list places i p e) in
      rw (v, c) (rw (covers-next had (named_at log list places) i n h, test, not-false r z) at inv)

pub covers_end : (had : List ℕ) (at : ℕ → Rec) (i n : ℕ) (t : Bool) → i ≤ n → n ≤ i → covers_each had (listed at i (n - i)) ≡ t → true ≡ t
unfolding covers_each listed
covers_end had at i n t h g e = let z : n - i ≡ 0 = omega arith in rw z at e
