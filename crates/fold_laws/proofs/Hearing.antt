-- What a unit has heard, and what a list that may be given names.
-- Assumes nothing.
use Prim.Native.Nat.{ℕ, ◌≤◌, ◌<◌}
use native.Mathlib.Omega.{arith}
use mathlib.Core.Path.{◌≡◌, refl, ◌∙◌}
use mathlib.Core.Logic.{⊎_elim}
use mathlib.Core.Bool.{true, false, not, ◌||◌}
use mathlib.Core.Option.{none, some}
use mathlib.Core.List.{List}
use lib.Dec.{leb, eqb}
use lib.ListN.{get_or}
use lib.Seq.{get_or-set_same, get_or-set_other}
use borrow.Author.Tests.{eq-eqb, ne_eqb, leb-true, le-leb}
use Rattle.model.specs.Record.{Rec, unit, num, seen, seen_vector}
use Rattle.model.specs.Log.{vector_on}
use Rattle.byte_slice.proofs.Numbers.{bool_cases, and_true}
use Rattle.log_laws.proofs.Tests.{seen_vector_get_d, seen_vector-length, all_to-at, all_to_all}
use Rattle.base_model.specs.Base.{is_listed, lists_all}
use Rattle.call_model.specs.Fold.{last_of, heard_from, heard_by, heard_by_all, list_fits}

-- the own unit: all that it holds
pub heard_self : (u : ℕ) (v : List ℕ) (l : List Rec) → heard_by u v l u ≡ vector_on v l
unfolding heard_by
heard_self u v l = rw (eq-eqb u u refl)

-- another: by its last record
pub heard_other : (u : ℕ) (v : List ℕ) (l : List Rec) (w : ℕ) → (w ≡ u → ⊥) → heard_by u v l w ≡ heard_from v (last_of w l)
unfolding heard_by
heard_other u v l w d = rw (ne_eqb w u d)

-- which counts itself
pub heard_counted : (v : List ℕ) (r : Rec) → unit r < 8 → get_or (heard_from v (some r)) (unit r) 0 ≡ num r
unfolding heard_from
heard_counted v r b = get_or-set_same (seen_vector r) (unit r) (num r) 0 (omega (arith, seen_vector-length r))

pub heard_seen : (v : List ℕ) (r : Rec) (u : ℕ) → u < 8 → (u ≡ unit r → ⊥) → get_or (heard_from v (some r)) u 0 ≡ seen r u
unfolding heard_from
heard_seen v r u b d = get_or-set_other (seen_vector r) (unit r) u (num r) 0 d ∙ seen_vector_get_d r u b

-- whatever the base
pub heard_last : (v w : List ℕ) (r : Rec) → heard_from v (some r) ≡ heard_from w (some r)
unfolding heard_from
heard_last v w r = refl

-- a silent one: the base vector
pub heard_none : (v : List ℕ) (u : ℕ) → get_or (heard_from v none) u 0 ≡ get_or v u 0
unfolding heard_from
heard_none v u = refl

-- ---- heard by all

pub all_heard : (m u : ℕ) (v : List ℕ) (l : List Rec) (q : Rec) → heard_by_all m u v l q ≡ true → (w : ℕ) → w < 8 → is_listed m w ≡ true → num q ≤ get_or (heard_by u v l w) (unit q) 0
unfolding heard_by_all
all_heard m u v l q e w k f =
    let t : (not (is_listed m w) || leb (num q) (get_or (heard_by u v l w) (unit q) 0)) ≡ true =
    all_to-at 8 (λ (x : ℕ). not (is_listed m x) || leb (num q) (get_or (heard_by u v l x) (unit q) 0)) e w k in
    leb-true (num q) (get_or (heard_by u v l w) (unit q) 0) (rw f at t)

pub heard_all : (m u : ℕ) (v : List ℕ) (l : List Rec) (q : Rec) → ((w : ℕ) → w < 8 → is_listed m w ≡ true → num q ≤ get_or (heard_by u v l w) (unit q) 0) → heard_by_all m u v l q ≡ true
unfolding heard_by_all
heard_all m u v l q h =
    all_to_all 8 (λ (w : ℕ). not (is_listed m w) || leb (num q) (get_or (heard_by u v l w) (unit q) 0)) (λ w k.
    ⊎_elim
    (λ (f : is_listed m w ≡ true). rw (f, le-leb (num q) (get_or (heard_by u v l w) (unit q) 0) (h w k f)))
    (λ (f : is_listed m w ≡ false). rw f)
    (bool_cases (is_listed m w)))

-- ---- a list that may be given

pub fits_own : (m u : ℕ) (v : List ℕ) → list_fits m u v ≡ true → is_listed m u ≡ true
unfolding list_fits
fits_own m u v e = (and_true (is_listed m u) (lists_all m v) e).0

pub fits_counted : (m u : ℕ) (v : List ℕ) → list_fits m u v ≡ true → (w : ℕ) → w < 8 → (get_or v w 0 ≡ 0 → ⊥) → is_listed m w ≡ true
unfolding list_fits lists_all
fits_counted m u v e w k d =
    let t : (eqb (get_or v w 0) 0 || is_listed m w) ≡ true =
    all_to-at 8 (λ (x : ℕ). eqb (get_or v x 0) 0 || is_listed m x) (and_true (is_listed m u) (lists_all m v) e).1 w k in
    rw (ne_eqb (get_or v w 0) 0 d) at t
