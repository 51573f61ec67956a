-- The tests for a sound log decide exactly what `Sound` says.
-- Assumes nothing.
use Prim.Native.Nat.{ℕ, zero, suc, ◌≤◌, ◌<◌}
use native.Mathlib.Nat.{zero-add}
use native.Mathlib.Omega.{arith}
use mathlib.Core.Path.{◌≡◌, refl, sym, ap, ◌∙◌}
use mathlib.Core.Logic.{◌⊎◌, inl, inr, ⊎_elim}
use mathlib.Core.Bool.{Bool, true, false, cond, ◌&&◌}
use mathlib.Core.Option.{Option, none, some}
use mathlib.Core.List.{List, [], ◌∷◌}
use lib.Dec.{leb, eqb}
use lib.ListN.{get_or, length, length-append, get_or-append}
use lib.Seq.{get_or_at, ext_get_or}
use borrow.Author.Tests.{eqb-true, eq-eqb, lt-leb, ltb-true, lt-ltb}
use Rattle.model.specs.Numbers.{not_next, not_closed, bad_file}
use Rattle.model.specs.Vector.{covers}
use Rattle.model.specs.Record.{Rec, unit, num, seen, seen_vector, well_formed}
use Rattle.model.specs.Log.{rank, count, counts_to, vector_of, no_counts, count_on, counts_on_to, vector_on, by_id, is_next, is_within, all_to, nowhere_above, is_closed, rises, record_fault, sound_after}
use Rattle.byte_slice.proofs.Numbers.{lt_or_ge, bool_cases, and_true, true_and}
use Rattle.vector.proofs.Dominance.{covers_at, all_covers}
use Rattle.vector.proofs.InBytes.{vector_at-length, vector_at_get_d}
use Rattle.log_laws.specs.Members.{Has, Agree}
use Rattle.log_laws.specs.Sound.{Next, SoundAfter, SoundOn, Sound}
use Rattle.log_laws.proofs.Formed.{well_unit, well_own}
use Rattle.log_laws.proofs.Counts.{count_own, count_plus, no_counts_lem}
use Rattle.log_laws.proofs.Ids.{by_id_some, agree_by_id}

-- ---- the record counts as a vector

counts_on_length : (base : List ℕ) (l : List Rec) (n : ℕ) → length (counts_on_to base l n) ≡ n
unfolding counts_on_to
counts_on_length base l zero = refl
counts_on_length base l (suc n) = omega (arith, length-append (counts_on_to base l n) (count_on base n l ∷ []), counts_on_length base l n)

counts_on_get_d : (base : List ℕ) (l : List Rec) (n u : ℕ) → u < n → get_or (counts_on_to base l n) u 0 ≡ count_on base u l
unfolding counts_on_to
counts_on_get_d base l zero u h = absurd (omega arith)
counts_on_get_d base l (suc n) u h =
    let m = counts_on_length base l n in
    ⊎_elim
    (λ k. get_or-append (counts_on_to base l n) (count_on base n l ∷ []) 0 u (omega arith) ∙ counts_on_get_d base l n u k)
    (λ k. let e : u ≡ n = omega arith in rw e (get_or_at (counts_on_to base l n) (count_on base n l) [] 0 n m))
    (lt_or_ge u n)

pub vector_on-length : (base : List ℕ) (l : List Rec) → length (vector_on base l) ≡ 8
unfolding vector_on
vector_on-length base l = counts_on_length base l 8

pub vector_on_get_d : (base : List ℕ) (l : List Rec) (u : ℕ) → u < 8 → get_or (vector_on base l) u 0 ≡ count_on base u l
unfolding vector_on
vector_on_get_d base l u h = counts_on_get_d base l 8 u h

-- with no record before, the record counts
pub vector_on-none : (l : List Rec) → vector_on no_counts l ≡ vector_of l
unfolding vector_on vector_of counts_on_to counts_to
vector_on-none l = go 8
  where
    go : (n : ℕ) → counts_on_to no_counts l n ≡ counts_to l n
    go zero = refl
    go (suc n) = rw (go n, no_counts_lem n, zero-add)

pub vector_of-length : (l : List Rec) → length (vector_of l) ≡ 8
vector_of-length l = rw (← vector_on-none l) (vector_on-length no_counts l)

pub vector_of_get_d : (l : List Rec) (u : ℕ) → u < 8 → get_or (vector_of l) u 0 ≡ count u l
vector_of_get_d l u h = rw (← vector_on-none l) (omega (arith, vector_on_get_d no_counts l u h, no_counts_lem u))

pub seen_vector-length : (r : Rec) → length (seen_vector r) ≡ 8
unfolding seen_vector
seen_vector-length r = vector_at-length r 4

pub seen_vector_get_d : (r : Rec) (u : ℕ) → u < 8 → get_or (seen_vector r) u 0 ≡ seen r u
unfolding seen_vector seen
seen_vector_get_d r u h = vector_at_get_d r 4 u h

-- the counts of one list are at least those of another
pub counts_cover : (l m : List Rec) → ((u : ℕ) → u < 8 → count u l ≤ count u m) → covers (vector_of m) (vector_of l) ≡ true
counts_cover l m h = all_covers (vector_of m) (vector_of l) (λ u k. omega (arith, vector_of_get_d l u k, vector_of_get_d m u k, h u k))

-- equal vectors are equal counts
pub counts_equal : (l m : List Rec) → vector_of l ≡ vector_of m → (u : ℕ) → u < 8 → count u l ≡ count u m
counts_equal l m e u k = sym (vector_of_get_d l u k) ∙ ap (λ (v : List ℕ). get_or v u 0) e ∙ vector_of_get_d m u k

pub equal_counts : (l m : List Rec) → ((u : ℕ) → u < 8 → count u l ≡ count u m) → vector_of l ≡ vector_of m
equal_counts l m h =
    let n = vector_of-length l in
    ext_get_or 0 (vector_of l) (vector_of m) (n ∙ sym (vector_of-length m)) (λ u k.
    let b : u < 8 = omega arith in
    vector_of_get_d l u b ∙ h u b ∙ sym (vector_of_get_d m u b))

-- ---- for all up to n

pub all_to-at : (n : ℕ) (p : ℕ → Bool) → all_to n p ≡ true → (u : ℕ) → u < n → p u ≡ true
unfolding all_to
all_to-at zero p e u h = absurd (omega arith)
all_to-at (suc n) p e u h =
    let (a, b) = and_true (all_to n p) (p n) e in
    ⊎_elim
    (λ k. all_to-at n p a u k)
    (λ k. let q : u ≡ n = omega arith in ap p q ∙ b)
    (lt_or_ge u n)

pub all_to_all : (n : ℕ) (p : ℕ → Bool) → ((u : ℕ) → u < n → p u ≡ true) → all_to n p ≡ true
unfolding all_to
all_to_all zero p h = refl
all_to_all (suc n) p h = true_and (all_to n p) (p n) (all_to_all n p (λ u k. h u (omega arith))) (h n (omega arith))

-- ---- next, within, closed

pub next_test_on : (base : List ℕ) (l : List Rec) (r : Rec) → num r ≡ suc (count_on base (unit r) l) → is_next base l r ≡ true
unfolding is_next
next_test_on base l r e = eq-eqb (num r) (suc (count_on base (unit r) l)) e

pub next_from_on : (base : List ℕ) (l : List Rec) (r : Rec) → is_next base l r ≡ true → num r ≡ suc (count_on base (unit r) l)
unfolding is_next
next_from_on base l r e = eqb-true (num r) (suc (count_on base (unit r) l)) e

pub within_test_on : (base : List ℕ) (l : List Rec) (r : Rec) → ((u : ℕ) → u < 8 → seen r u ≤ count_on base u l) → is_within base l r ≡ true
unfolding is_within
within_test_on base l r h = all_covers (vector_on base l) (seen_vector r) (λ u k. omega (arith, seen_vector_get_d r u k, vector_on_get_d base l u k, h u k))

pub within_from_on : (base : List ℕ) (l : List Rec) (r : Rec) → is_within base l r ≡ true → (u : ℕ) → u < 8 → seen r u ≤ count_on base u l
unfolding is_within
within_from_on base l r e u k = omega (arith, seen_vector_get_d r u k, vector_on_get_d base l u k, covers_at (vector_on base l) (seen_vector r) e u k)

pub above_test : (r s : Rec) → ((v : ℕ) → v < 8 → seen s v ≤ seen r v) → nowhere_above r (some s) ≡ true
unfolding nowhere_above
above_test r s h = all_covers (seen_vector r) (seen_vector s) (λ v k. omega (arith, seen_vector_get_d r v k, seen_vector_get_d s v k, h v k))

pub above_from : (r s : Rec) → nowhere_above r (some s) ≡ true → (v : ℕ) → v < 8 → seen s v ≤ seen r v
unfolding nowhere_above
above_from r s e v k = omega (arith, seen_vector_get_d r v k, seen_vector_get_d s v k, covers_at (seen_vector r) (seen_vector s) e v k)

nothing_above : (r : Rec) → nowhere_above r none ≡ true
unfolding nowhere_above
nothing_above r = refl

-- seen at u is closed, or nothing was seen of u but records before
abbrev pub closed_at : List ℕ → List Rec → Rec → ℕ → Bool
closed_at base l r u = cond (leb (seen r u) (get_or base u 0)) true (nowhere_above r (by_id u (seen r u) l))

pub closed_test_on : (base : List ℕ) (l : List Rec) (r : Rec) → ((s : Rec) → Has s l → num s ≡ seen r (unit s) → (v : ℕ) → v < 8 → seen s v ≤ seen r v) → is_closed base l r ≡ true
unfolding is_closed
closed_test_on base l r h = all_to_all 8 (closed_at base l r) (λ u k. at u (bool_cases (leb (seen r u) (get_or base u 0))))
  where
    found : (u : ℕ) (o : Option Rec) → by_id u (seen r u) l ≡ o → nowhere_above r o ≡ true
    found u none e = nothing_above r
    found u (some s) e = let (i, p, q) = by_id_some u (seen r u) l s e in above_test r s (h s i (q ∙ ap (seen r) (sym p)))

    at : (u : ℕ) → (leb (seen r u) (get_or base u 0) ≡ true) ⊎ (leb (seen r u) (get_or base u 0) ≡ false) → closed_at base l r u ≡ true
    at u (inl e) = rw e
    at u (inr e) = rw (e, found u (by_id u (seen r u) l) refl)

pub closed_from : (base : List ℕ) (l : List Rec) (r : Rec) → Agree l l → ((s : Rec) → Has s l → well_formed s ≡ true) → ((s : Rec) → Has s l → get_or base (unit s) 0 < num s)
    → is_closed base l r ≡ true → (s : Rec) → Has s l → num s ≡ seen r (unit s) → (v : ℕ) → v < 8 → seen s v ≤ seen r v
unfolding is_closed
closed_from base l r g f low c s i n v k =
    let w = f s i in
    let b : closed_at base l r (unit s) ≡ true = all_to-at 8 (closed_at base l r) c (unit s) (well_unit s w) in
    let z : leb (seen r (unit s)) (get_or base (unit s) 0) ≡ false = lt-leb (seen r (unit s)) (get_or base (unit s) 0) (omega (arith, low s i)) in
    let q : by_id (unit s) (seen r (unit s)) l ≡ some s = rw (← n) (agree_by_id l s g i) in
    above_from r s (rw (z, q) at b) v k

-- ---- one record behind others

-- what the records before give: one record for an identity, numbers within the counts, the last one on top
pub record Front (base : List ℕ) (pre : List Rec) : Type 0 where
  pub agree : Agree pre pre
  pub formed : (s : Rec) → Has s pre → well_formed s ≡ true
  pub numbered : (s : Rec) → Has s pre → num s ≤ count_on base (unit s) pre
  pub beyond : (s : Rec) → Has s pre → get_or base (unit s) 0 < num s
  pub top : (r : Rec) → rises pre r ≡ true → (s : Rec) → Has s pre → rank s < rank r

pub front_nil : (base : List ℕ) → Front base []
front_nil base = record { beyond = λ s i. absurd i; agree = λ r s i j u n. absurd i; formed = λ s i. absurd i; numbered = λ s i. absurd i; top = λ r e s i. absurd i }

pub front_cons : (base : List ℕ) (pre : List Rec) (r : Rec) → Front base pre → Next base pre r → Front base (r ∷ pre)
unfolding rises
front_cons base pre r f n =
    record {
      agree = one;
      formed = λ s i. ⊎_elim (λ (e : s ≡ r). rw e n.formed) (λ j. f.formed s j) i;
      numbered = λ s i.
          ⊎_elim
          (λ (e : s ≡ r). rw e (omega (arith, n.next, count_own r pre)))
          (λ j. omega (arith, f.numbered s j, count_plus (unit s) r pre))
          i;
      beyond = λ s i. ⊎_elim (λ (e : s ≡ r). rw e (omega (arith, n.next))) (λ j. f.beyond s j) i;
      top = λ t e s i.
          let h : rank r < rank t = ltb-true (rank r) (rank t) e in
          ⊎_elim (λ (q : s ≡ r). rw q h) (λ j. omega (arith, n.above s j)) i;
    }
  where
    clash : (s : Rec) → Has s pre → unit r ≡ unit s → num r ≡ num s → ⊥
    clash s i u e = let q : num s ≤ count_on base (unit r) pre = rw (← u) at (f.numbered s i) in omega (arith, n.next)

    one : Agree (r ∷ pre) (r ∷ pre)
    one x y (inl a) (inl b) u e = a ∙ sym b
    one x y (inl a) (inr b) u e = absurd (clash y b (ap unit (sym a) ∙ u) (ap num (sym a) ∙ e))
    one x y (inr a) (inl b) u e = absurd (clash x a (ap unit (sym b) ∙ sym u) (ap num (sym b) ∙ sym e))
    one x y (inr a) (inr b) u e = f.agree x y a b u e

pub rises_test : (pre : List Rec) (r : Rec) → ((s : Rec) → Has s pre → rank s < rank r) → rises pre r ≡ true
unfolding rises
rises_test [] r h = refl
rises_test (s ∷ pre) r h = lt-ltb (rank s) (rank r) (h s (inl refl))

-- a check that did not refuse
passed : (b : Bool) (x n : ℕ) → cond b x (suc n) ≡ 0 → (b ≡ true) × (x ≡ 0)
passed true x n e = (refl, e)
passed false x n e = absurd (omega arith)

pub fault_test : (base : List ℕ) (pre : List Rec) (r : Rec) → Next base pre r → record_fault base pre r ≡ 0
unfolding record_fault
fault_test base pre r n =
    rw (n.formed, rises_test pre r n.above, next_test_on base pre r n.next, within_test_on base pre r n.within, closed_test_on base pre r n.closed)

pub fault_from : (base : List ℕ) (pre : List Rec) (r : Rec) → Front base pre → record_fault base pre r ≡ 0 → Next base pre r
unfolding record_fault
fault_from base pre r f e =
    let closed : ℕ = cond (is_closed base pre r) 0 not_closed in
    let next : ℕ = cond (is_next base pre r && is_within base pre r) closed not_next in
    let (a, e₁) = passed (well_formed r) (cond (rises pre r) next bad_file) 6 e in
    let (b, e₂) = passed (rises pre r) next 19 e₁ in
    let (c, e₃) = passed (is_next base pre r && is_within base pre r) closed 7 e₂ in
    let (d, _) = passed (is_closed base pre r) 0 8 e₃ in
    let (p, q) = and_true (is_next base pre r) (is_within base pre r) c in
    record {
      formed = a;
      next = next_from_on base pre r p;
      within = within_from_on base pre r q;
      closed = closed_from base pre r f.agree f.formed f.beyond d;
      above = f.top r b;
    }

-- ---- a log

pub sound_test : (base : List ℕ) (pre l : List Rec) → SoundAfter base pre l → sound_after base pre l ≡ true
unfolding sound_after
sound_test base pre [] h = refl
sound_test base pre (r ∷ l) h =
    true_and (eqb (record_fault base pre r) 0) (sound_after base (r ∷ pre) l) (eq-eqb (record_fault base pre r) 0 (fault_test base pre r h.0)) (sound_test base (r ∷ pre) l h.1)

pub sound_from : (base : List ℕ) (pre l : List Rec) → Front base pre → sound_after base pre l ≡ true → SoundAfter base pre l
unfolding sound_after
sound_from base pre [] f e = tt
sound_from base pre (r ∷ l) f e =
    let (a, b) = and_true (eqb (record_fault base pre r) 0) (sound_after base (r ∷ pre) l) e in
    let n = fault_from base pre r f (eqb-true (record_fault base pre r) 0 a) in
    (n, sound_from base (r ∷ pre) l (front_cons base pre r f n) b)

pub sound_means_on : (base : List ℕ) (l : List Rec) → sound_after base [] l ≡ true → SoundOn base l
sound_means_on base l e = sound_from base [] l (front_nil base) e

pub means_sound_on : (base : List ℕ) (l : List Rec) → SoundOn base l → sound_after base [] l ≡ true
means_sound_on base l h = sound_test base [] l h

-- ---- with no record before

pub next_test : (l : List Rec) (r : Rec) → num r ≡ suc (count (unit r) l) → is_next no_counts l r ≡ true
next_test l r e = next_test_on no_counts l r (omega (arith, no_counts_lem (unit r)))

pub next_from : (l : List Rec) (r : Rec) → is_next no_counts l r ≡ true → num r ≡ suc (count (unit r) l)
next_from l r e = omega (arith, next_from_on no_counts l r e, no_counts_lem (unit r))

pub within_test : (l : List Rec) (r : Rec) → ((u : ℕ) → u < 8 → seen r u ≤ count u l) → is_within no_counts l r ≡ true
within_test l r h = within_test_on no_counts l r (λ u k. omega (arith, h u k, no_counts_lem u))

pub within_from : (l : List Rec) (r : Rec) → is_within no_counts l r ≡ true → (u : ℕ) → u < 8 → seen r u ≤ count u l
within_from l r e u k = omega (arith, within_from_on no_counts l r e u k, no_counts_lem u)

pub closed_test : (l : List Rec) (r : Rec) → ((s : Rec) → Has s l → num s ≡ seen r (unit s) → (v : ℕ) → v < 8 → seen s v ≤ seen r v) → is_closed no_counts l r ≡ true
closed_test = closed_test_on no_counts

pub sound_means : (l : List Rec) → sound_after no_counts [] l ≡ true → Sound l
sound_means = sound_means_on no_counts

pub means_sound : (l : List Rec) → Sound l → sound_after no_counts [] l ≡ true
means_sound = means_sound_on no_counts
