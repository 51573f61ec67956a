-- Record counts, and the record of an identity, in a list that gets one record more.
-- Assumes nothing.
use Prim.Native.Nat.{ℕ, zero, suc, ◌+◌, ◌≤◌, ◌<◌}
use native.Mathlib.Omega.{arith}
use mathlib.Core.Path.{◌≡◌, refl, sym, ◌∙◌}
use mathlib.Core.Logic.{◌⊎◌, inl, inr, ⊎_elim}
use mathlib.Core.Bool.{Bool, true, false, cond, ◌&&◌}
use mathlib.Core.Option.{none, some}
use mathlib.Core.List.{List, [], ◌∷◌, ◌++◌}
use lib.Dec.{eqb}
use lib.ListN.{get_or, length, set, length-set}
use lib.Seq.{get_or-set_same, get_or-set_other, ext_get_or}
use borrow.Author.Tests.{eq-eqb, ne_eqb}
use Rattle.model.specs.Record.{Rec, unit, num}
use Rattle.model.specs.Log.{count, counts_on_to, vector_on, by_id}
use Rattle.byte_slice.proofs.Numbers.{eq_or_ne}
use Rattle.log_laws.proofs.Counts.{count-cons}
use Rattle.log_laws.proofs.Tests.{vector_on-length, vector_on_get_d}

-- ---- counts

pub count_few : (u : ℕ) (l : List Rec) → count u l ≤ length l
unfolding count
count_few u [] = omega arith
count_few u (r ∷ l) = ⊎_elim (λ a. omega (arith, count_few u l)) (λ a. omega (arith, count_few u l)) (count-cons u r l)

-- ---- the record of an identity

abbrev Same : Rec → ℕ → ℕ → Type 0
Same r u c = (unit r ≡ u) × (num r ≡ c)

same_or_not : (r : Rec) (u c : ℕ) → Same r u c ⊎ (Same r u c → ⊥)
same_or_not r u c =
    ⊎_elim
    (λ a. ⊎_elim (λ b. inl (a, b)) (λ b. inr (λ s. b s.1)) (eq_or_ne (num r) c))
    (λ a. inr (λ s. a s.0))
    (eq_or_ne (unit r) u)

same_test : (r : Rec) (u c : ℕ) → Same r u c → (eqb (unit r) u && eqb (num r) c) ≡ true
same_test r u c s = rw (eq-eqb (unit r) u s.0, eq-eqb (num r) c s.1)

other_test : (r : Rec) (u c : ℕ) → (Same r u c → ⊥) → (eqb (unit r) u && eqb (num r) c) ≡ false
other_test r u c d =
    ⊎_elim
    (λ a. rw (eq-eqb (unit r) u a, ne_eqb (num r) c (λ b. d (a, b))))
    (λ a. rw (ne_eqb (unit r) u a))
    (eq_or_ne (unit r) u)

pub by_id_same : (r : Rec) (l : List Rec) (u c : ℕ) → unit r ≡ u → num r ≡ c → by_id u c (r ∷ l) ≡ some r
unfolding by_id
by_id_same r l u c a b = rw (same_test r u c (a, b))

pub by_id_other : (r : Rec) (l : List Rec) (u c : ℕ) → ((unit r ≡ u) × (num r ≡ c) → ⊥) → by_id u c (r ∷ l) ≡ by_id u c l
unfolding by_id
by_id_other r l u c d = rw (other_test r u c d)

pub vector_cons : (base : List ℕ) (r : Rec) (l : List Rec) → unit r < 8 → vector_on base (r ∷ l) ≡ set (vector_on base l) (unit r) (get_or (vector_on base l) (unit r) 0 + 1)
vector_cons base r l h =
    let v = vector_on base l in
    let n : length (set v (unit r) (get_or v (unit r) 0 + 1)) ≡ 8 = simp length-set (vector_on-length base l) in
    ext_get_or 0 (vector_on base (r ∷ l)) (set v (unit r) (get_or v (unit r) 0 + 1)) (vector_on-length base (r ∷ l) ∙ sym n) (λ u k. at u (rw (vector_on-length base (r ∷ l)) at k))
  where
    at : (u : ℕ) → u < 8 → get_or (vector_on base (r ∷ l)) u 0 ≡ get_or (set (vector_on base l) (unit r) (get_or (vector_on base l) (unit r) 0 + 1)) u 0
    at u k =
        ⊎_elim
        (λ (a : (unit r ≡ u) × (count u (r ∷ l) ≡ suc (count u l))).
        let w : get_or (set (vector_on base l) u (get_or (vector_on base l) u 0 + 1)) u 0 ≡ get_or (vector_on base l) u 0 + 1 =
        get_or-set_same (vector_on base l) u (get_or (vector_on base l) u 0 + 1) 0 (omega (arith, vector_on-length base l)) in
        rw a.0 (omega (arith, vector_on_get_d base (r ∷ l) u k, vector_on_get_d base l u k)))
        (λ (a : (unit r ≡ u → ⊥) × (count u (r ∷ l) ≡ count u l)).
        rw (get_or-set_other (vector_on base l) (unit r) u (get_or (vector_on base l) (unit r) 0 + 1) 0 (λ e. a.0 (sym e)))
        (omega (arith, vector_on_get_d base (r ∷ l) u k, vector_on_get_d base l u k)))
        (count-cons u r l)

-- ---- lists that count alike and have the same record of each identity

pub record Alike (a b : List Rec) : Type 0 where
  pub counts : (u : ℕ) → count u a ≡ count u b
  pub records : (u c : ℕ) → by_id u c a ≡ by_id u c b

pub alike_vector : {a b : List Rec} (base : List ℕ) → Alike a b → vector_on base a ≡ vector_on base b
unfolding vector_on counts_on_to
alike_vector {a} {b} base k = go 8
  where
    go : (n : ℕ) → counts_on_to base a n ≡ counts_on_to base b n
    go zero = refl
    go (suc n) = rw (go n, k.counts n)

pub alike_trans : {a b c : List Rec} → Alike a b → Alike b c → Alike a c
alike_trans p q = record { counts = λ u. p.counts u ∙ q.counts u; records = λ u c. p.records u c ∙ q.records u c }

pub alike-cons : {a b : List Rec} (r : Rec) → Alike a b → Alike (r ∷ a) (r ∷ b)
unfolding count by_id
alike-cons r k = record { counts = λ u. rw (k.counts u); records = λ u c. rw (k.records u c) }

-- a record that stands somewhere inside counts as one that stands first
module _ (r : Rec) (q : List Rec) where
  count_inside : (u : ℕ) (p : List Rec) → count u (p ++ r ∷ q) ≡ count u (r ∷ (p ++ q))
  unfolding count
  count_inside u [] = refl
  count_inside u (x ∷ p) = rw (count_inside u p) (go (eqb (unit x) u) (eqb (unit r) u))
    where
      go : (a b : Bool) → cond a (suc (cond b (suc (count u (p ++ q))) (count u (p ++ q)))) (cond b (suc (count u (p ++ q))) (count u (p ++ q))) ≡ cond b (suc (cond a (suc (count u (p ++ q))) (count u (p ++ q)))) (cond a (suc (count u (p ++ q))) (count u (p ++ q)))
      go true true = refl
      go true false = refl
      go false true = refl
      go false false = refl

  by_id_skips : (u c : ℕ) → (Same r u c → ⊥) → (p : List Rec) → by_id u c (p ++ r ∷ q) ≡ by_id u c (p ++ q)
  unfolding by_id
  by_id_skips u c d [] = rw (other_test r u c d)
  by_id_skips u c d (x ∷ p) = rw (by_id_skips u c d p)

  by_id_meets : (u c : ℕ) → Same r u c → (p : List Rec) → by_id u c (p ++ q) ≡ none → by_id u c (p ++ r ∷ q) ≡ some r
  unfolding by_id
  by_id_meets u c s [] e = rw (same_test r u c s)
  by_id_meets u c s (x ∷ p) e = go (eqb (unit x) u && eqb (num x) c) e (λ f. by_id_meets u c s p f)
    where
      go : (t : Bool) → cond t (some x) (by_id u c (p ++ q)) ≡ none → (by_id u c (p ++ q) ≡ none → by_id u c (p ++ r ∷ q) ≡ some r) → cond t (some x) (by_id u c (p ++ r ∷ q)) ≡ some r
      go true f k = absurd (let z : ◌≡◌ {A = ℕ} 0 1 = cc in omega arith)
      go false f k = k f

  pub alike_inside : (p : List Rec) → by_id (unit r) (num r) (p ++ q) ≡ none → Alike (r ∷ (p ++ q)) (p ++ r ∷ q)
  alike_inside p e =
      record {
        counts = λ u. sym (count_inside u p);
        records = λ u c. ⊎_elim
            (λ (s : Same r u c). by_id_same r (p ++ q) u c s.0 s.1 ∙ sym (by_id_meets u c s p (absent s e)))
            (λ d. by_id_other r (p ++ q) u c d ∙ sym (by_id_skips u c d p))
            (same_or_not r u c);
      }
    where
      absent : {u c : ℕ} → Same r u c → by_id (unit r) (num r) (p ++ q) ≡ none → by_id u c (p ++ q) ≡ none
      absent s f = rw (s.0, s.1) at f
