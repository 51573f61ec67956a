-- Claim V2: the comparison follows Kumar's version vectors. And how its answer and its two numbers hang together.
-- Assumes nothing.
use Prim.Native.Nat.{ℕ, zero, suc, ◌+◌, ◌≤◌, ◌<◌}
use native.Mathlib.Omega.{arith}
use mathlib.Core.Path.{◌≡◌, refl, sym, ◌∙◌}
use mathlib.Core.Logic.{⊎_elim, ◌↔◌}
use mathlib.Core.Bool.{true, false}
use mathlib.Core.List.{List, [], ◌∷◌}
use lib.Dec.{eqb}
use lib.ListN.{get_or, length}
use Rattle.model.specs.Vector.{covers, compare_of, lacks_of, compared, comparison_of}
use Rattle.byte_slice.proofs.Numbers.{eq_or_ne, bool_cases, test_false, not_both}
use Rattle.vector.proofs.Dominance.{covers_at, all_covers, covers_refl, covers_trans, covers_antisym, covers_same}
use Rattle.vector.proofs.Distances.{covers_exactly, answer_by_distances}
use Rattle.vector_compare.specs.Raised.{raised}
use Rattle.vector_compare.specs.Ties.{Ties}
use Rattle.vector_compare.proofs.Answers.{answer, answer_is, neither_lacks, second_lacks, first_lacks, both_lack, said_0, said_1, said_2, said_3}

-- ---- exchanged arguments exchange 1 and 2, and keep 0 and 3

module _ (a b : List ℕ) where
  pub identical_exchanged : compare_of a b ≡ 0 → compare_of b a ≡ 0
  identical_exchanged e = let (p, q) = said_0 a b e in answer_is b a true true q p

  pub first_exchanged : compare_of a b ≡ 1 → compare_of b a ≡ 2
  first_exchanged e = let (p, q) = said_1 a b e in answer_is b a false true q p

  pub second_exchanged : compare_of a b ≡ 2 → compare_of b a ≡ 1
  second_exchanged e = let (p, q) = said_2 a b e in answer_is b a true false q p

  pub ahead_exchanged : compare_of a b ≡ 3 → compare_of b a ≡ 3
  ahead_exchanged e = let (p, q) = said_3 a b e in answer_is b a false false q p

-- ---- 0 exactly for equal vectors

pub identical_equal : (a b : List ℕ) → length a ≡ 8 → length b ≡ 8 → compare_of a b ≡ 0 → a ≡ b
identical_equal a b m n e = let (p, q) = said_0 a b e in covers_antisym a b m n p q

pub equal_identical : (a b : List ℕ) → a ≡ b → compare_of a b ≡ 0
equal_identical a b e = rw e (answer_is b b true true (covers_refl b) (covers_refl b))

-- ---- 1 exactly if every count is at least the other's and the vectors differ

pub dominates_means : (a b : List ℕ) → compare_of a b ≡ 1 → ((u : ℕ) → u < 8 → get_or b u 0 ≤ get_or a u 0) × (a ≡ b → ⊥)
dominates_means a b e =
    let (p, q) = said_1 a b e in
    (covers_at a b p, λ (f : a ≡ b). not_both (covers b a) (rw f (covers_refl b)) q)

pub dominates_if : (a b : List ℕ) → length a ≡ 8 → length b ≡ 8 → ((u : ℕ) → u < 8 → get_or b u 0 ≤ get_or a u 0) → (a ≡ b → ⊥) → compare_of a b ≡ 1
dominates_if a b m n h k =
    let p = all_covers a b h in
    answer_is a b true false p (test_false (covers b a) (λ q. k (covers_antisym a b m n p q)))

-- ---- dominance is transitive

pub dominance_transitive : (a b c : List ℕ) → compare_of a b ≡ 1 → compare_of b c ≡ 1 → compare_of a c ≡ 1
dominance_transitive a b c e f =
    let (p, q) = said_1 a b e in
    let (r, s) = said_1 b c f in
    answer_is a c true false (covers_trans a b c p r) (test_false (covers c a) (λ t. not_both (covers c b) (covers_trans c a b t p) s))

-- ---- vectors that start at 1 answer as those that start at 0

get_d_raised : (v : List ℕ) (u : ℕ) → u < length v → get_or (raised v) u 0 ≡ get_or v u 0 + 1
unfolding raised
get_d_raised [] u h = absurd (omega arith)
get_d_raised (x ∷ v) zero h = refl
get_d_raised (x ∷ v) (suc u) h = get_d_raised v u (omega arith)

covers-raised : (a b : List ℕ) → length a ≡ 8 → length b ≡ 8 → covers (raised a) (raised b) ≡ covers a b
covers-raised a b m n = ⊎_elim holds fails (bool_cases (covers a b))
  where
    holds : covers a b ≡ true → covers (raised a) (raised b) ≡ covers a b
    holds e = covers_same a b (raised a) (raised b) (λ u h k. omega (arith, get_d_raised a u (omega arith), get_d_raised b u (omega arith))) e ∙ sym e

    fails : covers a b ≡ false → covers (raised a) (raised b) ≡ covers a b
    fails e =
        test_false (covers (raised a) (raised b))
        (λ t. not_both (covers a b) (covers_same (raised a) (raised b) a b (λ u h k. omega (arith, get_d_raised a u (omega arith), get_d_raised b u (omega arith))) t) e)
        ∙ sym e

pub start_irrelevant : (a b : List ℕ) → length a ≡ 8 → length b ≡ 8 → compare_of (raised a) (raised b) ≡ compare_of a b
unfolding compare_of
start_irrelevant a b m n = rw (covers-raised a b m n, covers-raised b a n m)

-- ---- how far behind

module _ (n f s : ℕ) where
  ties_0 : n ≡ 0 → f ≡ 0 → s ≡ 0 → Ties (compared n f s)
  ties_0 e p q =
      record {
        identical = (λ _. (p, q), λ _. e);
        first_dominates = (λ d. absurd (omega arith), λ x. absurd (x.1 q));
        second_dominates = (λ d. absurd (omega arith), λ x. absurd (x.0 p));
        both_ahead = (λ d. absurd (omega arith), λ x. absurd (x.0 p));
      }

  ties_1 : n ≡ 1 → f ≡ 0 → (s ≡ 0 → ⊥) → Ties (compared n f s)
  ties_1 e p q =
      record {
        identical = (λ d. absurd (omega arith), λ x. absurd (q x.1));
        first_dominates = (λ _. (p, q), λ _. e);
        second_dominates = (λ d. absurd (omega arith), λ x. absurd (x.0 p));
        both_ahead = (λ d. absurd (omega arith), λ x. absurd (x.0 p));
      }

  ties_2 : n ≡ 2 → (f ≡ 0 → ⊥) → s ≡ 0 → Ties (compared n f s)
  ties_2 e p q =
      record {
        identical = (λ d. absurd (omega arith), λ x. absurd (p x.0));
        first_dominates = (λ d. absurd (omega arith), λ x. absurd (x.1 q));
        second_dominates = (λ _. (p, q), λ _. e);
        both_ahead = (λ d. absurd (omega arith), λ x. absurd (x.1 q));
      }

  ties_3 : n ≡ 3 → (f ≡ 0 → ⊥) → (s ≡ 0 → ⊥) → Ties (compared n f s)
  ties_3 e p q =
      record {
        identical = (λ d. absurd (omega arith), λ x. absurd (p x.0));
        first_dominates = (λ d. absurd (omega arith), λ x. absurd (p x.0));
        second_dominates = (λ d. absurd (omega arith), λ x. absurd (q x.1));
        both_ahead = (λ _. (p, q), λ _. e);
      }

  ties : n ≡ answer (eqb f 0) (eqb s 0) → Ties (compared n f s)
  ties e =
      ⊎_elim
      (λ (p : f ≡ 0). ⊎_elim (λ q. ties_0 (e ∙ sym (neither_lacks f s p q)) p q) (λ q. ties_1 (e ∙ sym (second_lacks f s p q)) p q) (eq_or_ne s 0))
      (λ (p : f ≡ 0 → ⊥). ⊎_elim (λ q. ties_2 (e ∙ sym (first_lacks f s p q)) p q) (λ q. ties_3 (e ∙ sym (both_lack f s p q)) p q) (eq_or_ne s 0))
      (eq_or_ne f 0)

-- the answer is 0, 1, 2 or 3 exactly by which of the two numbers are 0
pub answer_ties : (a b : List ℕ) → Ties (comparison_of a b)
unfolding comparison_of
answer_ties a b = ties (compare_of a b) (lacks_of a b) (lacks_of b a) (answer_by_distances a b)

-- exchanged arguments exchange the two numbers
pub lacks_exchanged : (a b : List ℕ) → ((comparison_of a b).first ≡ (comparison_of b a).second) × ((comparison_of a b).second ≡ (comparison_of b a).first)
unfolding comparison_of
lacks_exchanged a b = (refl, refl)

-- the first lacks nothing exactly if it covers the second
pub first_covers : (a b : List ℕ) → (covers a b ≡ true) ↔ ((comparison_of a b).first ≡ 0)
unfolding comparison_of
first_covers a b = covers_exactly a b
