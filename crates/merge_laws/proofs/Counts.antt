-- How many records a union has, of each unit and in all; and that what a vector lacks of a sound log rises in rank.
-- Assumes nothing.
use Prim.Native.Nat.{ℕ, zero, suc, ◌+◌, ◌<◌, max}
use native.Mathlib.Omega.{arith}
use mathlib.Core.Path.{◌≡◌, refl, sym, ap, subst}
use mathlib.Core.Logic.{inl, inr, ⊎_elim}
use mathlib.Core.List.{List, [], ◌∷◌}
use lib.ListN.{get_or, length}
use Rattle.model.specs.Record.{Rec}
use Rattle.model.specs.Log.{rank, count, insert, vector_of, no_counts, lacking}
use Rattle.model.specs.Merge.{insert_all, union}
use Rattle.log_laws.specs.Members.{Has}
use Rattle.log_laws.specs.Sound.{SoundAfter, Sound}
use Rattle.log_laws.proofs.Counts.{above_all, count-nil, count_shift}
use Rattle.log_laws.proofs.Insert.{count-insert, length-insert}
use Rattle.log_laws.proofs.Lacking.{lacking-cons, lacking-nil, has_lacking, count-lacking, union-length}
use Rattle.log_laws.proofs.Sums.{sum_to-eq}
use Rattle.log_laws.proofs.Tests.{vector_of_get_d}

insert_all-count : (u : ℕ) (l m : List Rec) → count u (insert_all l m) ≡ count u m + count u l
unfolding insert_all
insert_all-count u l [] = omega (arith, count-nil u)
insert_all-count u l (r ∷ m) = omega (arith, insert_all-count u (insert r l) m, count-insert u r l, count_shift u r l m)

insert_all-length : (l m : List Rec) → length (insert_all l m) ≡ length l + length m
unfolding insert_all
insert_all-length l [] = omega arith
insert_all-length l (r ∷ m) = omega (arith, insert_all-length (insert r l) m, length-insert r l)

-- the records of the first, and what it lacks of the second
pub union-longer : (a b : List Rec) → length (union a b) ≡ length a + length (lacking (vector_of a) b)
unfolding union
union-longer a b = insert_all-length a (lacking (vector_of a) b)

-- of each unit as many as the log has that has more of it
pub union-counts : (a b : List Rec) → Sound b → (u : ℕ) → u < 8 → count u (union a b) ≡ max (count u a) (count u b)
unfolding union
union-counts a b sb u k =
    omega (arith, insert_all-count u a (lacking (vector_of a) b), count-lacking (vector_of a) u [] b sb, vector_of_get_d a u k, count-nil u)

-- either way round as many
pub union_length_exchanged : (a b : List Rec) → Sound a → Sound b → length (union a b) ≡ length (union b a)
union_length_exchanged a b sa sb =
    omega (
      arith,
      union-longer a b,
      union-longer b a,
      union-length b a sb sa,
      union-length a b sa sb,
      sum_to-eq 8 (λ u. max (count u b) (count u a)) (λ u. max (count u a) (count u b)) (λ u k. omega arith),
    )

-- ---- what is lacked rises in rank

has_at : (l : List Rec) (i : ℕ) → i < length l → Has (get_or l i []) l
has_at [] i h = absurd (omega arith)
has_at (r ∷ l) zero h = inl refl
has_at (r ∷ l) (suc i) h = inr (has_at l i (omega arith))

pub lacking-rises : (v : List ℕ) (pre l : List Rec) → SoundAfter no_counts pre l → (j : ℕ) → suc j < length (lacking v l)
    → rank (get_or (lacking v l) j []) < rank (get_or (lacking v l) (suc j) [])
lacking-rises v pre [] s j h = absurd (omega (arith, ap (λ (x : List Rec). length x) (lacking-nil v)))
lacking-rises v pre (r ∷ l) s j h =
    ⊎_elim
    (λ k. subst Up (sym k.1) (up (lacking-rises v (r ∷ pre) l s.1)) j h)
    (λ k. subst Up (sym k.1) (lacking-rises v (r ∷ pre) l s.1) j h)
    (lacking-cons v r l)
  where
    Up : List Rec → Type 0
    Up m = (j : ℕ) → suc j < length m → rank (get_or m j []) < rank (get_or m (suc j) [])

    up : Up (lacking v l) → Up (r ∷ lacking v l)
    up f zero g =
        above_all (r ∷ pre) l r (get_or (lacking v l) 0 []) s.1 (inl refl)
        (has_lacking v l (get_or (lacking v l) 0 []) (has_at (lacking v l) 0 (omega arith)))
    up f (suc i) g = f i (omega arith)
