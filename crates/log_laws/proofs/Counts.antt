-- Counts and numbers in a sound log: which identities it has, and in which order they stand.
-- Assumes nothing.
use Prim.Native.Nat.{ℕ, suc, ◌+◌, ◌≤◌, ◌<◌}
use native.Mathlib.Omega.{arith}
use mathlib.Core.Path.{◌≡◌, refl, sym, ap, ◌∙◌}
use mathlib.Core.Logic.{◌⊎◌, inl, inr, ⊎_elim}
use mathlib.Core.Bool.{true}
use mathlib.Core.List.{List, [], ◌∷◌, ◌++◌}
use lib.ListN.{get_or, length, length-replicate, get_or-replicate, get_or-eq_default}
use borrow.Author.Tests.{eq-eqb, ne_eqb}
use Rattle.model.specs.Record.{Rec, unit, num, seen, well_formed}
use Rattle.model.specs.Log.{sum_to, rank, count, no_counts, count_on}
use Rattle.byte_slice.proofs.Numbers.{eq_or_ne, lt_or_ge}
use Rattle.log_laws.specs.Members.{Has}
use Rattle.log_laws.specs.Sound.{SoundAfter, SoundOn, Sound}
use Rattle.log_laws.proofs.Formed.{well_unit, well_own}
use Rattle.log_laws.proofs.Sums.{sum_to-lt, sum_to-suc, sum_to_zero}

-- ---- counts

abbrev pub Counted : ℕ → Rec → List Rec → Type 0
Counted u r l = ((unit r ≡ u) × (count u (r ∷ l) ≡ suc (count u l))) ⊎ ((unit r ≡ u → ⊥) × (count u (r ∷ l) ≡ count u l))

pub count-cons : (u : ℕ) (r : Rec) (l : List Rec) → Counted u r l
unfolding count
count-cons u r l =
    ⊎_elim
    (λ e. inl (e, rw (eq-eqb (unit r) u e)))
    (λ e. inr (e, rw (ne_eqb (unit r) u e)))
    (eq_or_ne (unit r) u)

pub count-nil : (u : ℕ) → count u [] ≡ 0
unfolding count
count-nil u = refl

pub count_own : (r : Rec) (l : List Rec) → count (unit r) (r ∷ l) ≡ suc (count (unit r) l)
count_own r l = ⊎_elim (λ a. a.1) (λ a. absurd (a.0 refl)) (count-cons (unit r) r l)

pub count_other : (u : ℕ) (r : Rec) (l : List Rec) → (unit r ≡ u → ⊥) → count u (r ∷ l) ≡ count u l
count_other u r l d = ⊎_elim (λ a. absurd (d a.0)) (λ a. a.1) (count-cons u r l)

-- a record counts for itself
pub count_plus : (u : ℕ) (x : Rec) (l : List Rec) → count u (x ∷ l) ≡ count u (x ∷ []) + count u l
count_plus u x l =
    ⊎_elim
    (λ a. ⊎_elim (λ b. omega (arith, count-nil u)) (λ b. absurd (b.0 a.0)) (count-cons u x []))
    (λ a. ⊎_elim (λ b. absurd (a.0 b.0)) (λ b. omega (arith, count-nil u)) (count-cons u x []))
    (count-cons u x l)

pub count-append : (u : ℕ) (p l : List Rec) → count u (p ++ l) ≡ count u p + count u l
count-append u [] l = omega (arith, count-nil u)
count-append u (x ∷ p) l = omega (arith, count_plus u x (p ++ l), count_plus u x p, count-append u p l)

-- moving a record from the rest to what stands before leaves the total
pub count_shift : (u : ℕ) (x : Rec) (pre l : List Rec) → count u (x ∷ pre) + count u l ≡ count u pre + count u (x ∷ l)
count_shift u x pre l = omega (arith, count_plus u x pre, count_plus u x l)

-- a list of records of units below 8 is as long as its counts add up to
pub length-counts : (l : List Rec) → ((r : Rec) → Has r l → unit r < 8) → sum_to 8 (λ u. count u l) ≡ length l
length-counts [] h = sum_to_zero 8 (λ u. count u []) count-nil
length-counts (r ∷ l) h =
    sum_to-suc 8 (λ u. count u l) (λ u. count u (r ∷ l)) (unit r) (h r (inl refl)) (count_own r l) (λ v d. count_other v r l d)
    ∙ ap suc (length-counts l (λ s i. h s (inr i)))

-- ---- the records of a sound log

pub sound_front_on : (base : List ℕ) (pre l m : List Rec) → SoundAfter base pre (l ++ m) → SoundAfter base pre l
sound_front_on base pre [] m h = tt
sound_front_on base pre (r ∷ l) m h = (h.0, sound_front_on base (r ∷ pre) l m h.1)

-- whatever stands before ranks below what comes after
pub above_all_on : (base : List ℕ) (pre l : List Rec) (p s : Rec) → SoundAfter base pre l → Has p pre → Has s l → rank p < rank s
above_all_on base pre [] p s h i j = absurd j
above_all_on base pre (r ∷ l) p s h i (inl e) = rw e (h.0.above p i)
above_all_on base pre (r ∷ l) p s h i (inr j) = above_all_on base (r ∷ pre) l p s h.1 (inr i) j

pub formed_on : (base : List ℕ) (pre l : List Rec) (s : Rec) → SoundAfter base pre l → Has s l → well_formed s ≡ true
formed_on base pre [] s h i = absurd i
formed_on base pre (r ∷ l) s h (inl e) = rw e h.0.formed
formed_on base pre (r ∷ l) s h (inr i) = formed_on base (r ∷ pre) l s h.1 i

pub unit_of_on : (base : List ℕ) (pre l : List Rec) (s : Rec) → SoundAfter base pre l → Has s l → unit s < 8
unit_of_on base pre l s h i = well_unit s (formed_on base pre l s h i)

pub own_of_on : (base : List ℕ) (pre l : List Rec) (s : Rec) → SoundAfter base pre l → Has s l → num s ≡ suc (seen s (unit s))
own_of_on base pre l s h i = well_own s (formed_on base pre l s h i)

-- the numbers of a unit lie above what stands before, and within the total
pub numbers_on : (base : List ℕ) (pre l : List Rec) (s : Rec) → SoundAfter base pre l → Has s l → (count_on base (unit s) pre < num s) × (num s ≤ count_on base (unit s) pre + count (unit s) l)
numbers_on base pre [] s h i = absurd i
numbers_on base pre (r ∷ l) s h (inl e) = rw e (omega (arith, h.0.next), omega (arith, h.0.next, count_own r l))
numbers_on base pre (r ∷ l) s h (inr i) = step (numbers_on base (r ∷ pre) l s h.1 i) (count-cons (unit s) r pre)
  where
    step : (count_on base (unit s) (r ∷ pre) < num s) × (num s ≤ count_on base (unit s) (r ∷ pre) + count (unit s) l) → Counted (unit s) r pre
        → (count_on base (unit s) pre < num s) × (num s ≤ count_on base (unit s) pre + count (unit s) (r ∷ l))
    step n (inl a) = (omega arith, omega (arith, count_shift (unit s) r pre l))
    step n (inr a) = (omega arith, omega (arith, count_shift (unit s) r pre l))

pub number_held_on : (base : List ℕ) (l : List Rec) (s : Rec) → SoundOn base l → Has s l → num s ≤ count_on base (unit s) l
number_held_on base l s h i = omega (arith, (numbers_on base [] l s h i).1, count-nil (unit s))

-- a number within the count is there
pub find : (base : List ℕ) (pre l : List Rec) (u c : ℕ) → SoundAfter base pre l → count_on base u pre < c → c ≤ count_on base u pre + count u l
    → (s : Rec) × Has s l × (unit s ≡ u) × (num s ≡ c)
find base pre [] u c h lo hi = absurd (omega (arith, count-nil u))
find base pre (r ∷ l) u c h lo hi =
    ⊎_elim
    (λ e. at (eq_or_ne c (num r)) e (λ lo'. find base (r ∷ pre) l u c h.1 lo' hi'))
    (λ e. later (find base (r ∷ pre) l u c h.1 (omega (arith, count_other u r pre e)) hi'))
    (eq_or_ne (unit r) u)
  where
    hi' : c ≤ count_on base u (r ∷ pre) + count u l
    hi' = omega (arith, count_shift u r pre l)

    later : (s : Rec) × Has s l × (unit s ≡ u) × (num s ≡ c) → (s : Rec) × Has s (r ∷ l) × (unit s ≡ u) × (num s ≡ c)
    later (s, m, a, b) = (s, inr m, a, b)

    own : unit r ≡ u → num r ≡ suc (count_on base u pre)
    own e = h.0.next ∙ ap (λ (w : ℕ). suc (count_on base w pre)) e

    more : unit r ≡ u → (c ≡ num r → ⊥) → Counted u r pre → count_on base u (r ∷ pre) < c
    more e d (inl a) = omega (arith, own e)
    more e d (inr a) = absurd (a.0 e)

    at : (c ≡ num r) ⊎ (c ≡ num r → ⊥) → unit r ≡ u → (count_on base u (r ∷ pre) < c → (s : Rec) × Has s l × (unit s ≡ u) × (num s ≡ c))
        → (s : Rec) × Has s (r ∷ l) × (unit s ≡ u) × (num s ≡ c)
    at (inl q) e k = (r, inl refl, e, sym q)
    at (inr q) e k = later (k (more e q (count-cons u r pre)))

pub find_held_on : (base : List ℕ) (l : List Rec) (u c : ℕ) → SoundOn base l → get_or base u 0 < c → c ≤ count_on base u l → (s : Rec) × Has s l × (unit s ≡ u) × (num s ≡ c)
find_held_on base l u c h lo hi = find base [] l u c h (omega (arith, count-nil u)) (omega (arith, count-nil u))

-- what each held record saw is held
pub seen-held : (base : List ℕ) (pre l : List Rec) (s : Rec) → SoundAfter base pre l → Has s l → (v : ℕ) → v < 8 → seen s v ≤ count_on base v pre + count v l
seen-held base pre [] s h i v k = absurd i
seen-held base pre (r ∷ l) s h (inl e) v k = rw e (omega (arith, h.0.within v k))
seen-held base pre (r ∷ l) s h (inr i) v k = omega (arith, seen-held base (r ∷ pre) l s h.1 i v k, count_shift v r pre l)

pub seen_within_on : (base : List ℕ) (l : List Rec) (s : Rec) → SoundOn base l → Has s l → (v : ℕ) → v < 8 → seen s v ≤ count_on base v l
seen_within_on base l s h i v k = omega (arith, seen-held base [] l s h i v k, count-nil v)

-- ---- with no record before

pub no_counts_lem : (u : ℕ) → get_or no_counts u 0 ≡ 0
no_counts_lem u =
    ⊎_elim
    (λ k. get_or-replicate 8 u 0 0 k)
    (λ k. get_or-eq_default no_counts 0 {n = u} k)
    (lt_or_ge u 8)

pub sound_front : (pre l m : List Rec) → SoundAfter no_counts pre (l ++ m) → SoundAfter no_counts pre l
sound_front = sound_front_on no_counts

pub above_all : (pre l : List Rec) (p s : Rec) → SoundAfter no_counts pre l → Has p pre → Has s l → rank p < rank s
above_all = above_all_on no_counts

pub formed : (pre l : List Rec) (s : Rec) → SoundAfter no_counts pre l → Has s l → well_formed s ≡ true
formed = formed_on no_counts

pub unit_of_lem : (pre l : List Rec) (s : Rec) → SoundAfter no_counts pre l → Has s l → unit s < 8
unit_of_lem = unit_of_on no_counts

pub own_of : (pre l : List Rec) (s : Rec) → SoundAfter no_counts pre l → Has s l → num s ≡ suc (seen s (unit s))
own_of = own_of_on no_counts

pub numbers : (pre l : List Rec) (s : Rec) → SoundAfter no_counts pre l → Has s l → (count (unit s) pre < num s) × (num s ≤ count (unit s) pre + count (unit s) l)
numbers pre l s h i =
    let n = numbers_on no_counts pre l s h i in
    let z = no_counts_lem (unit s) in
    (omega (arith, n.0), omega (arith, n.1))

pub number_held : (l : List Rec) (s : Rec) → Sound l → Has s l → num s ≤ count (unit s) l
number_held l s h i = omega (arith, number_held_on no_counts l s h i, no_counts_lem (unit s))

pub find_held : (l : List Rec) (u c : ℕ) → Sound l → 0 < c → c ≤ count u l → (s : Rec) × Has s l × (unit s ≡ u) × (num s ≡ c)
find_held l u c h lo hi = let z = no_counts_lem u in find_held_on no_counts l u c h (omega arith) (omega arith)

pub seen_within : (l : List Rec) (s : Rec) → Sound l → Has s l → (v : ℕ) → v < 8 → seen s v ≤ count v l
seen_within l s h i v k = omega (arith, seen_within_on no_counts l s h i v k, no_counts_lem v)

-- ---- rank

-- what a record saw ranks below it
pub lower : (s r : Rec) → well_formed s ≡ true → num s ≡ seen r (unit s) → ((v : ℕ) → v < 8 → seen s v ≤ seen r v) → rank s < rank r
unfolding rank
lower s r w c d = omega (arith, well_unit s w, sum_to-lt 8 (seen s) (seen r) d (unit s) (well_unit s w) (omega (arith, well_own s w)))

-- what has seen all of a log ranks above it
pub covering_above_on : (base : List ℕ) (l : List Rec) (r : Rec) → SoundOn base l → ((u : ℕ) → u < 8 → count_on base u l ≤ seen r u) → (s : Rec) → Has s l → rank s < rank r
unfolding rank
covering_above_on base l r h c s i =
    let b = unit_of_on base [] l s h i in
    let lt : sum_to 8 (seen s) < sum_to 8 (seen r) =
    sum_to-lt 8 (seen s) (seen r) (λ v k. omega (arith, seen_within_on base l s h i v k, c v k)) (unit s) b
    (omega (arith, number_held_on base l s h i, own_of_on base [] l s h i, c (unit s) b)) in
    omega arith

pub covering_above : (l : List Rec) (r : Rec) → Sound l → ((u : ℕ) → u < 8 → count u l ≤ seen r u) → (s : Rec) → Has s l → rank s < rank r
covering_above l r h c = covering_above_on no_counts l r h (λ u k. omega (arith, c u k, no_counts_lem u))

-- units are below 8, so equal ranks have equal units
pub rank-unit : (x y : Rec) → unit x < 8 → unit y < 8 → rank x ≡ rank y → unit x ≡ unit y
unfolding rank
rank-unit x y a b e = omega arith
