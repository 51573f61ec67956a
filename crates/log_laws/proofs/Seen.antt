-- What a record of a sound log saw stands in the log, below it.
-- Assumes nothing.
use Prim.Native.Nat.{ℕ, ◌≤◌, ◌<◌}
use native.Mathlib.Omega.{arith}
use mathlib.Core.Path.{◌≡◌, sym, ap, ◌∙◌, subst}
use mathlib.Core.Logic.{◌⊎◌, inl, inr, ⊎_elim}
use mathlib.Core.List.{List, [], ◌∷◌}
use lib.ListN.{get_or}
use Rattle.model.specs.Record.{Rec, unit, num, seen}
use Rattle.model.specs.Log.{rank, no_counts, count_on}
use Rattle.log_laws.specs.Members.{Has}
use Rattle.log_laws.specs.Sound.{SoundAfter, SoundOn, Sound}
use Rattle.log_laws.proofs.Formed.{well_own}
use Rattle.log_laws.proofs.Counts.{count_plus, no_counts_lem, numbers_on, formed_on, unit_of_on, find_held_on, seen_within_on, lower}

-- what r saw last of a unit saw nothing that r did not
pub closed_in : (base : List ℕ) (pre l : List Rec) (r s : Rec) → SoundAfter base pre l → Has r l → Has s pre ⊎ Has s l → unit s < 8 → num s ≡ seen r (unit s) → (v : ℕ) → v < 8 → seen s v ≤ seen r v
closed_in base pre [] r s h i j b n v k = absurd i
closed_in base pre (x ∷ l) r s h (inl e) j b n v k = rw e (at j (subst (λ (t : Rec). num s ≡ seen t (unit s)) e n))
  where
    at : Has s pre ⊎ Has s (x ∷ l) → num s ≡ seen x (unit s) → seen s v ≤ seen x v
    at (inl p) m = h.0.closed s p m v k
    at (inr (inl q)) m =
        let z : num x ≡ seen x (unit x) = subst (λ (t : Rec). num t ≡ seen x (unit t)) q m in
        absurd (omega (arith, well_own x h.0.formed))
    at (inr (inr q)) m = absurd (omega (arith, (numbers_on base (x ∷ pre) l s h.1 q).0, h.0.within (unit s) b, count_plus (unit s) x pre))
closed_in base pre (x ∷ l) r s h (inr i) j b n v k =
    closed_in base (x ∷ pre) l r s h.1 i
    (⊎_elim (λ p. inl (inr p)) (λ p. ⊎_elim (λ q. inl (inl q)) (λ q. inr q) p) j)
    b n v k

-- the record u.c that r saw last of the unit u
pub record Saw (l : List Rec) (r : Rec) (u : ℕ) : Type 0 where
  pub it : Rec
  pub in_log : Has it l
  pub of_unit : unit it ≡ u
  pub numbered : num it ≡ seen r u
  pub below : rank it < rank r
  pub inside : (v : ℕ) → v < 8 → seen it v ≤ seen r v

pub saw_on : (base : List ℕ) (l : List Rec) (r : Rec) → SoundOn base l → Has r l → (u : ℕ) → u < 8 → get_or base u 0 < seen r u → Saw l r u
saw_on base l r h i u k p =
    let (s, j, a, b) = find_held_on base l u (seen r u) h p (seen_within_on base l r h i u k) in
    let q : num s ≡ seen r (unit s) = b ∙ ap (seen r) (sym a) in
    let c = closed_in base [] l r s h i (inr j) (unit_of_on base [] l s h j) q in
    record { it = s; in_log = j; of_unit = a; numbered = b; below = lower s r (formed_on base [] l s h j) q c; inside = c }

-- whatever r saw of a unit, the last and those before, ranks below it
pub seen_below_on : (base : List ℕ) (pre l : List Rec) (r s : Rec) → SoundAfter base pre l → Has r l → Has s pre ⊎ Has s l → unit s < 8 → num s ≤ seen r (unit s) → rank s < rank r
seen_below_on base pre [] r s h i j b n = absurd i
seen_below_on base pre (x ∷ l) r s h (inl e) j b n = rw e (at j (subst (λ (t : Rec). num s ≤ seen t (unit s)) e n))
  where
    at : Has s pre ⊎ Has s (x ∷ l) → num s ≤ seen x (unit s) → rank s < rank x
    at (inl p) m = h.0.above s p
    at (inr (inl q)) m =
        let z : num x ≤ seen x (unit x) = subst (λ (t : Rec). num t ≤ seen x (unit t)) q m in
        absurd (omega (arith, well_own x h.0.formed))
    at (inr (inr q)) m = absurd (omega (arith, (numbers_on base (x ∷ pre) l s h.1 q).0, h.0.within (unit s) b, count_plus (unit s) x pre))
seen_below_on base pre (x ∷ l) r s h (inr i) j b n =
    seen_below_on base (x ∷ pre) l r s h.1 i
    (⊎_elim (λ p. inl (inr p)) (λ p. ⊎_elim (λ q. inl (inl q)) (λ q. inr q) p) j)
    b n

-- ---- with no record before

pub saw : (l : List Rec) (r : Rec) → Sound l → Has r l → (u : ℕ) → u < 8 → 0 < seen r u → Saw l r u
saw l r h i u k p = saw_on no_counts l r h i u k (omega (arith, no_counts_lem u))

pub seen_below : (pre l : List Rec) (r s : Rec) → SoundAfter no_counts pre l → Has r l → Has s pre ⊎ Has s l → unit s < 8 → num s ≤ seen r (unit s) → rank s < rank r
seen_below = seen_below_on no_counts
