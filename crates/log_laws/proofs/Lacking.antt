-- The records that a vector lacks.
-- Assumes nothing.
use Prim.Native.Nat.{ℕ, suc, ◌+◌, ◌≤◌, ◌<◌, max}
use native.Mathlib.Omega.{arith}
use mathlib.Core.Path.{◌≡◌, refl, sym, ap, ◌∙◌, subst}
use mathlib.Core.Logic.{◌⊎◌, inl, inr, ⊎_elim}
use mathlib.Core.List.{List, [], ◌∷◌}
use lib.ListN.{get_or, length}
use borrow.Author.Tests.{lt-ltb, le-ltb}
use Rattle.model.specs.Record.{Rec, unit, num}
use Rattle.model.specs.Log.{sum_to, count, vector_of, no_counts, count_on, lacking}
use Rattle.byte_slice.proofs.Numbers.{lt_or_ge, eq_or_ne}
use Rattle.log_laws.specs.Members.{Has, Sub}
use Rattle.log_laws.specs.Sound.{SoundAfter, Sound}
use Rattle.log_laws.proofs.Sums.{sum_to_plus}
use Rattle.log_laws.proofs.Counts.{count-nil, count_own, count_other, no_counts_lem, length-counts, unit_of_lem, find_held}
use Rattle.log_laws.proofs.Tests.{vector_of_get_d}

abbrev pub Lacked : List ℕ → Rec → List Rec → Type 0
Lacked v r l =
    ((get_or v (unit r) 0 < num r) × (lacking v (r ∷ l) ≡ r ∷ lacking v l)) ⊎ ((num r ≤ get_or v (unit r) 0) × (lacking v (r ∷ l) ≡ lacking v l))

pub lacking-cons : (v : List ℕ) (r : Rec) (l : List Rec) → Lacked v r l
unfolding lacking
lacking-cons v r l =
    ⊎_elim
    (λ e. inl (e, rw (lt-ltb (get_or v (unit r) 0) (num r) e)))
    (λ e. inr (e, rw (le-ltb (get_or v (unit r) 0) (num r) e)))
    (lt_or_ge (get_or v (unit r) 0) (num r))

pub lacking-nil : (v : List ℕ) → lacking v [] ≡ []
unfolding lacking
lacking-nil v = refl

pub has_lacking : (v : List ℕ) (l : List Rec) → Sub (lacking v l) l
has_lacking v [] r h = rw (lacking-nil v) at h
has_lacking v (x ∷ l) r h =
    ⊎_elim
    (λ k. ⊎_elim (λ e. inl e) (λ i. inr (has_lacking v l r i)) (subst (Has r) k.1 h))
    (λ k. inr (has_lacking v l r (subst (Has r) k.1 h)))
    (lacking-cons v x l)

pub lacking_has : (v : List ℕ) (l : List Rec) (r : Rec) → Has r l → get_or v (unit r) 0 < num r → Has r (lacking v l)
lacking_has v [] r h n = absurd h
lacking_has v (x ∷ l) r (inl e) n =
    ⊎_elim
    (λ k. subst (Has r) (sym k.1) (inl e))
    (λ k. absurd (omega (arith, subst (λ (t : Rec). num t ≤ get_or v (unit t) 0) (sym e) k.0)))
    (lacking-cons v x l)
lacking_has v (x ∷ l) r (inr i) n =
    ⊎_elim
    (λ k. subst (Has r) (sym k.1) (inr (lacking_has v l r i n)))
    (λ k. subst (Has r) (sym k.1) (lacking_has v l r i n))
    (lacking-cons v x l)

pub lacking_beyond : (v : List ℕ) (l : List Rec) (r : Rec) → Has r (lacking v l) → get_or v (unit r) 0 < num r
lacking_beyond v [] r h = absurd (rw (lacking-nil v) at h)
lacking_beyond v (x ∷ l) r h =
    ⊎_elim
    (λ k.
    ⊎_elim
    (λ (e : r ≡ x). subst (λ (t : Rec). get_or v (unit t) 0 < num t) (sym e) k.0)
    (λ i. lacking_beyond v l r i)
    (subst (Has r) k.1 h))
    (λ k. lacking_beyond v l r (subst (Has r) k.1 h))
    (lacking-cons v x l)

-- ---- what the vector of a sound log lacks of another

-- a record of the one that the other does not hold is lacked
pub absent_lacked : (a b : List Rec) → Sound b → (r : Rec) → unit r < 8 → 0 < num r → Has r a
    → ((s : Rec) → Has s b → unit s ≡ unit r → num s ≡ num r → ⊥) → Has r (lacking (vector_of b) a)
absent_lacked a b h r k p i d =
    lacking_has (vector_of b) a r i
    (⊎_elim
    (λ e. omega (arith, vector_of_get_d b (unit r) k))
    (λ e. let (s, j, x, y) = find_held b (unit r) (num r) h p e in absurd (d s j x y))
    (lt_or_ge (count (unit r) b) (num r)))

-- how many of a unit are lacked
pub count_lacking_on : (base v : List ℕ) (u : ℕ) (pre l : List Rec) → SoundAfter base pre l
    → count u (lacking v l) + max (count_on base u pre) (get_or v u 0) ≡ max (count_on base u pre + count u l) (get_or v u 0)
count_lacking_on base v u pre [] h = omega (arith, ap (count u) (lacking-nil v), count-nil u)
count_lacking_on base v u pre (r ∷ l) h =
    let ih = count_lacking_on base v u (r ∷ pre) l h.1 in
    ⊎_elim
    (λ (e : unit r ≡ u).
    let n : num r ≡ suc (count_on base u pre) = h.0.next ∙ ap (λ (x : ℕ). suc (count_on base x pre)) e in
    let own : (m : List Rec) → count u (r ∷ m) ≡ suc (count u m) = λ m. subst (λ (x : ℕ). count x (r ∷ m) ≡ suc (count x m)) e (count_own r m) in
    ⊎_elim
    (λ k.
    let g : get_or v u 0 < num r = subst (λ (x : ℕ). get_or v x 0 < num r) e k.0 in
    omega (arith, own pre, own l, own (lacking v l), ap (count u) k.1))
    (λ k.
    let g : num r ≤ get_or v u 0 = subst (λ (x : ℕ). num r ≤ get_or v x 0) e k.0 in
    omega (arith, own pre, own l, ap (count u) k.1))
    (lacking-cons v r l))
    (λ (e : unit r ≡ u → ⊥).
    ⊎_elim
    (λ k. omega (arith, count_other u r pre e, count_other u r l e, count_other u r (lacking v l) e, ap (count u) k.1))
    (λ k. omega (arith, count_other u r pre e, count_other u r l e, ap (count u) k.1))
    (lacking-cons v r l))
    (eq_or_ne (unit r) u)

pub count-lacking : (v : List ℕ) (u : ℕ) (pre l : List Rec) → SoundAfter no_counts pre l → count u (lacking v l) + max (count u pre) (get_or v u 0) ≡ max (count u pre + count u l) (get_or v u 0)
count-lacking v u pre l h = omega (arith, count_lacking_on no_counts v u pre l h, no_counts_lem u)

-- the union of two logs: what one lacks, and its own
pub union-length : (a b : List Rec) → Sound a → Sound b → length (lacking (vector_of b) a) + length b ≡ sum_to 8 (λ u. max (count u a) (count u b))
union-length a b h k =
    let l : List Rec = lacking (vector_of b) a in
    let p = length-counts l (λ r i. unit_of_lem [] a r h (has_lacking (vector_of b) a r i)) in
    let q = length-counts b (λ r i. unit_of_lem [] b r k i) in
    let s = sum_to_plus 8 (λ u. count u l) (λ u. count u b) (λ u. max (count u a) (count u b))
    (λ u j. omega (arith, count-lacking (vector_of b) u [] a h, vector_of_get_d b u j, count-nil u)) in
    omega arith
