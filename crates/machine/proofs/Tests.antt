-- What the tests of the premises tell.
-- Assumes nothing.
use Prim.Native.Nat.{◌<◌}
use native.Mathlib.Omega.{arith}
use mathlib.Core.Path.{◌≡◌, refl, sym, ap, ◌∙◌}
use mathlib.Core.Logic.{◌⊎◌, inl, inr}
use mathlib.Core.Bool.{true, false, not}
use mathlib.Core.Option.{Option, none, some}
use mathlib.Core.List.{List, [], ◌∷◌}
use borrow.Author.Tests.{ltb-true, not-true}
use Rattle.model.specs.Record.{Rec, unit, num}
use Rattle.model.specs.Log.{rank, by_id}
use Rattle.byte_slice.proofs.Numbers.{and_true, not_both}
use Rattle.log_laws.specs.Members.{Has, Agree}
use Rattle.log_laws.proofs.Ids.{by_id_some, by_id-none}
use Rattle.machine.specs.Claim.{is_some, holds, distinct, holds_all, firsts, below, rising}

-- ---- a record of an identity is in the list, or none is

abbrev pub Held : List Rec → Rec → Type 0
Held l r =
    ((s : Rec) × (holds l r ≡ true) × Has s l × (unit s ≡ unit r) × (num s ≡ num r))
    ⊎ ((holds l r ≡ false) × ((s : Rec) → Has s l → unit s ≡ unit r → num s ≡ num r → ⊥))

pub holds_cases : (l : List Rec) (r : Rec) → Held l r
unfolding holds is_some
holds_cases l r = go (by_id (unit r) (num r) l) refl
  where
    go : (o : Option Rec) → by_id (unit r) (num r) l ≡ o → Held l r
    go none e = inr (rw e, by_id-none (unit r) (num r) l e)
    go (some s) e = let (i, a, b) = by_id_some (unit r) (num r) l s e in inl (s, rw e, i, a, b)

pub holds_some : (l : List Rec) (r : Rec) → holds l r ≡ true → (s : Rec) × Has s l × (unit s ≡ unit r) × (num s ≡ num r)
holds_some l r e = go (holds_cases l r)
  where
    go : Held l r → (s : Rec) × Has s l × (unit s ≡ unit r) × (num s ≡ num r)
    go (inl (s, h, i, a, b)) = (s, i, a, b)
    go (inr (h, d)) = absurd (not_both (holds l r) e h)

pub holds-none : (l : List Rec) (r : Rec) → holds l r ≡ false → (s : Rec) → Has s l → unit s ≡ unit r → num s ≡ num r → ⊥
holds-none l r e = go (holds_cases l r)
  where
    go : Held l r → (s : Rec) → Has s l → unit s ≡ unit r → num s ≡ num r → ⊥
    go (inl (s, h, i, a, b)) = absurd (not_both (holds l r) h e)
    go (inr (h, d)) = d

pub has_holds : (l : List Rec) (r : Rec) → Has r l → holds l r ≡ true
has_holds l r i = go (holds_cases l r)
  where
    go : Held l r → holds l r ≡ true
    go (inl (s, h, _, _, _)) = h
    go (inr (h, d)) = absurd (d r i refl refl)

-- ---- distinct records: one for an identity

pub distinct_agree : (l : List Rec) → distinct l ≡ true → Agree l l
unfolding distinct
distinct_agree [] e r s i j u n = absurd i
distinct_agree (x ∷ l) e r s i j u n =
    let (a, b) = and_true (not (holds l x)) (distinct l) e in
    go (holds-none l x (not-true (holds l x) a)) i j (λ p q. distinct_agree l b r s p q u n)
  where
    go : ((t : Rec) → Has t l → unit t ≡ unit x → num t ≡ num x → ⊥) → Has r (x ∷ l) → Has s (x ∷ l) → (Has r l → Has s l → r ≡ s) → r ≡ s
    go d (inl p) (inl q) k = p ∙ sym q
    go d (inl p) (inr q) k = absurd (d s q (sym u ∙ ap unit p) (sym n ∙ ap num p))
    go d (inr p) (inl q) k = absurd (d r p (u ∙ ap unit q) (n ∙ ap num q))
    go d (inr p) (inr q) k = k p q

-- ---- rising ranks

abbrev pub Rising : List Rec → Type 0
Rising [] = Unit {0}
Rising (r ∷ l) = ((s : Rec) → Has s l → rank r < rank s) × Rising l

pub rising_from : (l : List Rec) → rising l ≡ true → Rising l
unfolding rising below
rising_from [] e = tt
rising_from (r ∷ l) e =
    let (a, b) = and_true (below r l) (rising l) e in
    let k = rising_from l b in
    (lowest l a k, k)
  where
    lowest : (m : List Rec) → below r m ≡ true → Rising m → (s : Rec) → Has s m → rank r < rank s
    lowest [] a k s i = absurd i
    lowest (x ∷ m) a k s (inl e) = rw e (ltb-true (rank r) (rank x) a)
    lowest (x ∷ m) a k s (inr i) = omega (arith, ltb-true (rank r) (rank x) a, k.0 s i)

-- ---- every record is in the list

pub all_from : (l rs : List Rec) → holds_all l rs ≡ true → (r : Rec) → Has r rs → holds l r ≡ true
unfolding holds_all
all_from l [] e r i = absurd i
all_from l (x ∷ rs) e r (inl q) = rw q (and_true (holds l x) (holds_all l rs) e).0
all_from l (x ∷ rs) e r (inr i) = all_from l rs (and_true (holds l x) (holds_all l rs) e).1 r i

-- ---- first appearances

pub firsts_skip : (acc : List Rec) (r : Rec) (rs : List Rec) → holds acc r ≡ true → firsts acc (r ∷ rs) ≡ firsts acc rs
unfolding firsts
firsts_skip acc r rs e = rw e

pub firsts_keep : (acc : List Rec) (r : Rec) (rs : List Rec) → holds acc r ≡ false → firsts acc (r ∷ rs) ≡ r ∷ firsts (r ∷ acc) rs
unfolding firsts
firsts_keep acc r rs e = rw e
