-- One identity, one record; and two sound logs that agree where they share an identity, and count alike, are one list.
-- Assumes nothing.
use Prim.Native.Nat.{ℕ, suc, ◌≤◌, ◌<◌}
use native.Mathlib.Omega.{arith}
use mathlib.Core.Path.{◌≡◌, refl, sym, ap, ◌∙◌, subst}
use mathlib.Core.Logic.{inl, inr, ⊎_elim}
use mathlib.Core.List.{List, [], ◌∷◌}
use Rattle.model.specs.Record.{Rec, unit, num}
use Rattle.model.specs.Log.{rank, count, no_counts, count_on}
use Rattle.byte_slice.proofs.Numbers.{lt_or_ge}
use Rattle.log_laws.specs.Members.{Has, Sub, Agree}
use Rattle.log_laws.specs.Sound.{SoundAfter, SoundOn, Sound}
use Rattle.log_laws.proofs.Formed.{well_unit}
use Rattle.log_laws.proofs.Counts.{count-cons, count_own, count_plus, find, find_held_on, number_held_on, above_all_on, numbers_on, rank-unit}

-- a sound log has one record of an identity
pub unique_on : (base : List ℕ) (pre l : List Rec) → SoundAfter base pre l → Agree l l
unique_on base pre [] h r s i j u n = absurd i
unique_on base pre (x ∷ l) h r s i j u n = go i j (λ a b. unique_on base (x ∷ pre) l h.1 r s a b u n)
  where
    clash : (t y : Rec) → t ≡ x → Has y l → unit t ≡ unit y → num t ≡ num y → ⊥
    clash t y e k a b =
        let m : count_on base (unit y) (x ∷ pre) < num y = (numbers_on base (x ∷ pre) l y h.1 k).0 in
        let q : unit x ≡ unit y = ap unit (sym e) ∙ a in
        let p : num x ≡ num y = ap num (sym e) ∙ b in
        let z : num x ≡ suc (count_on base (unit y) pre) = h.0.next ∙ ap (λ (w : ℕ). suc (count_on base w pre)) q in
        ⊎_elim (λ c. omega arith) (λ c. c.0 q) (count-cons (unit y) x pre)

    go : Has r (x ∷ l) → Has s (x ∷ l) → (Has r l → Has s l → r ≡ s) → r ≡ s
    go (inl a) (inl b) k = a ∙ sym b
    go (inl a) (inr b) k = absurd (clash r s a b u n)
    go (inr a) (inl b) k = absurd (clash s r b a (sym u) (sym n))
    go (inr a) (inr b) k = k a b

-- the first record of one log stands somewhere in the other
meets : (base : List ℕ) (pre l : List Rec) (x : Rec) (m : List Rec) → SoundAfter base pre (x ∷ l) → SoundAfter base pre m → Agree (x ∷ l) m
    → ((u : ℕ) → u < 8 → count u (x ∷ l) ≡ count u m) → Has x m
meets base pre l x m h k g e =
    let c = count_own x l in
    let (s, i, a, b) = find base pre m (unit x) (num x) k (omega (arith, h.0.next)) (omega (arith, h.0.next, e (unit x) (well_unit x h.0.formed))) in
    rw (g x s (inl refl) i (sym a) (sym b)) i

least : (base : List ℕ) (pre m : List Rec) (y x : Rec) → SoundAfter base pre (y ∷ m) → Has x (y ∷ m) → rank y ≤ rank x
least base pre m y x h (inl e) = rw e (omega arith)
least base pre m y x h (inr i) = omega (arith, above_all_on base (y ∷ pre) m y x h.1 (inl refl) i)

same_after : (base : List ℕ) (pre l m : List Rec) → SoundAfter base pre l → SoundAfter base pre m → Agree l m → ((u : ℕ) → u < 8 → count u l ≡ count u m) → l ≡ m
same_after base pre [] [] h k g e = refl
same_after base pre [] (y ∷ m) h k g e = absurd (meets base pre m y [] k h (λ r s i j a b. absurd j) (λ u b. sym (e u b)))
same_after base pre (x ∷ l) [] h k g e = absurd (meets base pre l x [] h k g e)
same_after base pre (x ∷ l) (y ∷ m) h k g e =
    let g' : Agree (y ∷ m) (x ∷ l) = λ r s i j a b. sym (g s r j i (sym a) (sym b)) in
    let p : Has x (y ∷ m) = meets base pre l x (y ∷ m) h k g e in
    let q : Has y (x ∷ l) = meets base pre m y (x ∷ l) k h g' (λ u b. sym (e u b)) in
    let t : rank x ≡ rank y = omega (arith, least base pre m y x k p, least base pre l x y h q) in
    let u : unit x ≡ unit y = rank-unit x y (well_unit x h.0.formed) (well_unit y k.0.formed) t in
    let n : num x ≡ num y = h.0.next ∙ ap (λ (w : ℕ). suc (count_on base w pre)) u ∙ sym k.0.next in
    let z : x ≡ y = g x y (inl refl) (inl refl) u n in
    let k' : SoundAfter base (x ∷ pre) m = subst (λ (w : Rec). SoundAfter base (w ∷ pre) m) (sym z) k.1 in
    let c : (u : ℕ) → u < 8 → count u l ≡ count u m = λ w b. tails w (e w b) z in
    λ i. z i ∷ same_after base (x ∷ pre) l m h.1 k' (λ r s a b. g r s (inr a) (inr b)) c i
  where
    tails : (w : ℕ) → count w (x ∷ l) ≡ count w (y ∷ m) → x ≡ y → count w l ≡ count w m
    tails w d z =
        let d' : count w (x ∷ l) ≡ count w (x ∷ m) = d ∙ ap (λ (t : Rec). count w (t ∷ m)) (sym z) in
        omega (arith, count_plus w x l, count_plus w x m)

-- equal counts and agreement: the same list
pub same_on : (base : List ℕ) (l m : List Rec) → SoundOn base l → SoundOn base m → Agree l m → ((u : ℕ) → u < 8 → count u l ≡ count u m) → l ≡ m
same_on base l m = same_after base [] l m

-- more records, no smaller counts
pub counts_sub_on : (base : List ℕ) (l m : List Rec) → SoundOn base l → SoundOn base m → Sub l m → (u : ℕ) → count u l ≤ count u m
counts_sub_on base l m h k f u =
    ⊎_elim
    (λ e.
    let (s, i, a, b) = find_held_on base l u (count_on base u l) h (omega arith) (omega arith) in
    let n : num s ≤ count_on base u m = rw a at (number_held_on base m s k (f s i)) in
    omega arith)
    (λ e. omega arith)
    (lt_or_ge 0 (count u l))

-- ---- with no record before

pub unique : (pre l : List Rec) → SoundAfter no_counts pre l → Agree l l
unique = unique_on no_counts

pub same : (l m : List Rec) → Sound l → Sound m → Agree l m → ((u : ℕ) → u < 8 → count u l ≡ count u m) → l ≡ m
same = same_on no_counts

pub counts-sub : (l m : List Rec) → Sound l → Sound m → Sub l m → (u : ℕ) → count u l ≤ count u m
counts-sub = counts_sub_on no_counts
