-- Looking up an identity.
-- Assumes nothing.
use Prim.Native.Nat.{ℕ, ◌≤◌, ◌<◌}
use native.Mathlib.Omega.{arith}
use mathlib.Core.Path.{◌≡◌, refl, sym, ap, ◌∙◌, subst}
use mathlib.Core.Logic.{inl, inr, ⊎_elim}
use mathlib.Core.Bool.{◌&&◌}
use mathlib.Core.Option.{Option, none, some}
use mathlib.Core.List.{List, [], ◌∷◌}
use lib.Dec.{eqb}
use lib.ListN.{get_or}
use borrow.Author.Tests.{eqb-true, eq-eqb}
use Rattle.model.specs.Record.{Rec, unit, num}
use Rattle.model.specs.Log.{count, no_counts, count_on, insert, by_id}
use Rattle.byte_slice.proofs.Numbers.{cond_cases, and_true, true_and, not_both}
use Rattle.log_laws.specs.Members.{Has, Agree}
use Rattle.log_laws.specs.Sound.{SoundOn, Sound}
use Rattle.log_laws.proofs.Counts.{find_held_on, number_held_on}
use Rattle.log_laws.proofs.Insert.{has_insert, insert_has}
use Rattle.log_laws.proofs.Same.{unique_on}

pub some_none {ℓ} : {A : Type ℓ} {s : Rec} → some s ≡ none → A
some_none e = absurd (let z : ◌≡◌ {A = ℕ} 0 1 = cc in omega arith)

pub by_id_some : (u c : ℕ) (l : List Rec) (s : Rec) → by_id u c l ≡ some s → Has s l × (unit s ≡ u) × (num s ≡ c)
unfolding by_id
by_id_some u c [] s e = some_none (sym e)
by_id_some u c (r ∷ l) s e =
    ⊎_elim
    (λ k.
    let q : s ≡ r = cc in
    let (a, b) = and_true (eqb (unit r) u) (eqb (num r) c) k.0 in
    (inl q, ap unit q ∙ eqb-true (unit r) u a, ap num q ∙ eqb-true (num r) c b))
    (λ k. let (i, a, b) = by_id_some u c l s (sym k.1 ∙ e) in (inr i, a, b))
    (cond_cases (eqb (unit r) u && eqb (num r) c) (some r) (by_id u c l))

pub by_id-none : (u c : ℕ) (l : List Rec) → by_id u c l ≡ none → (s : Rec) → Has s l → unit s ≡ u → num s ≡ c → ⊥
unfolding by_id
by_id-none u c [] e s h a b = h
by_id-none u c (r ∷ l) e s h a b =
    ⊎_elim
    (λ k. some_none (sym k.1 ∙ e))
    (λ k.
    ⊎_elim
    (λ q.
    not_both (eqb (unit r) u && eqb (num r) c)
    (true_and (eqb (unit r) u) (eqb (num r) c) (eq-eqb (unit r) u (ap unit (sym q) ∙ a)) (eq-eqb (num r) c (ap num (sym q) ∙ b)))
    k.0)
    (λ i. by_id-none u c l (sym k.1 ∙ e) s i a b)
    h)
    (cond_cases (eqb (unit r) u && eqb (num r) c) (some r) (by_id u c l))

-- either nothing of that identity is there, or a record is found
pub none-by_id : (u c : ℕ) (l : List Rec) → ((s : Rec) → Has s l → unit s ≡ u → num s ≡ c → ⊥) → by_id u c l ≡ none
none-by_id u c l d = go (by_id u c l) refl
  where
    go : (o : Option Rec) → by_id u c l ≡ o → by_id u c l ≡ none
    go none e = e
    go (some s) e = let (i, a, b) = by_id_some u c l s e in absurd (d s i a b)

-- where a list has one record of an identity, it is the one that is found
pub agree_by_id : (l : List Rec) (s : Rec) → Agree l l → Has s l → by_id (unit s) (num s) l ≡ some s
agree_by_id l s g i = go (by_id (unit s) (num s) l) refl
  where
    go : (o : Option Rec) → by_id (unit s) (num s) l ≡ o → by_id (unit s) (num s) l ≡ some s
    go none e = absurd (by_id-none (unit s) (num s) l e s i refl refl)
    go (some t) e = let (j, a, b) = by_id_some (unit s) (num s) l t e in e ∙ ap some (g t s j i a b)

pub held_by_id_on : (base : List ℕ) (l : List Rec) (s : Rec) → SoundOn base l → Has s l → by_id (unit s) (num s) l ≡ some s
held_by_id_on base l s h i = agree_by_id l s (unique_on base [] l h) i

-- in a sound log an identity is held exactly if its number is at least 1 and within the count
pub within_by_id : (base : List ℕ) (l : List Rec) (u c : ℕ) → SoundOn base l → get_or base u 0 < c → c ≤ count_on base u l → (s : Rec) × (by_id u c l ≡ some s)
within_by_id base l u c h lo hi =
    let (s, i, a, b) = find_held_on base l u c h lo hi in
    (s, subst (λ (x : ℕ). by_id x c l ≡ some s) a (subst (λ (y : ℕ). by_id (unit s) y l ≡ some s) b (held_by_id_on base l s h i)))

pub beyond_by_id : (base : List ℕ) (l : List Rec) (u c : ℕ) → SoundOn base l → count_on base u l < c → by_id u c l ≡ none
beyond_by_id base l u c h k =
    none-by_id u c l (λ s i a b. let n : num s ≤ count_on base u l = rw a at (number_held_on base l s h i) in omega arith)

-- ---- after an insertion

pub by_id_inserted : (base : List ℕ) (r : Rec) (l : List Rec) → SoundOn base (insert r l) → by_id (unit r) (num r) (insert r l) ≡ some r
by_id_inserted base r l h = held_by_id_on base (insert r l) r h (insert_has r l r (inl refl))

pub by_id-kept : (base : List ℕ) (r : Rec) (l : List Rec) (u c : ℕ) → SoundOn base l → SoundOn base (insert r l) → ((unit r ≡ u) → num r ≡ c → ⊥) → by_id u c (insert r l) ≡ by_id u c l
by_id-kept base r l u c h k d = go (by_id u c l) refl
  where
    go : (o : Option Rec) → by_id u c l ≡ o → by_id u c (insert r l) ≡ by_id u c l
    go none e =
        none-by_id u c (insert r l) (λ s i a b.
        ⊎_elim
        (λ q. d (ap unit (sym q) ∙ a) (ap num (sym q) ∙ b))
        (λ j. by_id-none u c l e s j a b)
        (has_insert r l s i))
        ∙ sym e
    go (some s) e =
        let (i, a, b) = by_id_some u c l s e in
        subst (λ (x : ℕ). by_id x c (insert r l) ≡ some s) a
        (subst (λ (y : ℕ). by_id (unit s) y (insert r l) ≡ some s) b (held_by_id_on base (insert r l) s k (insert_has r l s (inr i))))
        ∙ sym e

-- ---- with no record before

pub held-by_id : (l : List Rec) (s : Rec) → Sound l → Has s l → by_id (unit s) (num s) l ≡ some s
held-by_id = held_by_id_on no_counts
