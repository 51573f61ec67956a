-- What the checks 10 and 11 of two logs decide: 10 holds of none exactly if they agree, 11 exactly if the union has at most 512 records.
-- Assumes nothing.
use Prim.Native.Nat.{ℕ, suc, ◌+◌, ◌/◌, ◌≤◌, ◌<◌}
use native.Mathlib.Omega.{arith}
use mathlib.Core.Path.{◌≡◌, refl, sym, ap, ◌∙◌}
use mathlib.Core.Logic.{◌⊎◌, inl, inr, ⊎_elim}
use mathlib.Core.Bool.{Bool, true, false, not}
use mathlib.Core.Option.{Option, none, some}
use mathlib.Core.List.{List, [], ◌∷◌}
use lib.ListN.{get_or, length}
use borrow.Author.Tests.{lt-ltb, le-ltb}
use Rattle.model.specs.Bytes.{same_bytes}
use Rattle.model.specs.Record.{Rec, unit, num}
use Rattle.model.specs.Log.{by_id, lacking}
use Rattle.model.specs.File.{fault}
use Rattle.model.specs.Merge.{differs, bytes_fault, room_fault}
use Rattle.byte_slice.proofs.Numbers.{lt_or_ge, cond_cases}
use Rattle.byte_slice.proofs.Compare.{same_eq, same_refl}
use Rattle.log_laws.specs.Members.{Agree}
use Rattle.log_laws.specs.Sound.{Sound}
use Rattle.log_laws.proofs.Ids.{held-by_id, by_id_some}
use Rattle.log_laws.proofs.Lacking.{lacking-cons, lacking-nil}

-- ---- 10

-- no record of the second has other bytes in the first: they agree
pub agree_from : (a : List Rec) → Sound a → (i : ℕ) (b : List Rec) → (bytes_fault a i b).number ≡ 0 → Agree a b
unfolding bytes_fault differs fault
agree_from a h i [] e r s p q u n = absurd q
agree_from a h i (x ∷ b) e r s p q u n =
    ⊎_elim
    (λ c. absurd (let z : ◌≡◌ {A = ℕ} 10 0 = sym (ap (λ f. f.number) c.1) ∙ e in omega arith))
    (λ c.
    ⊎_elim
    (λ (y : s ≡ x). here (rw y c.0))
    (λ j. agree_from a h (suc i) b (sym (ap (λ f. f.number) c.1) ∙ e) r s p j u n)
    q)
    (cond_cases (differs (by_id (unit x) (num x) a) x) (fault 10 (i / 6)) (bytes_fault a (suc i) b))
  where
    not-false : (t : Bool) → not t ≡ false → t ≡ true
    not-false true z = refl
    not-false false z = absurd (let w : ◌≡◌ {A = ℕ} 0 1 = cc in omega arith)

    here : differs (by_id (unit s) (num s) a) s ≡ false → r ≡ s
    here z =
        let k : by_id (unit s) (num s) a ≡ some r = rw (← u, ← n) (held-by_id a r h p) in
        same_eq r s (not-false (same_bytes r s) (rw k at z))

-- and the other way round
pub agree_bytes : (a : List Rec) (i : ℕ) (b : List Rec) → Agree a b → bytes_fault a i b ≡ fault 0 0
unfolding bytes_fault differs
agree_bytes a i [] g = refl
agree_bytes a i (x ∷ b) g =
    rw (same (by_id (unit x) (num x) a) refl) (agree_bytes a (suc i) b (λ r s p q. g r s p (inr q)))
  where
    same : (o : Option Rec) → by_id (unit x) (num x) a ≡ o → differs (by_id (unit x) (num x) a) x ≡ false
    same none e = rw e
    same (some r) e =
        let (i, u, n) = by_id_some (unit x) (num x) a r e in
        let q : r ≡ x = g r x i (inl refl) u n in
        rw (e, q, same_refl x)

-- ---- 11

-- what the vector lacks has room behind n
pub room_left : (v : List ℕ) (n i : ℕ) (m : List Rec) → n ≤ 512 → (room_fault v n i m).number ≡ 0 → n + length (lacking v m) ≤ 512
unfolding room_fault fault
room_left v n i [] h e = omega (arith, ap (λ (l : List Rec). length l) (lacking-nil v))
room_left v n i (r ∷ m) h e =
    ⊎_elim
    (λ k.
    ⊎_elim
    (λ (l : n < 512).
    omega (arith, room_left v (suc n) (suc i) m l (rw (lt-ltb (get_or v (unit r) 0) (num r) k.0, lt-ltb n 512 l) at e), ap (λ (x : List Rec). length x) k.1))
    (λ (l : 512 ≤ n).
    absurd (let z : ◌≡◌ {A = ℕ} 11 0 = rw (lt-ltb (get_or v (unit r) 0) (num r) k.0, le-ltb n 512 l) at e in omega arith))
    (lt_or_ge n 512))
    (λ k. omega (arith, room_left v n (suc i) m h (rw (le-ltb (get_or v (unit r) 0) (num r) k.0) at e), ap (λ (x : List Rec). length x) k.1))
    (lacking-cons v r m)

-- and the other way round
pub left_room : (v : List ℕ) (n i : ℕ) (m : List Rec) → n + length (lacking v m) ≤ 512 → room_fault v n i m ≡ fault 0 0
unfolding room_fault
left_room v n i [] h = refl
left_room v n i (r ∷ m) h =
    ⊎_elim
    (λ k.
    let c : length (lacking v (r ∷ m)) ≡ suc (length (lacking v m)) = ap (λ (x : List Rec). length x) k.1 in
    rw (lt-ltb (get_or v (unit r) 0) (num r) k.0, lt-ltb n 512 (omega arith)) (left_room v (suc n) (suc i) m (omega arith)))
    (λ k.
    let c : length (lacking v (r ∷ m)) ≡ length (lacking v m) = ap (λ (x : List Rec). length x) k.1 in
    rw (le-ltb (get_or v (unit r) 0) (num r) k.0) (left_room v n (suc i) m (omega arith)))
    (lacking-cons v r m)
