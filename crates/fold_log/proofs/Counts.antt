-- The base vector with records counted, one after another: each number is the next of its unit.
-- Assumes nothing.
use Prim.Native.Nat.{ℕ, zero, suc, ◌+◌, ◌-◌, ◌*◌, ◌≤◌, ◌<◌}
use native.Mathlib.Numerals.{add-one}
use native.Mathlib.Omega.{arith}
use mathlib.Core.Path.{◌≡◌, refl, sym, ◌∙◌}
use mathlib.Core.Logic.{⊎_elim}
use mathlib.Core.Bool.{true}
use mathlib.Core.List.{List, [], ◌∷◌, ◌++◌}
use lib.ListN.{get_or, length, take, drop, set, length-set}
use lib.Seq.{ext_get_or, get_or-set_same, get_or-set_other, take-suc}
use Rattle.model.specs.Record.{Rec, unit, num}
use Rattle.model.specs.Log.{count, count_on, vector_on, records_of, sound_log_on}
use Rattle.byte_slice.proofs.Numbers.{eq_or_ne}
use Rattle.log_laws.specs.Sound.{SoundAfter}
use Rattle.log_laws.proofs.Counts.{count-nil, count_own, count_other, count-append, count_shift}
use Rattle.log_laws.proofs.Tests.{vector_on-length, vector_on_get_d}
use Rattle.encoding_laws.proofs.Logs.{sound_records_on, sound_few}
use Rattle.fold_heard.proofs.Records.{record_at_lem, unit_lent}

pub counts-none : (v : List ℕ) → length v ≡ 8 → vector_on v [] ≡ v
counts-none v e =
    let m = vector_on-length v [] in
    ext_get_or 0 (vector_on v []) v (m ∙ sym e) (λ u h. omega (arith, vector_on_get_d v [] u (omega arith), count-nil u))

-- one record more
counts_more : (v : List ℕ) (l : List Rec) (r : Rec) → unit r < 8 → num r ≡ suc (count_on v (unit r) l) → set (vector_on v l) (unit r) (num r) ≡ vector_on v (l ++ (r ∷ []))
counts_more v l r b e =
    let x = vector_on v l in
    let y = vector_on v (l ++ (r ∷ [])) in
    let m = vector_on-length v l in
    let k : length (set x (unit r) (num r)) ≡ 8 = length-set x (unit r) (num r) ∙ m in
    ext_get_or 0 (set x (unit r) (num r)) y (k ∙ sym (vector_on-length v (l ++ (r ∷ [])))) (λ u h.
    let c : u < 8 = omega arith in
    ⊎_elim
    (λ (q : u ≡ unit r).
    rw q
    (omega (
      arith,
      get_or-set_same x (unit r) (num r) 0 (omega arith),
      vector_on_get_d v (l ++ (r ∷ [])) (unit r) b,
      count-append (unit r) l (r ∷ []),
      count_own r [],
      count-nil (unit r),
    )))
    (λ (q : u ≡ unit r → ⊥).
    omega (
      arith,
      get_or-set_other x (unit r) u (num r) 0 q,
      vector_on_get_d v l u c,
      vector_on_get_d v (l ++ (r ∷ [])) u c,
      count-append u l (r ∷ []),
      count_other u r [] (λ (z : unit r ≡ u). q (sym z)),
      count-nil u,
    ))
    (eq_or_ne u (unit r)))

-- each number is one above the records before it
next-at : (v : List ℕ) (pre l : List Rec) (i : ℕ) → SoundAfter v pre l → i < length l
    → num (get_or l i []) ≡ suc (get_or v (unit (get_or l i [])) 0 + count (unit (get_or l i [])) pre + count (unit (get_or l i [])) (take i l))
next-at v pre [] i s h = absurd (omega arith)
next-at v pre (r ∷ l) zero s h = omega (arith, s.0.next, count-nil (unit r))
next-at v pre (r ∷ l) (suc i) s h =
    let u = unit (get_or l i []) in
    omega (arith, next-at v (r ∷ pre) l i s.1 (omega arith), count_shift u r pre (take i l))

-- ---- what `counted` is asked, over plain values

module _ (v b : List ℕ) (long : length b ≡ 40960) (sound : sound_log_on v b ≡ true) (n i : ℕ) (few : n ≤ length (records_of b)) where
  pub counts-unit : i < n → unit (take (80 * i + 80 - 80 * i) (drop (80 * i) b)) < 8
  counts-unit h = unit_lent v b long sound i (length (records_of b)) refl (omega arith)

  pub counts-next : {x y : List ℕ} → i < n → x ≡ vector_on v (take i (records_of b)) → y ≡ set x (unit (take (80 * i + 80 - 80 * i) (drop (80 * i) b))) (num (take (80 * i + 80 - 80 * i) (drop (80 * i) b)))
      → y ≡ vector_on v (take (i + 1) (records_of b))
  counts-next h e g =
      let l = records_of b in
      let r = get_or l i [] in
      let k : i < length l = omega arith in
      let q = record_at_lem v b long sound i k in
      let below : unit r < 8 = rw q at (counts-unit h) in
      let next : num r ≡ suc (count_on v (unit r) (take i l)) = omega (arith, next-at v [] l i (sound_records_on v b sound) k, count-nil (unit r)) in
      g ∙ rw (e, q, add-one i, take-suc l i [] k) (counts_more v (take i l) r below next)

pub counts_end : (v b : List ℕ) (n i : ℕ) {x : List ℕ} → i ≤ n → n ≤ i → x ≡ vector_on v (take i (records_of b)) → x ≡ vector_on v (take n (records_of b))
counts_end v b n i a z e = let f : i ≡ n = omega arith in rw f at e

pub counts_start : (v b : List ℕ) → length v ≡ 8 → v ≡ vector_on v (take 0 (records_of b))
counts_start v b e = sym (counts-none v e)

pub counts_few : (b : List ℕ) (n : ℕ) → n ≤ length (records_of b) → n ≤ 512
counts_few b n h = omega (arith, sound_few b)
