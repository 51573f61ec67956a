-- A log's bytes give its records back, and a sound log's records give its bytes back.
-- Assumes nothing.
use Prim.Native.Nat.{ℕ, zero, suc, ◌+◌, ◌-◌, ◌*◌, ◌≤◌}
use native.Mathlib.Omega.{arith}
use mathlib.Core.Path.{◌≡◌, refl, sym, ap, ap₂, ◌∙◌, subst}
use mathlib.Core.Logic.{inl, inr, ⊎_elim}
use mathlib.Core.Bool.{true}
use mathlib.Core.List.{List, [], ◌∷◌, ◌++◌, append_assoc}
use lib.ListN.{length, take, drop, replicate, take-append-drop, length-drop}
use lib.Seq.{take_at, drop_at, take-add, length-take-le}
use Rattle.model.specs.Bytes.{blank, padded, joined}
use Rattle.model.specs.Record.{Rec, well_formed}
use Rattle.model.specs.Log.{no_counts, records_in, records_of, sound_after, sound_log_on, sound_log, log_bytes}
use Rattle.byte_slice.proofs.Numbers.{cond_cases, and_true}
use Rattle.byte_slice.proofs.Compare.{blank-zeros, blank-eq, blank-take}
use Rattle.byte_slice.proofs.PutAt.{length-padded}
use Rattle.block_laws.proofs.Fields.{Sized, length-joined}
use Rattle.log_laws.specs.Members.{Has}
use Rattle.log_laws.specs.Sound.{SoundOn, Sound}
use Rattle.log_laws.proofs.Formed.{well_length, well_not_blank}
use Rattle.log_laws.proofs.Counts.{formed_on}
use Rattle.log_laws.proofs.Tests.{sound_means_on, means_sound_on}

-- ---- well-formed records

abbrev pub Proper : List Rec → Type 0
Proper l = (r : Rec) → Has r l → well_formed r ≡ true

pub sound_proper_on : (v : List ℕ) (l : List Rec) → SoundOn v l → Proper l
sound_proper_on v l h r i = formed_on v [] l r h i

pub sound_proper : (l : List Rec) → Sound l → Proper l
sound_proper l h = sound_proper_on no_counts l h

pub proper_sized : (l : List Rec) → Proper l → Sized l
proper_sized [] h = tt
proper_sized (r ∷ l) h = (well_length r (h r (inl refl)), proper_sized l (λ s i. h s (inr i)))

-- ---- from records to bytes and back

pub length-log_bytes : (l : List Rec) → Sized l → length l ≤ 512 → length (log_bytes l) ≡ 40960
unfolding log_bytes
length-log_bytes l z k = length-padded 40960 (joined l) (omega (arith, length-joined l z))

-- the records that stand in front of zeros
records_joined : (n m : ℕ) (l : List Rec) → Proper l → length l ≤ n → records_in n (joined l ++ replicate m 0) ≡ l
unfolding records_in joined
records_joined zero m [] h k = refl
records_joined zero m (r ∷ l) h k = absurd (omega arith)
records_joined (suc n) m [] h k = rw (blank-take 80 (replicate m 0) (blank-zeros m))
records_joined (suc n) m (r ∷ l) h k =
    let e = well_length r (h r (inl refl)) in
    let t : List ℕ = joined l ++ replicate m 0 in
    rw (
      append_assoc r (joined l) (replicate m 0),
      take_at r t 80 e,
      drop_at r t 80 e,
      well_not_blank r (h r (inl refl)),
      records_joined n m l (λ s i. h s (inr i)) (omega arith),
    )

pub records_back : (l : List Rec) → Proper l → length l ≤ 512 → records_of (log_bytes l) ≡ l
unfolding records_of log_bytes padded
records_back l h k = records_joined 512 (40960 - length (joined l)) l h k

-- ---- from bytes to records and back

pub few_records : (n : ℕ) (b : List ℕ) → length (records_in n b) ≤ n
unfolding records_in
few_records zero b = omega arith
few_records (suc n) b =
    ⊎_elim
    (λ e. omega (arith, ap (λ (l : List Rec). length l) e.1))
    (λ e. omega (arith, ap (λ (l : List Rec). length l) e.1, few_records n (drop 80 b)))
    (cond_cases (blank (take 80 b)) [] (take 80 b ∷ records_in n (drop 80 b)))

joined_records : (n : ℕ) (b : List ℕ) → joined (records_in n b) ≡ take (80 * length (records_in n b)) b
unfolding records_in joined
joined_records zero b = refl
joined_records (suc n) b =
    ⊎_elim
    (λ e. subst (λ (l : List Rec). joined l ≡ take (80 * length l) b) (sym e.1) refl)
    (λ e.
    let k : ℕ = length (records_in n (drop 80 b)) in
    let m : 80 * suc k ≡ 80 + 80 * k = omega arith in
    subst (λ (l : List Rec). joined l ≡ take (80 * length l) b) (sym e.1)
    (ap (λ (t : List ℕ). take 80 b ++ t) (joined_records n (drop 80 b)) ∙ sym (ap (λ (x : ℕ). take x b) m ∙ take-add 80 (80 * k) b)))
    (cond_cases (blank (take 80 b)) [] (take 80 b ∷ records_in n (drop 80 b)))

pub bytes_back : (b : List ℕ) → length b ≡ 40960 → blank (drop (80 * length (records_of b)) b) ≡ true → log_bytes (records_of b) ≡ b
unfolding records_of log_bytes padded
bytes_back b n e =
    let m : ℕ = 80 * length (records_in 512 b) in
    let f = joined_records 512 b in
    let k = few_records 512 b in
    let front : length (joined (records_in 512 b)) ≡ m = ap (λ (t : List ℕ). length t) f ∙ length-take-le m b (omega arith) in
    let left : length (drop m b) ≡ 40960 - length (joined (records_in 512 b)) = omega (arith, length-drop m b) in
    let rest : drop m b ≡ replicate (40960 - length (joined (records_in 512 b))) 0 = blank-eq (drop m b) e ∙ ap (λ (x : ℕ). replicate x 0) left in
    ap₂ (λ (x y : List ℕ). x ++ y) f (sym rest) ∙ take-append-drop m b

-- ---- soundness of the bytes

pub sound_records_on : (v b : List ℕ) → sound_log_on v b ≡ true → SoundOn v (records_of b)
unfolding sound_log_on
sound_records_on v b e = sound_means_on v (records_of b) (and_true (sound_after v [] (records_of b)) (blank (drop (80 * length (records_of b)) b)) e).0

pub sound_records : (b : List ℕ) → sound_log b ≡ true → Sound (records_of b)
unfolding sound_log
sound_records b e = sound_records_on no_counts b e

pub sound_bytes_on : (v b : List ℕ) → length b ≡ 40960 → sound_log_on v b ≡ true → log_bytes (records_of b) ≡ b
unfolding sound_log_on
sound_bytes_on v b n e = bytes_back b n (and_true (sound_after v [] (records_of b)) (blank (drop (80 * length (records_of b)) b)) e).1

pub sound_bytes : (b : List ℕ) → length b ≡ 40960 → sound_log b ≡ true → log_bytes (records_of b) ≡ b
unfolding sound_log
sound_bytes b n e = sound_bytes_on no_counts b n e

pub sound_few : (b : List ℕ) → length (records_of b) ≤ 512
unfolding records_of
sound_few b = few_records 512 b

rest_blank_lem : (l : List Rec) → Sized l → blank (drop (80 * length l) (log_bytes l)) ≡ true
unfolding log_bytes padded
rest_blank_lem l z = rw (drop_at (joined l) (replicate (40960 - length (joined l)) 0) (80 * length l) (length-joined l z)) (blank-zeros (40960 - length (joined l)))

pub log_sound_on : (v : List ℕ) (l : List Rec) → SoundOn v l → length l ≤ 512 → sound_log_on v (log_bytes l) ≡ true
unfolding sound_log_on
log_sound_on v l h k =
    let p = sound_proper_on v l h in
    rw (records_back l p k, means_sound_on v l h) (rest_blank_lem l (proper_sized l p))

pub log_sound : (l : List Rec) → Sound l → length l ≤ 512 → sound_log (log_bytes l) ≡ true
unfolding sound_log
log_sound l h k = log_sound_on no_counts l h k

-- the log without a record
pub empty_log : log_bytes [] ≡ replicate 40960 0
unfolding log_bytes padded joined
empty_log = refl
