-- The records that a vector lacks, the first six or fewer or all, gathered in one pass over a log that is sound behind a base vector.
-- Assumes nothing.
use Prim.Native.Nat.{ℕ, zero, suc, ◌+◌, ◌-◌, ◌*◌, ◌≤◌, ◌<◌}
use native.Mathlib.Numerals.{add-one}
use native.Mathlib.Omega.{arith}
use mathlib.Core.Path.{◌≡◌, refl, sym, ap, ◌∙◌, subst}
use mathlib.Core.Logic.{inl, inr}
use mathlib.Core.Bool.{Bool, true, false, cond, not}
use mathlib.Core.List.{List, [], ◌∷◌, ◌++◌, append-nil}
use lib.Dec.{ltb}
use lib.ListN.{get_or, length, take, drop, replicate, take-append-drop, length-append, length-replicate}
use lib.Seq.{take-suc, take_all, take_at}
use borrow.Author.Tests.{not-true, not-false}
use Rattle.model.specs.Bytes.{part, padded, joined, put_at}
use Rattle.model.specs.Record.{Rec, unit, num}
use Rattle.model.specs.Log.{records_of, sound_log_on, log_bytes, lacking}
use Rattle.byte_slice.proofs.Parts.{part_is}
use Rattle.byte_slice.proofs.PutAt.{put-padded, padded-nil}
use Rattle.block_laws.proofs.Fields.{Sized, length-joined, joined_at, joined-append}
use Rattle.log_laws.specs.Members.{Has}
use Rattle.log_laws.proofs.Counts.{unit_of_on}
use Rattle.encoding_laws.proofs.Logs.{sound_proper_on, proper_sized, sound_records_on, sound_bytes_on, sound_few}
use Rattle.encoding_laws.proofs.Files.{sized_take}

-- ---- lacking, over lists laid end to end

pub lacking-append : (v : List ℕ) (a b : List Rec) → lacking v (a ++ b) ≡ lacking v a ++ lacking v b
unfolding lacking
lacking-append v [] b = refl
lacking-append v (r ∷ a) b = go (ltb (get_or v (unit r) 0) (num r)) (lacking-append v a b)
  where
    go : (t : Bool) → lacking v (a ++ b) ≡ lacking v a ++ lacking v b
        → cond t (r ∷ lacking v (a ++ b)) (lacking v (a ++ b)) ≡ cond t (r ∷ lacking v a) (lacking v a) ++ lacking v b
    go true e = ap (λ (l : List Rec). r ∷ l) e
    go false e = e

-- ---- what has been gathered

-- what a vector lacks of the first i records of a log
unfoldable pub gathered : List ℕ → List ℕ → ℕ → List Rec
gathered v b i = lacking v (take i (records_of b))

pub sized_lacking : (v : List ℕ) (l : List Rec) → Sized l → Sized (lacking v l)
unfolding lacking
sized_lacking v [] z = tt
sized_lacking v (r ∷ l) z = go (ltb (get_or v (unit r) 0) (num r)) (sized_lacking v l z.1)
  where
    go : (t : Bool) → Sized (lacking v l) → Sized (cond t (r ∷ lacking v l) (lacking v l))
    go true y = (z.0, y)
    go false y = y

has_at : (l : List Rec) (i : ℕ) → i < length l → Has (get_or l i []) l
has_at [] i h = absurd (omega arith)
has_at (r ∷ l) zero h = inl refl
has_at (r ∷ l) (suc i) h = inr (has_at l i (omega arith))

joined_one : (r : Rec) → joined (r ∷ []) ≡ r
unfolding joined
joined_one r = append-nil r

lacking_one : (v : List ℕ) (r : Rec) (t : Bool) → t ≡ ltb (get_or v (unit r) 0) (num r) → lacking v (r ∷ []) ≡ cond t (r ∷ []) []
unfolding lacking
lacking_one v r t e = rw e

module _ (base v b : List ℕ) (long : length b ≡ 40960) (sound : sound_log_on base b ≡ true) where
  sized : Sized (records_of b)
  sized = proper_sized (records_of b) (sound_proper_on base (records_of b) (sound_records_on base b sound))

  -- the record at a place
  pub record_at_lem : (i : ℕ) → i < length (records_of b) → part b (80 * i) 80 ≡ get_or (records_of b) i []
  unfolding log_bytes padded
  record_at_lem i h =
      let t : List ℕ = replicate (40960 - length (joined (records_of b))) 0 in
      subst (λ (x : List ℕ). part x (80 * i) 80 ≡ get_or (records_of b) i []) (sound_bytes_on base b long sound) (joined_at (records_of b) i t sized h)

  pub unit-below : (i : ℕ) → i < length (records_of b) → unit (part b (80 * i) 80) < 8
  unit-below i h = rw (record_at_lem i h) (unit_of_on base [] (records_of b) (get_or (records_of b) i []) (sound_records_on base b sound) (has_at (records_of b) i h))

  length_gathered : (i : ℕ) → length (joined (gathered v b i)) ≡ 80 * length (gathered v b i)
  unfolding gathered
  length_gathered i = length-joined (lacking v (take i (records_of b))) (sized_lacking v (take i (records_of b)) (sized_take i (records_of b) sized))

  -- one record more
  gathered_next : (i : ℕ) (t : Bool) → i < length (records_of b) → t ≡ ltb (get_or v (unit (part b (80 * i) 80)) 0) (num (part b (80 * i) 80))
      → gathered v b (i + 1) ≡ gathered v b i ++ cond t (part b (80 * i) 80 ∷ []) []
  unfolding gathered
  gathered_next i t h e =
      let r = part b (80 * i) 80 in
      rw (add-one i, take-suc (records_of b) i [] h, ← record_at_lem i h, lacking-append v (take i (records_of b)) (r ∷ []), lacking_one v r t e)

  -- gathering ends when as many are there as are asked for, or all records were looked at
  gathered_full : (most i : ℕ) → length (gathered v b i) ≡ most → take most (lacking v (records_of b)) ≡ gathered v b i
  unfolding gathered
  gathered_full most i e =
      let f : lacking v (records_of b) ≡ lacking v (take i (records_of b)) ++ lacking v (drop i (records_of b)) =
      ap (lacking v) (sym (take-append-drop i (records_of b))) ∙ lacking-append v (take i (records_of b)) (drop i (records_of b)) in
      rw f (take_at (lacking v (take i (records_of b))) (lacking v (drop i (records_of b))) most e)

  gathered_all : (most i : ℕ) → i ≡ length (records_of b) → length (gathered v b i) ≤ most → take most (lacking v (records_of b)) ≡ gathered v b i
  unfolding gathered
  gathered_all most i e h =
      let f : take i (records_of b) ≡ records_of b = take_all i (records_of b) (omega arith) in
      rw f (take_all most (lacking v (records_of b)) (rw f at h))

  -- what `gather_most` is asked, over plain values; the part is as the code lends it
  module _ (i used n : ℕ) (whole : used ≡ length (records_of b)) (counted : n ≡ length (gathered v b i)) where
    pub unit_lent : i < used → unit (take (80 * i + 80 - 80 * i) (drop (80 * i) b)) < 8
    unit_lent h = rw (part_is b (80 * i) 80) (unit-below i (omega arith))

    module _ (t : Bool) (at : i < used) (judged : t ≡ ltb (get_or v (unit (take (80 * i + 80 - 80 * i) (drop (80 * i) b))) 0) (num (take (80 * i + 80 - 80 * i) (drop (80 * i) b)))) where
      next : gathered v b (i + 1) ≡ gathered v b i ++ cond t (part b (80 * i) 80 ∷ []) []
      next = gathered_next i t (omega arith) (rw (part_is b (80 * i) 80) at judged)

      skipped : not t ≡ true → gathered v b (i + 1) ≡ gathered v b i
      skipped e = next ∙ rw (not-true t e, append-nil)

      added : not t ≡ false → gathered v b (i + 1) ≡ gathered v b i ++ (part b (80 * i) 80 ∷ [])
      added e = next ∙ rw (not-false t e)

      pub skips_count : not t ≡ true → n ≡ length (gathered v b (i + 1))
      skips_count e = rw (skipped e) counted

      pub skips_laid : (z : ℕ) {d : List ℕ} → not t ≡ true → d ≡ padded z (joined (gathered v b i)) → d ≡ padded z (joined (gathered v b (i + 1)))
      skips_laid z e f = rw (skipped e) f

      pub adds_count : not t ≡ false → n + 1 ≡ length (gathered v b (i + 1))
      adds_count e = omega (arith, ap (λ (l : List Rec). length l) (added e), length-append (gathered v b i) (part b (80 * i) 80 ∷ []))

      pub adds_laid : (z : ℕ) {d o : List ℕ} {to : ℕ} → not t ≡ false → to ≡ 80 * n → d ≡ padded z (joined (gathered v b i)) → o ≡ put_at d to (take (80 * i + 80 - 80 * i) (drop (80 * i) b))
          → o ≡ padded z (joined (gathered v b (i + 1)))
      adds_laid z {d} {o} {to} e k f g =
          let r = part b (80 * i) 80 in
          let m : to ≡ length (joined (gathered v b i)) = omega (arith, length_gathered i) in
          let w : joined (gathered v b (i + 1)) ≡ joined (gathered v b i) ++ r = rw (added e) (joined-append (gathered v b i) (r ∷ []) ∙ rw (joined_one r)) in
          g ∙ rw (part_is b (80 * i) 80, f, m, w) (put-padded z (joined (gathered v b i)) r)

    module _ (most : ℕ) where
      pub full_count : n ≡ most → most ≡ length (take most (lacking v (records_of b)))
      full_count e = let m : length (gathered v b i) ≡ most = omega arith in rw (gathered_full most i m) (sym m)

      pub full_laid : (z : ℕ) {d : List ℕ} → n ≡ most → d ≡ padded z (joined (gathered v b i)) → d ≡ padded z (joined (take most (lacking v (records_of b))))
      full_laid z e f = let m : length (gathered v b i) ≡ most = omega arith in rw (gathered_full most i m) f

      pub ends_count : n ≤ most → i ≤ used → used ≤ i → n ≡ length (take most (lacking v (records_of b)))
      ends_count h k j = let m : length (gathered v b i) ≤ most = omega arith in rw (gathered_all most i (omega arith) m) counted

      pub ends_laid : (z : ℕ) {d : List ℕ} → n ≤ most → i ≤ used → used ≤ i → d ≡ padded z (joined (gathered v b i)) → d ≡ padded z (joined (take most (lacking v (records_of b))))
      ends_laid z h k j f = let m : length (gathered v b i) ≤ most = omega arith in rw (gathered_all most i (omega arith) m) f

-- ---- all that a vector lacks of a log, which has 512 records at most

lacking-few : (v : List ℕ) (l : List Rec) → length (lacking v l) ≤ length l
unfolding lacking
lacking-few v [] = omega arith
lacking-few v (r ∷ l) = go (ltb (get_or v (unit r) 0) (num r)) (lacking-few v l)
  where
    go : (t : Bool) → length (lacking v l) ≤ length l → length (cond t (r ∷ lacking v l) (lacking v l)) ≤ suc (length l)
    go true h = omega arith
    go false h = omega arith

all_taken : (v b : List ℕ) → take 512 (lacking v (records_of b)) ≡ lacking v (records_of b)
all_taken v b = take_all 512 (lacking v (records_of b)) (omega (arith, lacking-few v (records_of b), sound_few b))

pub whole-count : (v b : List ℕ) {n : ℕ} → n ≡ length (take 512 (lacking v (records_of b))) → n ≡ length (lacking v (records_of b))
whole-count v b e = rw (all_taken v b) at e

pub whole_laid : (v b : List ℕ) (z : ℕ) {d : List ℕ} → d ≡ padded z (joined (take 512 (lacking v (records_of b)))) → d ≡ padded z (joined (lacking v (records_of b)))
whole_laid v b z e = rw (all_taken v b) at e

pub starts_long : (z : ℕ) {d : List ℕ} → d ≡ replicate z 0 → length d ≡ z
starts_long z e = ap (λ (l : List ℕ). length l) e ∙ length-replicate {A = ℕ} z 0

pub starts_few : (b : List ℕ) (used : ℕ) → used ≡ length (records_of b) → used ≤ 512
starts_few b used e = omega (arith, sound_few b)

pub starts_laid : (v b : List ℕ) (z : ℕ) {d : List ℕ} → d ≡ replicate z 0 → d ≡ padded z (joined (gathered v b 0))
unfolding gathered lacking joined
starts_laid v b z e = e ∙ sym (padded-nil z)
