-- What the loop that gathers the new records of the second file is asked, over plain values; and the higher counts.
-- Assumes nothing.
use Prim.Native.Nat.{ℕ, ◌+◌, ◌-◌, ◌*◌, ◌≤◌, ◌<◌, max}
use native.Mathlib.Omega.{arith}
use mathlib.Core.Path.{◌≡◌, sym, ap, ◌∙◌}
use mathlib.Core.Bool.{Bool, true, false, cond, not}
use mathlib.Core.List.{List, [], ◌∷◌, ◌++◌, append-nil}
use lib.Dec.{ltb}
use lib.ListN.{get_or, length, take, drop, length-append}
use borrow.Author.Tests.{not-true, not-false}
use Rattle.model.specs.Bytes.{joined, put_at}
use Rattle.model.specs.Record.{Rec, unit, num}
use Rattle.model.specs.Log.{lacking}
use Rattle.byte_slice.proofs.Parts.{lent_length}
use Rattle.byte_slice.proofs.PutAt.{put-nil, put_more}
use Rattle.block_laws.proofs.Fields.{joined-append}
use Rattle.log_check.specs.declared.Layout.TheVariants.{File}
use Rattle.log_check.specs.Places.{offset_of, laid_at, Laid}
use Rattle.log_check.specs.InOrder.{listed}
use Rattle.log_check.proofs.Lists.{listed_more}
use Rattle.hand_out_pick.proofs.Gathered.{lacking-append}
use Rattle.merge_check.proofs.Loops.{lent_is}
use Rattle.merge_join.specs.Highest.{highest}

-- ---- the higher counts

pub higher_is : (a b : List ℕ) {c d e f g h i j : ℕ} → c ≡ max (get_or a 0 0) (get_or b 0 0) → d ≡ max (get_or a 1 0) (get_or b 1 0)
    → e ≡ max (get_or a 2 0) (get_or b 2 0) → f ≡ max (get_or a 3 0) (get_or b 3 0) → g ≡ max (get_or a 4 0) (get_or b 4 0)
    → h ≡ max (get_or a 5 0) (get_or b 5 0) → i ≡ max (get_or a 6 0) (get_or b 6 0) → j ≡ max (get_or a 7 0) (get_or b 7 0)
    → c ∷ d ∷ e ∷ f ∷ g ∷ h ∷ i ∷ j ∷ [] ≡ highest a b
unfolding highest
higher_is a b p q r s t u v w = rw (p, q, r, s, t, u, v, w)

-- ---- gathering

lacking_one : (v : List ℕ) (r : Rec) (t : Bool) → t ≡ ltb (get_or v (unit r) 0) (num r) → lacking v (r ∷ []) ≡ cond t (r ∷ []) []
unfolding lacking
lacking_one v r t e = rw e

joined_one : (r : Rec) → joined (r ∷ []) ≡ r
unfolding joined
joined_one r = append-nil r

module _ (v g : List ℕ) (total i : ℕ) (h : i < total) (at : ℕ) (ea : at ≡ offset_of File i) (t : Bool)
    (d : t ≡ ltb (get_or v (unit (take (at + 80 - at) (drop at g))) 0) (num (take (at + 80 - at) (drop at g)))) where
  more : lacking v (listed (laid_at File g) 0 (i + 1)) ≡ lacking v (listed (laid_at File g) 0 i) ++ cond t (laid_at File g i ∷ []) []
  more =
      let z : 0 + i ≡ i = omega arith in
      rw (listed_more (laid_at File g) 0 i, z, lacking-append v (listed (laid_at File g) 0 i) (laid_at File g i ∷ []), lacking_one v (laid_at File g i) t (rw (lent_is g i at ea) at d))

  skipped : not t ≡ true → lacking v (listed (laid_at File g) 0 (i + 1)) ≡ lacking v (listed (laid_at File g) 0 i)
  skipped z = more ∙ rw (not-true t z, append-nil)

  added : not t ≡ false → lacking v (listed (laid_at File g) 0 (i + 1)) ≡ lacking v (listed (laid_at File g) 0 i) ++ (laid_at File g i ∷ [])
  added z = more ∙ rw (not-false t z)

  module _ (k : ℕ) where
    pub skips_count : not t ≡ true → k ≡ length (lacking v (listed (laid_at File g) 0 i)) → k ≡ length (lacking v (listed (laid_at File g) 0 (i + 1)))
    skips_count z c = rw (skipped z) c

    pub skips_long : not t ≡ true → length (joined (lacking v (listed (laid_at File g) 0 i))) ≡ 80 * k → length (joined (lacking v (listed (laid_at File g) 0 (i + 1)))) ≡ 80 * k
    skips_long z c = rw (skipped z) c

    pub skips_laid : (o b : List ℕ) → not t ≡ true → o ≡ put_at b 0 (joined (lacking v (listed (laid_at File g) 0 i))) → o ≡ put_at b 0 (joined (lacking v (listed (laid_at File g) 0 (i + 1))))
    skips_laid o b z c = rw (skipped z) c

    pub adds_count : not t ≡ false → k ≡ length (lacking v (listed (laid_at File g) 0 i)) → k + 1 ≡ length (lacking v (listed (laid_at File g) 0 (i + 1)))
    adds_count z c = omega (arith, ap (λ (l : List Rec). length l) (added z), length-append (lacking v (listed (laid_at File g) 0 i)) (laid_at File g i ∷ []))

    module _ (z : not t ≡ false) (l : Laid File g total) (c : length (joined (lacking v (listed (laid_at File g) 0 i))) ≡ 80 * k) where
      long : length (laid_at File g i) ≡ 80
      long = rw (← lent_is g i at ea) (lent_length g at 80 (rw ea (l.inside i h)))

      added_bytes : joined (lacking v (listed (laid_at File g) 0 (i + 1))) ≡ joined (lacking v (listed (laid_at File g) 0 i)) ++ laid_at File g i
      added_bytes = rw (added z) (joined-append (lacking v (listed (laid_at File g) 0 i)) (laid_at File g i ∷ []) ∙ rw (joined_one (laid_at File g i)))

      pub adds_long : length (joined (lacking v (listed (laid_at File g) 0 (i + 1)))) ≡ 80 * (k + 1)
      adds_long = rw added_bytes (omega (arith, length-append (joined (lacking v (listed (laid_at File g) 0 i))) (laid_at File g i), long))

      pub adds_laid : (o m b : List ℕ) → total ≤ 512 → k ≤ i → length b ≡ 44032 → m ≡ put_at b 0 (joined (lacking v (listed (laid_at File g) 0 i)))
          → o ≡ put_at m (80 * k) (take (at + 80 - at) (drop at g)) → o ≡ put_at b 0 (joined (lacking v (listed (laid_at File g) 0 (i + 1))))
      adds_laid o m b few w n q e =
          let j : List ℕ = joined (lacking v (listed (laid_at File g) 0 i)) in
          let y : 80 * k ≡ 0 + length j = omega arith in
          rw (e, q, lent_is g i at ea, y, added_bytes) (put_more b 0 j (laid_at File g i) (omega arith))

pub gathers_none : (v g o : List ℕ) → o ≡ put_at o 0 (joined (lacking v (listed (laid_at File g) 0 0)))
unfolding lacking listed joined
gathers_none v g o = sym (put-nil o 0)

module _ (v g : List ℕ) (total i k : ℕ) (h : i ≤ total) (m : total ≤ i) where
  pub gathered_count : k ≡ length (lacking v (listed (laid_at File g) 0 i)) → k ≡ length (lacking v (listed (laid_at File g) 0 total))
  gathered_count c = let e : i ≡ total = omega arith in rw e at c

  pub gathered_laid : (o b : List ℕ) → o ≡ put_at b 0 (joined (lacking v (listed (laid_at File g) 0 i))) → o ≡ put_at b 0 (joined (lacking v (listed (laid_at File g) 0 total)))
  gathered_laid o b c = let e : i ≡ total = omega arith in rw e at c
