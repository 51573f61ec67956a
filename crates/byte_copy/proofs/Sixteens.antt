-- Bytes read and written sixteen at a time.
-- Assumes nothing.
use Prim.Native.Nat.{ℕ, ◌+◌, ◌-◌, ◌≤◌, ◌<◌}
use native.Mathlib.Numerals.{add-one}
use native.Mathlib.Omega.{arith}
use mathlib.Core.Path.{◌≡◌, sym, ◌∙◌}
use mathlib.Core.List.{List, [], ◌∷◌, ◌++◌}
use lib.ListN.{get_or, length, take, drop, set, length-drop, take-append-drop}
use lib.Seq.{take_all, take-suc-set, take-add, length-take-le}
use Rattle.model.specs.Bytes.{part, put_at}
use Rattle.byte_slice.proofs.Parts.{part_snoc, part_length}
use Rattle.byte_slice.proofs.PutAt.{put_more, length-put, put-nil}

-- what the loop of `read_16` is asked, over plain values
module _ (s b : List ℕ) (at i : ℕ) (n : length b ≡ 16) (inv : take i b ≡ part s at i) where
  pub read_next : i < 16 → at + 16 ≤ length s → take (i + 1) (set b i (get_or s (at + i) 0)) ≡ part s at (i + 1)
  read_next h g = let e : take (i + 1) (set b i (get_or s (at + i) 0)) ≡ take i b ++ (get_or s (at + i) 0 ∷ []) = rw add-one (take-suc-set b i (get_or s (at + i) 0) (omega arith)) in
      e ∙ (rw inv (sym (part_snoc s at i (omega arith))))

  pub read_end : i ≤ 16 → 16 ≤ i → b ≡ part s at 16
  read_end h g = let e : i ≡ 16 = omega arith in sym (take_all 16 b (omega arith)) ∙ (rw e at inv)

-- what `put` is asked, over plain values
pub put-none : (d s : List ℕ) (at : ℕ) → d ≡ put_at d at (take 0 s)
put-none d s at = sym (put-nil d at)

module _ (d s m : List ℕ) (at j : ℕ) (room : at + length s ≤ length d) (within : j ≤ length s) (inv : m ≡ put_at d at (take j s)) where
  front : length (take j s) ≡ j
  front = length-take-le j s within

  put-length : length m ≡ length d
  put-length = rw inv (length-put d at (take j s) (omega (arith, front)))

  more : (x : List ℕ) → put_at m (at + j) x ≡ put_at d at (take j s ++ x)
  more x = let e : put_at (put_at d at (take j s)) (at + length (take j s)) x ≡ put_at d at (take j s ++ x) = put_more d at (take j s) x (omega (arith, front)) in
      rw (← inv, front) at e

  pub put_room : (x : List ℕ) → 16 ≤ length s - j → x ≡ part s j 16 → at + j + length x ≤ length m
  put_room x h q = let e : length x ≡ 16 = rw q (part_length s j 16 (omega arith)) in omega (arith, put-length)

  pub put_next : (x y : List ℕ) → x ≡ part s j 16 → y ≡ put_at m (at + j) x → y ≡ put_at d at (take (j + 16) s)
  unfolding part
  put_next x y q e = e ∙ (more x ∙ rw (q, ← take-add j 16 s))

  pub put_end : (y : List ℕ) → y ≡ put_at m (at + j) (take (length s - j) (drop j s)) → y ≡ put_at d at s
  put_end y e =
      let r : take (length s - j) (drop j s) ≡ drop j s = take_all (length s - j) (drop j s) (omega (arith, length-drop j s)) in
      (rw r at e) ∙ (more (drop j s) ∙ rw (take-append-drop j s))
