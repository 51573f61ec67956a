-- What the changes of an index are asked, over plain values.
-- Assumes nothing.
use Prim.Native.Nat.{ℕ, ◌+◌, ◌-◌, ◌*◌, ◌≤◌, ◌<◌}
use native.Mathlib.Omega.{arith}
use mathlib.Core.Path.{◌≡◌, refl, sym, ap, ◌∙◌}
use mathlib.Core.Bool.{Bool, true, false, ◌&&◌}
use mathlib.Core.List.{List, ◌++◌, append_assoc}
use lib.Dec.{ltb, eqb}
use lib.ListN.{length, take, drop, replicate, length-append, length-replicate}
use borrow.Rule.Slice.PartMut.{put_mid}
use lib.Seq.{paste}
use borrow.Author.Tests.{lt-ltb, le-ltb, ltb-true}
use Rattle.byte_slice.proofs.Numbers.{and_true}
use Rattle.byte_slice.proofs.Parts.{lent_length, part_length}
use Rattle.byte_slice.proofs.PutAt.{mid_put, length-put, put_more, put_front}
use Rattle.model.specs.Bytes.{two, part, put_at}
use Rattle.model.specs.Replay.{same_label}
use Rattle.model.specs.Table.{identity_bytes}
use Rattle.index_model.specs.Index.{index_size, index_places, folder_key, row_before, rows_in, folder_at, label_at, row_is, halve, seek}
use Rattle.index_model.specs.Change.{row_bytes, put_row, put_in, take_row, take_out, move_in}

identity-long : (k : ℕ) → length (identity_bytes k) ≡ 4
unfolding identity_bytes
identity-long k = refl

pub row_written : (d x y z : List ℕ) (at f k : ℕ) (t : List ℕ) → at + 40 ≤ length d → length t ≡ 32
    → x ≡ put_at d at (identity_bytes f)
    → y ≡ put_at x (at + 4) t
    → z ≡ put_at y (at + 36) (identity_bytes k)
    → z ≡ put_at d at (row_bytes f t k)
unfolding row_bytes
row_written d x y z at f k t h lt q r s =
    let F = identity_bytes f in
    let K = identity_bytes k in
    let lF = identity-long f in
    let lFt : length (F ++ t) ≡ 36 = omega (arith, length-append F t) in
    let y1 : put_at (put_at d at F) (at + 4) t ≡ put_at d at (F ++ t) = rw lF at (put_more d at F t (omega arith)) in
    let z1 : put_at (put_at d at (F ++ t)) (at + 36) K ≡ put_at d at (F ++ (t ++ K)) =
    (rw lFt at (put_more d at (F ++ t) K (omega arith))) ∙ ap (put_at d at) (append_assoc F t K) in
    s ∙ rw (r, q, y1, z1)

pub row_bytes_long : (f k : ℕ) (t : List ℕ) → length t ≡ 32 → length (row_bytes f t k) ≡ 40
unfolding row_bytes
row_bytes_long f k t h =
    omega (arith, length-append (identity_bytes f) (t ++ identity_bytes k), length-append t (identity_bytes k), identity-long f, identity-long k)

pub row_put : (d a z w : List ℕ) (n i f k : ℕ) (t : List ℕ) → length d ≡ index_size → n < index_places → i ≤ n → length t ≡ 32
    → a ≡ put_at d (4 + 40 * i + 40) (part d (4 + 40 * i) (4 + 40 * n - (4 + 40 * i)))
    → z ≡ put_at a (4 + 40 * i) (row_bytes f t k)
    → w ≡ put_at z 0 (two (n + 1))
    → w ≡ put_row d n i (row_bytes f t k)
unfolding put_row
row_put d a z w n i f k t ld h g lt p q u =
    let at : ℕ = 4 + 40 * i in
    let R = row_bytes f t k in
    let m : 4 + 40 * n - (4 + 40 * i) ≡ 40 * (n - i) = omega arith in
    let B = part d at (40 * (n - i)) in
    let lB : length B ≡ 40 * (n - i) = part_length d at (40 * (n - i)) (omega arith) in
    let lR = row_bytes_long f k t lt in
    let a1 : a ≡ put_at d (at + 40) B = p ∙ rw m in
    let v : put_at (put_at d (at + 40) B) at R ≡ put_at d at (R ++ B) = rw lR at (put_front d at R B (omega arith)) in
    u ∙ ap (λ (l : List ℕ). put_at l 0 (two (n + 1))) (q ∙ rw (a1, v))

-- bytes copied within
pasted : (d : List ℕ) (from to n : ℕ) → from + n ≤ length d → paste d to (drop from d) n ≡ put_at d to (part d from n)
unfolding put_at part
pasted d from to n h = rw (part_length d from n h, append_assoc)

pub row_taken_lem : (d a y w : List ℕ) (n i : ℕ) → length d ≡ index_size → n ≤ index_places → i < n
    → a ≡ paste d (4 + 40 * i) (drop (4 + 40 * i + 40) d) (4 + 40 * (n - 1) + 40 - (4 + 40 * i + 40))
    → y ≡ replicate (length (take (4 + 40 * (n - 1) + 40 - (4 + 40 * (n - 1))) (drop (4 + 40 * (n - 1)) a))) 0
    → w ≡ put_at (put_mid (4 + 40 * (n - 1)) (4 + 40 * (n - 1) + 40 - (4 + 40 * (n - 1))) a y) 0 (two (n - 1))
    → w ≡ take_row d n i
unfolding take_row
row_taken_lem d a y w n i ld h g p q r =
    let at : ℕ = 4 + 40 * i in
    let last : ℕ = 4 + 40 * (n - 1) in
    let C = part d (at + 40) (40 * (n - i - 1)) in
    let lC : length C ≡ 40 * (n - i - 1) = part_length d (at + 40) (40 * (n - i - 1)) (omega arith) in
    let m : 4 + 40 * (n - 1) + 40 - (at + 40) ≡ 40 * (n - i - 1) = omega arith in
    let a1 : a ≡ put_at d at C = p ∙ rw m (pasted d (at + 40) at (40 * (n - i - 1)) (omega arith)) in
    let la : length a ≡ length d = ap length a1 ∙ length-put d at C (omega arith) in
    let y1 : y ≡ replicate 40 0 = q ∙ ap (λ (k : ℕ). replicate k 0) (lent_length a last 40 (omega arith)) in
    let x1 : put_mid last (last + 40 - last) a y ≡ put_at a last y = mid_put last 40 a y (ap length y1 ∙ length-replicate {A = ℕ} 40 0) in
    let z : last ≡ at + 40 * (n - i - 1) = omega arith in
    let v : put_at (put_at d at C) (at + 40 * (n - i - 1)) (replicate 40 0) ≡ put_at d at (C ++ replicate 40 0) = rw lC at (put_more d at C (replicate 40 0) (omega arith)) in
    r ∙ ap (λ (l : List ℕ). put_at l 0 (two (n - 1))) (x1 ∙ rw (y1, z, a1, v))

pub taken_low : (b : List ℕ) (f : ℕ) (t : List ℕ) (n i : ℕ) (r : Bool) → n ≡ rows_in b → r ≡ row_is b f t i → r ≡ true → i < n
unfolding row_is
taken_low b f t n i r p e z =
    let (u, v) = and_true (ltb i (rows_in b)) (eqb (folder_at b i) f && same_label (label_at b i) t) (sym e ∙ z) in
    omega (arith, ltb-true i (rows_in b) u)

module _ (b : List ℕ) (f : ℕ) (t : List ℕ) {n : ℕ} (p : n ≡ rows_in b) where
  pub put_full : (k : ℕ) → index_places ≤ n → b ≡ put_in b f t k
  unfolding put_in
  put_full k h = rw (← p, le-ltb n index_places h)

  module _ {g i : ℕ} (q : g ≡ folder_key f) (s : i ≡ halve (row_before b g t) 11 0 n) where
    sought : i ≡ seek b (folder_key f) t
    unfolding seek
    sought = s ∙ rw (p, q)

    pub put-done : (k : ℕ) (w : List ℕ) → n < index_places → w ≡ put_row b n i (row_bytes f t k) → w ≡ put_in b f t k
    unfolding put_in
    put-done k w h e = e ∙ rw (← p, lt-ltb n index_places h, ← sought)

    module _ {r : Bool} (e : r ≡ row_is b f t i) where
      pub take_done : r ≡ true → (w : List ℕ) → w ≡ take_row b n i → w ≡ take_out b f t
      unfolding take_out
      take_done z w y =
          let c : row_is b f t (seek b (folder_key f) t) ≡ true = rw (← sought) (sym e ∙ z) in
          y ∙ rw (c, ← sought, ← p)

      pub take_none : r ≡ false → b ≡ take_out b f t
      unfolding take_out
      take_none z =
          let c : row_is b f t (seek b (folder_key f) t) ≡ false = rw (← sought) (sym e ∙ z) in
          rw c

pub moved_in_lem : (b x y : List ℕ) (f : ℕ) (t : List ℕ) (g : ℕ) (s : List ℕ) (k : ℕ) → x ≡ take_out b f t → y ≡ put_in x g s k → y ≡ move_in b f t g s k
unfolding move_in
moved_in_lem b x y f t g s k p q = q ∙ rw p
