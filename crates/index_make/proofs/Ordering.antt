-- What the loops that order rows are asked, over plain values.
-- Assumes nothing.
use Prim.Native.Nat.{ℕ, ◌+◌, ◌-◌, ◌*◌, ◌≤◌, ◌<◌}
use native.Mathlib.Omega.{arith}
use mathlib.Core.Path.{◌≡◌, refl, sym, ◌∙◌}
use mathlib.Core.Bool.{Bool}
use mathlib.Core.List.{List, ◌∷◌, append_assoc}
use lib.ListN.{get_or, length, take, drop, set}
use lib.Seq.{get_or-take, paste}
use Rattle.model.specs.Table.{entry_in}
use Rattle.byte_slice.proofs.Parts.{part_is, part_length}
use Rattle.byte_slice.proofs.PutAt.{put-before}
use Rattle.model.specs.Bytes.{part, put_at}
use Rattle.log_laws.proofs.Members.{all_at}
use Rattle.index_model.specs.Index.{index_places, folder_key, key_before, entry_before}
use Rattle.index_laws.specs.Copied.{entry_row_at, order_before, ordered_rows, Low}
use Rattle.index_laws.proofs.Fresh.{ordered_many, ordered-below}

-- ---- one row

label_lent : (b : List ℕ) (i : ℕ) → take (4 + 72 * i + 24 + 32 - (4 + 72 * i + 24)) (drop (4 + 72 * i + 24) b) ≡ (entry_row_at b i).label
unfolding entry_in
label_lent b i = part_is b (4 + 72 * i + 24) 32

pub row_key : (b : List ℕ) (i f : ℕ) (t : List ℕ) (r : Bool) (g k : ℕ) → k ≡ (entry_row_at b i).inside → g ≡ folder_key k
    → r ≡ key_before g (take (4 + 72 * i + 24 + 32 - (4 + 72 * i + 24)) (drop (4 + 72 * i + 24) b)) f t
    → r ≡ key_before (folder_key (entry_row_at b i).inside) (entry_row_at b i).label f t
row_key b i f t r g k p q e = e ∙ rw (q, p, label_lent b i)

pub order_key : (b o : List ℕ) (row mid x : ℕ) (t : Bool) (g k : ℕ) → k ≡ (entry_row_at b row).inside → g ≡ folder_key k → x ≡ get_or o mid 0
    → t ≡ key_before (folder_key (entry_row_at b x).inside) (entry_row_at b x).label g (take (4 + 72 * row + 24 + 32 - (4 + 72 * row + 24)) (drop (4 + 72 * row + 24) b))
    → t ≡ order_before b o row mid
unfolding order_before entry_before
order_key b o row mid x t g k p q y e = e ∙ rw (q, p, y, label_lent b row)

-- ---- a row put in

pasted : (d : List ℕ) (from to n : ℕ) → from + n ≤ length d → paste d to (drop from d) n ≡ put_at d to (part d from n)
unfolding put_at part
pasted d from to n h = rw (part_length d from n h, append_assoc)

pub inserted : (d l : List ℕ) (at k row : ℕ) → at ≤ k → k < length d → l ≡ paste d (at + 1) (drop at d) (k - at) → set l at row ≡ put_at d at (row ∷ part d at (k - at))
inserted d l at k row h g e =
    let m = part_length d at (k - at) (omega arith) in
    rw (e, pasted d at (at + 1) (k - at) (omega arith)) (put-before d at (part d at (k - at)) row (omega arith))

-- ---- all rows

pub order_none : (b o : List ℕ) (n : ℕ) → take 0 o ≡ ordered_rows b (n - 0) 0
unfolding ordered_rows
order_none b o n = refl

pub order_low : (b o : List ℕ) (n k : ℕ) → k ≤ n → n ≤ index_places → take k o ≡ ordered_rows b (n - k) k → Low o k
order_low b o n k h m e = record {
  low = λ i g.
      let r = ordered_rows b (n - k) k in
      let q : get_or o i 0 ≡ get_or r i 0 = sym (get_or-take k o i 0 g) ∙ rw e in
      rw q (all_at (λ (j : ℕ). j < index_places) r i 0 (omega (arith, ordered_many b (n - k) k)) (ordered-below b (n - k) k index_places (omega arith)));
}

pub order_all_low : (b o : List ℕ) (n : ℕ) → n ≤ index_places → take n o ≡ ordered_rows b 0 n → Low o n
order_all_low b o n m e = let z : n - n ≡ 0 = omega arith in order_low b o n n (omega arith) m (rw z e)
