-- The row of an entry and of an aside, written field by field from a base, is the row of what the base has there.
-- Assumes nothing.
use Prim.Native.Nat.{ℕ, ◌<◌}
use native.Mathlib.Omega.{arith}
use mathlib.Core.Path.{◌≡◌, ◌∙◌}
use mathlib.Core.Logic.{⊎_elim}
use mathlib.Core.Bool.{cond}
use mathlib.Core.List.{List, [], ◌∷◌, ◌++◌}
use lib.Dec.{eqb}
use lib.ListN.{get_or, length, length-append}
use borrow.Author.Tests.{eq-eqb, ne_eqb}
use Rattle.model.specs.Bytes.{part}
use Rattle.model.specs.Record.{identity_at}
use Rattle.model.specs.Table.{identity_bytes, entry_row, aside_row, entry_in, aside_in}
use Rattle.byte_slice.proofs.Parts.{part_length, part_split}
use Rattle.byte_slice.proofs.PutAt.{put_more, put_whole}
use Rattle.base_load.specs.Loading.{Ranged, Noted, loaded_row, state_of, loaded_aside}

-- ---- the 72 bytes of an entry

module _ (s : List ℕ) (h : length s ≡ 72) where
  fields : part s 20 52 ≡ (entry_in s 0).date ++ ((entry_in s 0).label ++ (entry_in s 0).mark)
  unfolding entry_in
  fields = part_split s 20 4 48 ∙ rw (part_split s 24 32 16)

  pub loaded-row : (row : List ℕ) → length row ≡ 72 → loaded_row row s ≡ entry_row 0 (entry_in s 0)
  unfolding loaded_row entry_row entry_in identity_bytes
  loaded-row row k =
      let head : List ℕ = get_or s 0 0 ∷ 0 ∷ 0 ∷ 0 ∷ [] in
      let x1 : List ℕ = identity_bytes (identity_at s 4) in
      let x2 : List ℕ = identity_bytes (identity_at s 8) in
      let x3 : List ℕ = identity_bytes (identity_at s 12) in
      let x4 : List ℕ = identity_bytes (identity_at s 16) in
      let d : List ℕ = part s 20 4 in
      let t : List ℕ = part s 24 32 in
      let m : List ℕ = part s 56 16 in
      let z : List ℕ = d ++ (t ++ m) in
      let p1 = put_more row 0 head x1 (omega arith) in
      let p2 = put_more row 0 (head ++ x1) x2 (omega arith) in
      let p3 = put_more row 0 (head ++ (x1 ++ x2)) x3 (omega arith) in
      let p4 = put_more row 0 (head ++ (x1 ++ (x2 ++ x3))) x4 (omega arith) in
      let p5 = put_more row 0 (head ++ (x1 ++ (x2 ++ (x3 ++ x4)))) z (omega arith) in
      let w : List ℕ = head ++ (x1 ++ (x2 ++ (x3 ++ (x4 ++ z)))) in
      let n : length w ≡ length row =
      omega (
        arith,
        length-append d (t ++ m),
        length-append t m,
        part_length s 20 4 (omega arith),
        part_length s 24 32 (omega arith),
        part_length s 56 16 (omega arith),
      ) in
      rw (fields, p1, p2, p3, p4, p5) (put_whole row w n)

module _ (s : List ℕ) (r : Ranged (entry_in s 0)) where
  pub own_low : (k : ℕ) → k ≡ identity_at s 4 → k < 524288
  unfolding entry_in
  own_low k e = rw e r.own.high

  pub folder_low : (k : ℕ) → k ≡ identity_at s 8 → k < 524288
  unfolding entry_in
  folder_low k e = rw e r.folder

  pub contents_low : (k : ℕ) → k ≡ identity_at s 12 → k < 524288
  unfolding entry_in
  contents_low k e = rw e r.contents

  pub placing_low : (k : ℕ) → k ≡ identity_at s 16 → k < 524288
  unfolding entry_in
  placing_low k e = rw e r.placing

-- ---- the 12 bytes of an aside

module _ (s : List ℕ) (n : Noted (aside_in s 0)) where
  pub who_low : (k : ℕ) → k ≡ identity_at s 0 → k < 524288
  unfolding aside_in
  who_low k e = rw e n.own.high

  pub mark_low : (k : ℕ) → k ≡ identity_at s 8 → k < 524288
  unfolding aside_in
  mark_low k e = rw e (⊎_elim (λ z. omega arith) (λ z. z.high) n.mark)

pub is_open : (x : ℕ) → x ≡ 1 → 1 ≡ state_of x
unfolding state_of
is_open x h = rw (eq-eqb x 1 h)

pub is_settled : (x : ℕ) → (x ≡ 1 → ⊥) → 2 ≡ state_of x
unfolding state_of
is_settled x h = rw (ne_eqb x 1 h)

pub loaded-aside : (s row : List ℕ) → length row ≡ 12 → loaded_aside row s ≡ aside_row (aside_in s 0)
unfolding loaded_aside aside_row aside_in identity_bytes state_of
loaded-aside s row k =
    let x : List ℕ = identity_bytes (identity_at s 0) in
    let y : List ℕ = get_or s 4 0 ∷ cond (eqb (get_or s 5 0) 1) 1 2 ∷ 0 ∷ 0 ∷ [] in
    let z : List ℕ = identity_bytes (identity_at s 8) in
    let p1 = put_more row 0 x y (omega arith) in
    let p2 = put_more row 0 (x ++ y) z (omega arith) in
    rw (p1, p2) (put_whole row (x ++ (y ++ z)) (omega arith))
