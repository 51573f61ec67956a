-- An entry put into the bytes of an index, or taken out of them, leaves the bytes of the index with or without it.
-- Assumes nothing.
use Prim.Native.Nat.{ℕ, zero, suc, ◌+◌, ◌-◌, ◌*◌, ◌≤◌, ◌<◌}
use native.Mathlib.Nat.{add-zero, zero-add}
use native.Mathlib.Omega.{arith}
use mathlib.Core.Path.{◌≡◌, refl, sym, ap, ◌∙◌}
use mathlib.Core.Logic.{◌⊎◌, inl, inr, ⊎_elim}
use mathlib.Core.Bool.{Bool, true, false, cond}
use mathlib.Core.List.{List, [], ◌∷◌, ◌++◌, append_assoc}
use lib.Dec.{ltb}
use lib.ListN.{get_or, length, take, drop, replicate, length-append, length-take, length-drop, length-replicate, take-append-drop, replicate-append-replicate}
use lib.Seq.{drop-cons, drop-append-add, drop-append_seam}
use borrow.Author.Tests.{lt-ltb}
use Rattle.byte_slice.proofs.Numbers.{bool_cases}
use Rattle.byte_slice.proofs.Parts.{part-behind, part_middle, drop-replicate}
use Rattle.byte_slice.proofs.PutAt.{put_in_front, put_in_back}
use Rattle.model.specs.Bytes.{two, part, put_at, padded}
use Rattle.model.specs.Replay.{Entry}
use Rattle.log_laws.proofs.Members.{All, all_drop}
use Rattle.index_model.specs.Index.{index_places, folder_key, key_before, entry_before, placed, index_row, index_rows, index_bytes, rows_in, row_before, seek}
use Rattle.index_model.specs.Change.{row_bytes, put_row, put_in, take_row}
use Rattle.index_laws.proofs.Sorted.{Sorted, Sought}
use Rattle.index_laws.proofs.Reading.{Long, row-long, rows_long, rows_counted, before_back, seek_finds}
use Rattle.index_laws.proofs.Unique.{without}

-- ---- rows

rows_append : (a b : List Entry) → index_rows (a ++ b) ≡ index_rows a ++ index_rows b
unfolding index_rows
rows_append [] b = refl
rows_append (e ∷ a) b = rw (rows_append a b, append_assoc (index_row e) (index_rows a) (index_rows b))

all_take : (n : ℕ) (l : List Entry) → All Long l → All Long (take n l)
all_take zero l a = tt
all_take (suc n) [] a = tt
all_take (suc n) (e ∷ l) a = (a.0, all_take n l a.1)

without_is : (i : ℕ) (l : List Entry) → without i l ≡ take i l ++ drop (suc i) l
unfolding without
without_is zero [] = refl
without_is (suc i) [] = refl
without_is zero (e ∷ l) = refl
without_is (suc i) (e ∷ l) = ap (λ (x : List Entry). e ∷ x) (without_is i l)

placed_at : (e : Entry) (l : List Entry) (r : ℕ) (d : Entry) → r ≤ length l
    → ((j : ℕ) → j < r → entry_before (get_or l j d) e ≡ true)
    → (r < length l → entry_before (get_or l r d) e ≡ false)
    → placed e l ≡ take r l ++ (e ∷ drop r l)
unfolding placed
placed_at e [] zero d h p q = refl
placed_at e [] (suc r) d h p q = absurd (omega arith)
placed_at e (x ∷ l) zero d h p q = rw (q (omega arith))
placed_at e (x ∷ l) (suc r) d h p q =
    rw (p 0 (omega arith)) (ap (λ (y : List Entry). x ∷ y) (placed_at e l r d (omega arith) (λ k z. p (suc k) (omega arith)) (λ z. q (omega arith))))

-- ---- writing behind a front

head : ℕ → List ℕ
head n = two n ++ (0 ∷ 0 ∷ [])

count_in_lem : (n m : ℕ) → put_at (head n) 0 (two m) ≡ head m
unfolding put_at head
count_in_lem n m = refl

put_here : (x y : List ℕ) → put_at x 0 y ≡ y ++ drop (length y) x
unfolding put_at
put_here x y = rw (zero-add (length y))

put-behind : (n : ℕ) (q : List ℕ) (i : ℕ) (s : List ℕ) → put_at (head n ++ q) (4 + i) s ≡ head n ++ put_at q i s
unfolding head
put-behind n q i s = put_in_back (head n) q i s

part_rows : (n : ℕ) (q : List ℕ) (i k : ℕ) → part (head n ++ q) (4 + i) k ≡ part q i k
unfolding head
part_rows n q i k = part-behind (head n) q i k

count_fits_lem : (n m : ℕ) → 0 + length (two m) ≤ length (head n)
unfolding head
count_fits_lem n m = omega arith

-- rows from the front a on are written anew, and the count
rows_written : (n m : ℕ) (a x y : List ℕ) (k : ℕ) → k ≡ length a → put_at (put_at (head n ++ (a ++ x)) (4 + k) y) 0 (two m) ≡ head m ++ (a ++ (y ++ drop (length y) x))
rows_written n m a x y k e =
    let p : put_at (head n ++ (a ++ x)) (4 + length a) y ≡ head n ++ (a ++ (y ++ drop (length y) x)) =
    put-behind n (a ++ x) (length a) y ∙ ap (λ (l : List ℕ). head n ++ l) ((rw (add-zero (length a)) at (put_in_back a x 0 y)) ∙ ap (λ (l : List ℕ). a ++ l) (put_here x y)) in
    rw (e, p) (put_in_front (head n) (a ++ (y ++ drop (length y) x)) 0 (two m) (count_fits_lem n m) ∙ ap (λ (l : List ℕ). l ++ (a ++ (y ++ drop (length y) x))) (count_in_lem n m))

-- ---- an index cut at a row

module _ (l : List Entry) (long : All Long l) where
  Z : List ℕ
  Z = replicate (40960 - length (index_rows l)) 0

  bytes_cut : (i : ℕ) → index_bytes l ≡ head (length l) ++ (index_rows (take i l) ++ (index_rows (drop i l) ++ Z))
  unfolding index_bytes padded head Z
  bytes_cut i =
      let e : index_rows l ≡ index_rows (take i l) ++ index_rows (drop i l) = ap index_rows (sym (take-append-drop i l)) ∙ rows_append (take i l) (drop i l) in
      let z : List ℕ = replicate (40960 - length (index_rows l)) 0 in
      ap (λ (x : List ℕ). two (length l) ++ (0 ∷ 0 ∷ x)) (ap (λ (x : List ℕ). x ++ z) e ∙ append_assoc (index_rows (take i l)) (index_rows (drop i l)) z)

  front_long : (i : ℕ) → i ≤ length l → length (index_rows (take i l)) ≡ 40 * i
  front_long i h = omega (arith, rows_long (take i l) (all_take i l long), length-take i l)

  back_long : (i : ℕ) → length (index_rows (drop i l)) ≡ 40 * (length l - i)
  back_long i = omega (arith, rows_long (drop i l) (all_drop Long i l long), length-drop i l)

  part_back : (i : ℕ) → i ≤ length l → part (index_bytes l) (4 + 40 * i) (40 * (length l - i)) ≡ index_rows (drop i l)
  part_back i h =
      rw (bytes_cut i, part_rows (length l) (index_rows (take i l) ++ (index_rows (drop i l) ++ Z)) (40 * i) (40 * (length l - i)))
      (rw (front_long i h, back_long i) at (part_middle (index_rows (take i l)) (index_rows (drop i l)) Z))

  more_bytes : (i : ℕ) (e : Entry) → i ≤ length l → Long e → length (take i l ++ (e ∷ drop i l)) ≡ length l + 1
      → head (length l + 1) ++ (index_rows (take i l) ++ ((index_row e ++ index_rows (drop i l)) ++ drop 40 Z)) ≡ index_bytes (take i l ++ (e ∷ drop i l))
  unfolding index_bytes padded head Z index_rows
  more_bytes i e h n m =
      let A = index_rows (take i l) in
      let B = index_rows (drop i l) in
      let R = index_row e in
      let M = A ++ (R ++ B) in
      let k : length M ≡ length (index_rows l) + 40 =
      omega (arith, length-append A (R ++ B), length-append R B, front_long i h, back_long i, row-long e n, rows_long l long) in
      let w : 40960 - length (index_rows l) - 40 ≡ 40960 - length M = omega arith in
      let q : index_rows (take i l ++ (e ∷ drop i l)) ≡ M = rows_append (take i l) (e ∷ drop i l) in
      let z : drop 40 Z ≡ replicate (40960 - length M) 0 = drop-replicate 40 (40960 - length (index_rows l)) 0 ∙ ap (λ (x : ℕ). replicate x 0) w in
      let u : A ++ ((R ++ B) ++ drop 40 Z) ≡ M ++ replicate (40960 - length M) 0 = rw (z, append_assoc A (R ++ B) (replicate (40960 - length M) 0)) in
      let v : two (length l + 1) ++ (0 ∷ 0 ∷ (M ++ replicate (40960 - length M) 0)) ≡ index_bytes (take i l ++ (e ∷ drop i l)) = rw (m, q) in
      ap (λ (x : List ℕ). two (length l + 1) ++ (0 ∷ 0 ∷ x)) u ∙ v

  -- a row put in at row i
  pub row_more : (i : ℕ) (e : Entry) → i ≤ length l → Long e → put_row (index_bytes l) (length l) i (index_row e) ≡ index_bytes (take i l ++ (e ∷ drop i l))
  unfolding put_row
  row_more i e h n =
      let A = index_rows (take i l) in
      let B = index_rows (drop i l) in
      let R = index_row e in
      let la = front_long i h in
      let lb = back_long i in
      let lr = row-long e n in
      let ly : length (R ++ B) ≡ length B + 40 = omega (arith, length-append R B) in
      let d : drop (length (R ++ B)) (B ++ Z) ≡ drop 40 Z = rw ly (drop-append-add B Z 40) in
      let m : length (take i l ++ (e ∷ drop i l)) ≡ length l + 1 = omega (arith, length-append (take i l) (e ∷ drop i l), length-take i l, length-drop i l) in
      rw (part_back i h, bytes_cut i, rows_written (length l) (length l + 1) A (B ++ Z) (R ++ B) (40 * i) (sym la), d)
      (more_bytes i e h n m)

  less_bytes : (i : ℕ) → i < length l → length l ≤ index_places → length (take i l ++ drop (suc i) l) ≡ length l - 1
      → head (length l - 1) ++ (index_rows (take i l) ++ ((index_rows (drop (suc i) l) ++ replicate 40 0) ++ Z)) ≡ index_bytes (take i l ++ drop (suc i) l)
  unfolding index_bytes padded head Z
  less_bytes i h few m =
      let A = index_rows (take i l) in
      let C = index_rows (drop (suc i) l) in
      let M = A ++ C in
      let k : length M + 40 ≡ length (index_rows l) = omega (arith, length-append A C, front_long i (omega arith), back_long (suc i), rows_long l long) in
      let w : 40 + (40960 - length (index_rows l)) ≡ 40960 - length M = omega (arith, rows_long l long) in
      let q : index_rows (take i l ++ drop (suc i) l) ≡ M = rows_append (take i l) (drop (suc i) l) in
      let z : replicate 40 0 ++ Z ≡ replicate (40960 - length M) 0 = replicate-append-replicate {A = ℕ} 40 (40960 - length (index_rows l)) 0 ∙ ap (λ (x : ℕ). replicate x 0) w in
      let u : A ++ ((C ++ replicate 40 0) ++ Z) ≡ M ++ replicate (40960 - length M) 0 = rw (append_assoc C (replicate 40 0) Z, z, append_assoc A C (replicate (40960 - length M) 0)) in
      let v : two (length l - 1) ++ (0 ∷ 0 ∷ (M ++ replicate (40960 - length M) 0)) ≡ index_bytes (take i l ++ drop (suc i) l) = rw (m, q) in
      ap (λ (x : List ℕ). two (length l - 1) ++ (0 ∷ 0 ∷ x)) u ∙ v

  rows_from : (i : ℕ) (d : Entry) → i < length l → index_rows (drop i l) ≡ index_row (get_or l i d) ++ index_rows (drop (suc i) l)
  unfolding index_rows
  rows_from i d h = ap index_rows (drop-cons l i d h)

  -- row i taken out
  pub row_less : (i : ℕ) (d : Entry) → i < length l → length l ≤ index_places → take_row (index_bytes l) (length l) i ≡ index_bytes (without i l)
  unfolding take_row
  row_less i d h few =
      let A = index_rows (take i l) in
      let C = index_rows (drop (suc i) l) in
      let R = index_row (get_or l i d) in
      let Y = C ++ replicate 40 0 in
      let at : 4 + 40 * i + 40 ≡ 4 + 40 * suc i = omega arith in
      let n : length l - i - 1 ≡ length l - suc i = omega arith in
      let lb = back_long i in
      let lc = back_long (suc i) in
      let ly : length Y ≡ length (R ++ C) = omega (arith, length-append C (replicate 40 0), length-replicate {A = ℕ} 40 0, ap (λ (x : List ℕ). length x) (rows_from i d h)) in
      let g : drop (length Y) (index_rows (drop i l) ++ Z) ≡ Z = rw (ly, rows_from i d h) (drop-append_seam (R ++ C) Z) in
      let m : length (take i l ++ drop (suc i) l) ≡ length l - 1 = omega (arith, length-append (take i l) (drop (suc i) l), length-take i l, length-drop (suc i) l) in
      rw (at, n, part_back (suc i) (omega arith), bytes_cut i, rows_written (length l) (length l - 1) A (index_rows (drop i l) ++ Z) Y (40 * i) (sym (front_long i (omega arith))), g, without_is i l)
      (less_bytes i h few m)

-- ---- an entry put in where it belongs

row_of_lem : (e : Entry) → row_bytes e.inside e.label e.made ≡ index_row e
unfolding row_bytes index_row
row_of_lem e = refl

key_of : (x e : Entry) → key_before (folder_key x.inside) x.label (folder_key e.inside) e.label ≡ entry_before x e
unfolding entry_before
key_of x e = refl

pub put_right : (l : List Entry) → length l < index_places → All Long l → Sorted l → (e d : Entry) → Long e
    → put_in (index_bytes l) e.inside e.label e.made ≡ index_bytes (placed e l)
unfolding put_in
put_right l few long sorted e d n =
    let k = folder_key e.inside in
    let r = seek (index_bytes l) k e.label in
    let w = seek_finds l (omega arith) long sorted d k e.label in
    let p : placed e l ≡ take r l ++ (e ∷ drop r l) =
    placed_at e l r d w.to
    (λ j h. sym (before_back l (omega arith) long j d (omega (arith, w.to)) k e.label ∙ key_of (get_or l j d) e) ∙ w.before j (omega arith) h)
    (λ h. sym (before_back l (omega arith) long r d h k e.label ∙ key_of (get_or l r d) e) ∙ w.at h) in
    rw (rows_counted l (omega arith) long, lt-ltb (length l) index_places few, row_of_lem e, row_more l long r e w.to n, p)
