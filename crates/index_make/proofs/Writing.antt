-- What the loops that write an index are asked, over plain values.
-- Assumes nothing.
use Prim.Native.Nat.{ℕ, zero, suc, ◌+◌, ◌-◌, ◌*◌, ◌≤◌, ◌<◌}
use native.Mathlib.Numerals.{add-one}
use native.Mathlib.Omega.{arith}
use mathlib.Core.Path.{◌≡◌, refl, sym, ap, ◌∙◌}
use mathlib.Core.List.{List, [], ◌∷◌, ◌++◌, append_assoc, append-nil}
use lib.ListN.{get_or, length, take, drop, replicate, length-append, replicate-append-replicate}
use lib.Seq.{take-suc}
use Rattle.byte_slice.proofs.Parts.{part_is, part_length}
use Rattle.byte_slice.proofs.PutAt.{put-nil, put_more, put-padded, padded-nil, put_in_front, put_in_back}
use Rattle.model.specs.Lengths.{tree_size}
use Rattle.index_model.specs.Index.{index_size, index_places}
use Rattle.model.specs.Bytes.{two, part, put_at, padded}
use Rattle.index_laws.specs.Copied.{ordered_rows, copied_row, copied_rows, index_from, Low}

-- ---- one row

pub row_copied : (b d x y z : List ℕ) (row j : ℕ) → length b ≡ tree_size → row < index_places → length d ≡ index_size → j < index_places
    → x ≡ put_at d (4 + 40 * j) (part b (4 + 72 * row + 8) 4)
    → y ≡ put_at x (4 + 40 * j + 4) (part b (4 + 72 * row + 24) 32)
    → z ≡ put_at y (4 + 40 * j + 36) (part b (4 + 72 * row + 4) 4)
    → z ≡ put_at d (4 + 40 * j) (copied_row b row)
unfolding copied_row
row_copied b d x y z row j lb h ld k p q r =
    let f = part b (4 + 72 * row + 8) 4 in
    let g = part b (4 + 72 * row + 24) 32 in
    let e = part b (4 + 72 * row + 4) 4 in
    let at : ℕ = 4 + 40 * j in
    let lf = part_length b (4 + 72 * row + 8) 4 (omega arith) in
    let lg = part_length b (4 + 72 * row + 24) 32 (omega arith) in
    let lfg : length (f ++ g) ≡ 36 = omega (arith, length-append f g) in
    let u : put_at (put_at d at f) (at + 4) g ≡ put_at d at (f ++ g) = rw lf at (put_more d at f g (omega arith)) in
    let v : put_at (put_at d at (f ++ g)) (at + 36) e ≡ put_at d at ((f ++ g) ++ e) = rw lfg at (put_more d at (f ++ g) e (omega arith)) in
    r ∙ rw (q, p, u, v, append_assoc f g e)

-- ---- all rows

row-long : (b : List ℕ) (i : ℕ) → length b ≡ tree_size → i < index_places → length (copied_row b i) ≡ 40
unfolding copied_row
row-long b i n h =
    let f = part b (4 + 72 * i + 8) 4 in
    let g = part b (4 + 72 * i + 24) 32 in
    let e = part b (4 + 72 * i + 4) 4 in
    omega (
      arith,
      part_length b (4 + 72 * i + 8) 4 (omega arith),
      part_length b (4 + 72 * i + 24) 32 (omega arith),
      part_length b (4 + 72 * i + 4) 4 (omega arith),
      length-append f (g ++ e),
      length-append g e,
    )

copied_append : (b o p : List ℕ) → copied_rows b (o ++ p) ≡ copied_rows b o ++ copied_rows b p
unfolding copied_rows
copied_append b [] p = refl
copied_append b (i ∷ o) p = rw (copied_append b o p, append_assoc (copied_row b i) (copied_rows b o) (copied_rows b p))

module _ (b o : List ℕ) (n : ℕ) (lb : length b ≡ tree_size) (room : n ≤ index_places) (lo : n ≤ length o) (w : Low o n) where
  copied_more : (j : ℕ) → j < n → copied_rows b (take (j + 1) o) ≡ copied_rows b (take j o) ++ copied_row b (get_or o j 0)
  unfolding copied_rows
  copied_more j h = rw (add-one j, take-suc o j 0 (omega arith), copied_append b (take j o) (get_or o j 0 ∷ []), append-nil (copied_row b (get_or o j 0)))

  copied_long : (j : ℕ) → j ≤ n → length (copied_rows b (take j o)) ≡ 40 * j
  unfolding copied_rows
  copied_long zero h = refl
  copied_long (suc j) h =
      rw (← add-one j, copied_more j (omega arith))
      (omega (arith, length-append (copied_rows b (take j o)) (copied_row b (get_or o j 0)), copied_long j (omega arith), row-long b (get_or o j 0) lb (w.low j (omega arith))))

  pub write_none : (d : List ℕ) → d ≡ put_at d 4 (copied_rows b (take 0 o))
  unfolding copied_rows
  write_none d = sym (put-nil d 4)

  pub write_next : (d x y : List ℕ) (j : ℕ) → length d ≡ index_size → j < n → x ≡ put_at d 4 (copied_rows b (take j o)) → (r : ℕ) → r ≡ get_or o j 0 → y ≡ put_at x (4 + 40 * j) (copied_row b r)
      → y ≡ put_at d 4 (copied_rows b (take (j + 1) o))
  write_next d x y j ld h p r g q =
      let m = copied_long j (omega arith) in
      let s = copied_rows b (take j o) in
      let t = copied_row b (get_or o j 0) in
      let u : put_at (put_at d 4 s) (4 + 40 * j) t ≡ put_at d 4 (s ++ t) = rw m at (put_more d 4 s t (omega arith)) in
      q ∙ rw (p, g, u, copied_more j h)

-- ---- the whole

head : List ℕ
head = 0 ∷ 0 ∷ 0 ∷ 0 ∷ []

two_in : (n : ℕ) → put_at head 0 (two n) ≡ two n ++ (0 ∷ 0 ∷ [])
unfolding put_at head
two_in n = refl

pub index_made : (b d x y z o : List ℕ) (n : ℕ) → length d ≡ index_size → x ≡ replicate (length d) 0 → take n o ≡ ordered_rows b 0 n
    → y ≡ put_at x 4 (copied_rows b (take n o)) → z ≡ put_at y 0 (two n) → z ≡ index_from b n
unfolding index_from head
index_made b d x y z o n ld p q r s =
    let R = copied_rows b (ordered_rows b 0 n) in
    let u : x ≡ head ++ padded 40960 [] = p ∙ rw (ld, padded-nil 40960) (sym (replicate-append-replicate {A = ℕ} 4 40960 0)) in
    let v : y ≡ head ++ padded 40960 R = r ∙ rw (q, u) (put_in_back head (padded 40960 []) 0 R ∙ ap (λ (l : List ℕ). head ++ l) (put-padded 40960 [] R)) in
    s ∙ rw v (put_in_front head (padded 40960 R) 0 (two n) (omega arith) ∙ ap (λ (l : List ℕ). l ++ padded 40960 R) (two_in n))

pub part_copied : (d x s : List ℕ) (at from n : ℕ) → x ≡ put_at d at (take (from + n - from) (drop from s)) → x ≡ put_at d at (part s from n)
part_copied d x s at from n e = e ∙ rw (part_is s from n)
