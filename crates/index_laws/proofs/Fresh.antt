-- Rows of a table put in order by their numbers: the entries in them are in order.
-- Assumes nothing.
use Prim.Native.Nat.{ℕ, zero, suc, ◌+◌, ◌-◌, ◌*◌, ◌≤◌, ◌<◌}
use native.Mathlib.Numerals.{add-one}
use native.Mathlib.Omega.{arith}
use mathlib.Core.Path.{◌≡◌, refl, sym, ap, ◌∙◌}
use mathlib.Core.Logic.{◌⊎◌, inl, inr, ⊎_elim}
use mathlib.Core.Bool.{Bool, true, false, cond}
use mathlib.Core.List.{List, [], ◌∷◌, ◌++◌, append_assoc}
use lib.ListN.{get_or, length, take, drop, length-append, length-take}
use lib.Seq.{take-take, take_at, get_or-take}
use Rattle.byte_slice.proofs.Numbers.{bool_cases}
use Rattle.byte_slice.proofs.Parts.{part_length, drop-take}
use Rattle.model.specs.Bytes.{part, put_at}
use Rattle.model.specs.Replay.{Entry}
use Rattle.log_laws.proofs.Members.{All, all_at}
use Rattle.model.specs.Table.{entry_in}
use Rattle.tree_table.specs.Rows.{entries_from}
use Rattle.index_model.specs.Index.{index_places, folder_key, key_before, entry_before, placed, ordered, halve}
use Rattle.index_laws.specs.Copied.{entry_row_at, placed_row, ordered_rows, order_before}
use Rattle.index_laws.proofs.Sorted.{Sorted, ordered_sorted, Sought, sought}
use Rattle.index_laws.proofs.Reading.{key_monotone, sorted_at}

-- ---- entries by row numbers

unfoldable pub rows_of : List ℕ → List ℕ → List Entry
rows_of b [] = []
rows_of b (i ∷ o) = entry_row_at b i ∷ rows_of b o

rows_placed : (b : List ℕ) (i : ℕ) (o : List ℕ) → rows_of b (placed_row b i o) ≡ placed (entry_row_at b i) (rows_of b o)
unfolding rows_of placed_row placed
rows_placed b i [] = refl
rows_placed b i (j ∷ o) =
    ⊎_elim
    (λ (c : entry_before (entry_row_at b j) (entry_row_at b i) ≡ true). rw c (ap (λ (l : List Entry). entry_row_at b j ∷ l) (rows_placed b i o)))
    (λ (c : entry_before (entry_row_at b j) (entry_row_at b i) ≡ false). rw c)
    (bool_cases (entry_before (entry_row_at b j) (entry_row_at b i)))

pub rows_ordered : (b : List ℕ) (i n : ℕ) → rows_of b (ordered_rows b i n) ≡ ordered (entries_from b i n)
unfolding rows_of ordered_rows ordered entries_from
rows_ordered b i zero = refl
rows_ordered b i (suc n) = rows_placed b i (ordered_rows b (suc i) n) ∙ ap (placed (entry_row_at b i)) (rows_ordered b (suc i) n)

rows_at : (b o : List ℕ) (j : ℕ) → j < length o → get_or (rows_of b o) j (entry_row_at b 0) ≡ entry_row_at b (get_or o j 0)
unfolding rows_of
rows_at b [] j h = absurd (omega arith)
rows_at b (i ∷ o) zero h = refl
rows_at b (i ∷ o) (suc j) h = rows_at b o j (omega arith)

rows_many : (b o : List ℕ) → length (rows_of b o) ≡ length o
unfolding rows_of
rows_many b [] = refl
rows_many b (i ∷ o) = ap suc (rows_many b o)

-- ---- how many, and which

placed_many : (b : List ℕ) (i : ℕ) (o : List ℕ) → length (placed_row b i o) ≡ suc (length o)
unfolding placed_row
placed_many b i [] = refl
placed_many b i (j ∷ o) =
    ⊎_elim
    (λ (c : entry_before (entry_row_at b j) (entry_row_at b i) ≡ true). rw c (ap suc (placed_many b i o)))
    (λ (c : entry_before (entry_row_at b j) (entry_row_at b i) ≡ false). rw c)
    (bool_cases (entry_before (entry_row_at b j) (entry_row_at b i)))

pub ordered_many : (b : List ℕ) (i n : ℕ) → length (ordered_rows b i n) ≡ n
unfolding ordered_rows
ordered_many b i zero = refl
ordered_many b i (suc n) = placed_many b i (ordered_rows b (suc i) n) ∙ ap suc (ordered_many b (suc i) n)

placed_all : (P : ℕ → Type 0) (b : List ℕ) (i : ℕ) (o : List ℕ) → P i → All P o → All P (placed_row b i o)
unfolding placed_row
placed_all P b i [] p a = (p, tt)
placed_all P b i (j ∷ o) p a =
    ⊎_elim
    (λ (c : entry_before (entry_row_at b j) (entry_row_at b i) ≡ true). rw c (a.0, placed_all P b i o p a.1))
    (λ (c : entry_before (entry_row_at b j) (entry_row_at b i) ≡ false). rw c (p, a))
    (bool_cases (entry_before (entry_row_at b j) (entry_row_at b i)))

pub ordered-below : (b : List ℕ) (i n m : ℕ) → i + n ≤ m → All (λ (j : ℕ). j < m) (ordered_rows b i n)
unfolding ordered_rows
ordered-below b i zero m h = tt
ordered-below b i (suc n) m h = placed_all (λ (j : ℕ). j < m) b i (ordered_rows b (suc i) n) (omega arith) (ordered-below b (suc i) n m (omega arith))

-- ---- the place of a row, by halving

entry_monotone : (y e x : Entry) → entry_before y e ≡ true → entry_before y x ≡ false → entry_before x e ≡ true
unfolding entry_before
entry_monotone y e x = key_monotone (folder_key y.inside) y.label (folder_key e.inside) e.label (folder_key x.inside) x.label

order_rises : (b : List ℕ) (m k row i j : ℕ) → i ≤ j → j < k
    → entry_before (entry_row_at b (get_or (ordered_rows b m k) j 0)) (entry_row_at b row) ≡ true
    → entry_before (entry_row_at b (get_or (ordered_rows b m k) i 0)) (entry_row_at b row) ≡ true
order_rises b m k row i j h g p =
    let o = ordered_rows b m k in
    let n = ordered_many b m k in
    let s : Sorted (rows_of b o) = rw (rows_ordered b m k) (ordered_sorted (entries_from b m k)) in
    let u = sorted_at (rows_of b o) s i j (entry_row_at b 0) h (omega (arith, rows_many b o)) in
    entry_monotone (entry_row_at b (get_or o j 0)) (entry_row_at b row) (entry_row_at b (get_or o i 0)) p
    (rw (rows_at b o j (omega arith), rows_at b o i (omega arith)) at u)

row-placed : (b : List ℕ) (i : ℕ) (o : List ℕ) (r : ℕ) → r ≤ length o
    → ((j : ℕ) → j < r → entry_before (entry_row_at b (get_or o j 0)) (entry_row_at b i) ≡ true)
    → (r < length o → entry_before (entry_row_at b (get_or o r 0)) (entry_row_at b i) ≡ false)
    → placed_row b i o ≡ take r o ++ (i ∷ drop r o)
unfolding placed_row
row-placed b i [] zero h p q = refl
row-placed b i [] (suc r) h p q = absurd (omega arith)
row-placed b i (j ∷ o) zero h p q = rw (q (omega arith))
row-placed b i (j ∷ o) (suc r) h p q =
    rw (p 0 (omega arith)) (ap (λ (l : List ℕ). j ∷ l) (row-placed b i o r (omega arith) (λ k x. p (suc k) (omega arith)) (λ x. q (omega arith))))

module _ (b o : List ℕ) (n k : ℕ) (long : length o ≡ index_places) (few : k < n) (room : n ≤ index_places) (inv : take k o ≡ ordered_rows b (n - k) k) where
  same_at : (i : ℕ) → i < k → get_or o i 0 ≡ get_or (ordered_rows b (n - k) k) i 0
  same_at i h = sym (get_or-take k o i 0 h) ∙ rw inv

  module _ (row at : ℕ) (e : at ≡ halve (order_before b o row) 11 0 k) where
    place_sought : Sought (order_before b o row) 0 k at
    unfolding order_before
    place_sought =
        rw e
        (sought (order_before b o row) 11 0 k
        (λ i j _ y z p. rw (same_at i (omega arith)) (order_rises b (n - k) k row i j y z (rw (same_at j z) at p)))
        (omega arith) (omega arith))

    row_in : placed_row b row (ordered_rows b (n - k) k) ≡ take at o ++ (row ∷ part o at (k - at))
    unfolding order_before part
    row_in =
        let w = place_sought in
        let r = ordered_rows b (n - k) k in
        let m = ordered_many b (n - k) k in
        let a : at ≤ k = w.to in
        let u : placed_row b row r ≡ take at r ++ (row ∷ drop at r) =
        row-placed b row r at (omega arith) (λ j h. rw (same_at j (omega arith)) at (w.before j (omega arith) h)) (λ h. rw (same_at at (omega arith)) at (w.at (omega arith))) in
        let v : take at r ≡ take at o = rw (← inv) (take-take at k o a) in
        let x : drop at r ≡ take (k - at) (drop at o) = rw (← inv) (drop-take at k o) in
        rw (u, v, x)

    pub order_next : row ≡ n - k - 1 → (o' : List ℕ) → o' ≡ put_at o at (row ∷ part o at (k - at)) → take (k + 1) o' ≡ ordered_rows b (n - (k + 1)) (k + 1)
    unfolding ordered_rows put_at
    order_next q o' p =
        let a : at ≤ k = place_sought.to in
        let s : List ℕ = row ∷ part o at (k - at) in
        let l : length (take at o ++ s) ≡ k + 1 = omega (arith, length-append (take at o) s, length-take at o, part_length o at (k - at) (omega arith)) in
        let t : take (k + 1) o' ≡ take at o ++ s = rw (p, ← append_assoc (take at o) s (drop (at + length s) o)) (take_at (take at o ++ s) (drop (at + length s) o) (k + 1) l) in
        let c : suc (n - (k + 1)) ≡ n - k = omega arith in
        let f : n - (k + 1) ≡ row = omega arith in
        t ∙ sym row_in ∙ rw (add-one k, ← add-one k, c, f)
