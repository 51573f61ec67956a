-- What writing a row leaves: a row behind the others joins them, a row in the place of another takes that place.
-- Assumes nothing.
use Prim.Native.Nat.{ℕ, zero, suc, ◌+◌, ◌-◌, ◌*◌, ◌≤◌, ◌<◌}
use native.Mathlib.Omega.{arith}
use mathlib.Core.Path.{◌≡◌, refl, sym, ap, ◌∙◌}
use mathlib.Core.List.{List, [], ◌∷◌, ◌++◌, append_assoc, append-nil}
use lib.ListN.{get_or, length, set, replicate, length-append}
use Rattle.model.specs.Bytes.{part, padded, put_at}
use Rattle.model.specs.Replay.{Entry, Aside}
use Rattle.model.specs.Table.{entry_row, aside_row, entry_rows, aside_rows, flagged}
use Rattle.byte_slice.proofs.Parts.{part_front, part-behind, part-whole}
use Rattle.byte_slice.proofs.PutAt.{put_whole, put_in_front, put_in_back, put-padded, length-put, length-padded}
use Rattle.tree_table.specs.Rows.{flag_of, Proper, AllProper}
use Rattle.tree_table.proofs.Rows.{row-length, rows_length, aside_row_length, aside_rows_length}

-- ---- rows laid end to end

pub entry_rows_append : (s : List Aside) (a b : List Entry) → entry_rows s (a ++ b) ≡ entry_rows s a ++ entry_rows s b
unfolding entry_rows
entry_rows_append s [] b = refl
entry_rows_append s (e ∷ a) b = rw (entry_rows_append s a b, append_assoc (entry_row (flag_of s e) e) (entry_rows s a) (entry_rows s b))

pub aside_rows_append : (a b : List Aside) → aside_rows (a ++ b) ≡ aside_rows a ++ aside_rows b
unfolding aside_rows
aside_rows_append [] b = refl
aside_rows_append (x ∷ a) b = rw (aside_rows_append a b, append_assoc (aside_row x) (aside_rows a) (aside_rows b))

put_first : (p q x : List ℕ) → length x ≡ length p → put_at (p ++ q) 0 x ≡ x ++ q
put_first p q x n = put_in_front p q 0 x (omega arith) ∙ ap (λ (l : List ℕ). l ++ q) (put_whole p x n)

part_first : (p q : List ℕ) (n : ℕ) → length p ≡ n → part (p ++ q) 0 n ≡ p
part_first p q n e = part_front p q 0 n (omega arith) ∙ rw (← e) (part-whole p)

pub rows_set : (s : List Aside) (es : List Entry) (i : ℕ) (e : Entry) → i < length es → AllProper es → Proper e
    → put_at (entry_rows s es) (72 * i) (entry_row (flag_of s e) e) ≡ entry_rows s (set es i e)
unfolding entry_rows
rows_set s [] i e h g r = absurd (omega arith)
rows_set s (x ∷ l) zero e h g r = put_first (entry_row (flag_of s x) x) (entry_rows s l) (entry_row (flag_of s e) e) (row-length (flag_of s e) e r ∙ sym (row-length (flag_of s x) x g.0))
rows_set s (x ∷ l) (suc i) e h g r =
    let row = entry_row (flag_of s x) x in
    let n : 72 * suc i ≡ length row + 72 * i = omega (arith, row-length (flag_of s x) x g.0) in
    rw (n, put_in_back row (entry_rows s l) (72 * i) (entry_row (flag_of s e) e), rows_set s l i e (omega arith) g.1 r)

pub rows_part : (s : List Aside) (es : List Entry) (i : ℕ) (d : Entry) → i < length es → AllProper es
    → part (entry_rows s es) (72 * i) 72 ≡ entry_row (flag_of s (get_or es i d)) (get_or es i d)
unfolding entry_rows
rows_part s [] i d h g = absurd (omega arith)
rows_part s (x ∷ l) zero d h g = part_first (entry_row (flag_of s x) x) (entry_rows s l) 72 (row-length (flag_of s x) x g.0)
rows_part s (x ∷ l) (suc i) d h g =
    let row = entry_row (flag_of s x) x in
    let n : 72 * suc i ≡ length row + 72 * i = omega (arith, row-length (flag_of s x) x g.0) in
    rw (n, part-behind row (entry_rows s l) (72 * i) 72) (rows_part s l i d (omega arith) g.1)

pub aside_rows_set : (l : List Aside) (i : ℕ) (a : Aside) → i < length l → put_at (aside_rows l) (12 * i) (aside_row a) ≡ aside_rows (set l i a)
unfolding aside_rows
aside_rows_set [] i a h = absurd (omega arith)
aside_rows_set (x ∷ l) zero a h = put_first (aside_row x) (aside_rows l) (aside_row a) (aside_row_length a ∙ sym (aside_row_length x))
aside_rows_set (x ∷ l) (suc i) a h =
    let n : 12 * suc i ≡ length (aside_row x) + 12 * i = omega (arith, aside_row_length x) in
    rw (n, put_in_back (aside_row x) (aside_rows l) (12 * i) (aside_row a), aside_rows_set l i a (omega arith))

pub aside_rows_part : (l : List Aside) (i : ℕ) (d : Aside) → i < length l → part (aside_rows l) (12 * i) 12 ≡ aside_row (get_or l i d)
unfolding aside_rows
aside_rows_part [] i d h = absurd (omega arith)
aside_rows_part (x ∷ l) zero d h = part_first (aside_row x) (aside_rows l) 12 (aside_row_length x)
aside_rows_part (x ∷ l) (suc i) d h =
    let n : 12 * suc i ≡ length (aside_row x) + 12 * i = omega (arith, aside_row_length x) in
    rw (n, part-behind (aside_row x) (aside_rows l) (12 * i) 12) (aside_rows_part l i d (omega arith))

-- ---- rows with zeros behind them

put_in_padded : (n : ℕ) (p : List ℕ) (at : ℕ) (x : List ℕ) → at + length x ≤ length p → put_at (padded n p) at x ≡ padded n (put_at p at x)
unfolding padded
put_in_padded n p at x h = rw (put_in_front p (replicate (n - length p) 0) at x h, length-put p at x h)

part_in_padded : (n : ℕ) (p : List ℕ) (at m : ℕ) → at + m ≤ length p → part (padded n p) at m ≡ part p at m
unfolding padded
part_in_padded n p at m h = part_front p (replicate (n - length p) 0) at m h

-- ---- the table

head : List ℕ
head = 0 ∷ 0 ∷ 0 ∷ 0 ∷ []

module _ (s : List Aside) (es : List Entry) (l : List Aside) (fit : AllProper es) (room : length es ≤ 1024) where
  rows_long : length (padded 73728 (entry_rows s es)) ≡ 73728
  rows_long = length-padded 73728 (entry_rows s es) (omega (arith, rows_length s es fit))

  pub flagged-long : length l ≤ 1024 → length (flagged s es l) ≡ 86020
  unfolding flagged
  flagged-long n =
      omega (
        arith,
        length-append (padded 73728 (entry_rows s es)) (padded 12288 (aside_rows l)),
        rows_long,
        length-padded 12288 (aside_rows l) (omega (arith, aside_rows_length l)),
      )

  in_entries : (at : ℕ) (x : List ℕ) → at + length x ≤ 73728
      → put_at (flagged s es l) (4 + at) x ≡ head ++ (put_at (padded 73728 (entry_rows s es)) at x ++ padded 12288 (aside_rows l))
  unfolding flagged head
  in_entries at x h =
      put_in_back head (padded 73728 (entry_rows s es) ++ padded 12288 (aside_rows l)) at x
      ∙ ap (λ (y : List ℕ). head ++ y) (put_in_front (padded 73728 (entry_rows s es)) (padded 12288 (aside_rows l)) at x (omega (arith, rows_long)))

  in_asides : (at : ℕ) (x : List ℕ)
      → put_at (flagged s es l) (73732 + at) x ≡ head ++ (padded 73728 (entry_rows s es) ++ put_at (padded 12288 (aside_rows l)) at x)
  unfolding flagged head
  in_asides at x =
      let n : 73732 + at ≡ 4 + (length (padded 73728 (entry_rows s es)) + at) = omega (arith, rows_long) in
      rw n
      (put_in_back head (padded 73728 (entry_rows s es) ++ padded 12288 (aside_rows l)) (length (padded 73728 (entry_rows s es)) + at) x
      ∙ ap (λ (y : List ℕ). head ++ y) (put_in_back (padded 73728 (entry_rows s es)) (padded 12288 (aside_rows l)) at x))

  -- a row for one entry more
  pub add-entry : (e : Entry) → length es < 1024 → Proper e
      → put_at (flagged s es l) (4 + 72 * length es) (entry_row (flag_of s e) e) ≡ flagged s (es ++ (e ∷ [])) l
  unfolding flagged head entry_rows
  add-entry e h r =
      let R = entry_rows s es in
      let n = rows_length s es fit in
      let x = entry_row (flag_of s e) e in
      in_entries (72 * length es) x (omega (arith, row-length (flag_of s e) e r))
      ∙ rw (← n, put-padded 73728 R x, entry_rows_append s es (e ∷ []), append-nil x)

  -- bytes in the place of bytes of the rows
  pub rows_written : (at : ℕ) (x : List ℕ) → at + length x ≤ length (entry_rows s es)
      → put_at (flagged s es l) (4 + at) x ≡ (0 ∷ 0 ∷ 0 ∷ 0 ∷ []) ++ (padded 73728 (put_at (entry_rows s es) at x) ++ padded 12288 (aside_rows l))
  unfolding head
  rows_written at x h = in_entries at x (omega (arith, rows_length s es fit)) ∙ rw (put_in_padded 73728 (entry_rows s es) at x h)

  -- another row in the place of row i
  pub set-entry : (i : ℕ) (e : Entry) → i < length es → Proper e
      → put_at (flagged s es l) (4 + 72 * i) (entry_row (flag_of s e) e) ≡ flagged s (set es i e) l
  unfolding flagged
  set-entry i e h r =
      let x = entry_row (flag_of s e) e in
      let m = row-length (flag_of s e) e r in
      rows_written (72 * i) x (omega (arith, rows_length s es fit)) ∙ rw (rows_set s es i e h fit r)

  pub part-entry : (i : ℕ) (d : Entry) → i < length es → part (flagged s es l) (4 + 72 * i) 72 ≡ entry_row (flag_of s (get_or es i d)) (get_or es i d)
  unfolding flagged head
  part-entry i d h =
      let n = rows_length s es fit in
      part-behind head (padded 73728 (entry_rows s es) ++ padded 12288 (aside_rows l)) (72 * i) 72
      ∙ part_front (padded 73728 (entry_rows s es)) (padded 12288 (aside_rows l)) (72 * i) 72 (omega (arith, rows_long))
      ∙ part_in_padded 73728 (entry_rows s es) (72 * i) 72 (omega arith)
      ∙ rows_part s es i d h fit

  -- a row for one aside more
  pub add-aside : (a : Aside) → put_at (flagged s es l) (73732 + 12 * length l) (aside_row a) ≡ flagged s es (l ++ (a ∷ []))
  unfolding flagged head aside_rows
  add-aside a =
      in_asides (12 * length l) (aside_row a)
      ∙ rw (← aside_rows_length l, put-padded 12288 (aside_rows l) (aside_row a), aside_rows_append l (a ∷ []), append-nil (aside_row a))

  pub set-aside : (i : ℕ) (a : Aside) → i < length l → put_at (flagged s es l) (73732 + 12 * i) (aside_row a) ≡ flagged s es (set l i a)
  unfolding flagged head
  set-aside i a h =
      in_asides (12 * i) (aside_row a)
      ∙ rw (put_in_padded 12288 (aside_rows l) (12 * i) (aside_row a) (omega (arith, aside_rows_length l, aside_row_length a)), aside_rows_set l i a h)

  pub part-aside : (i : ℕ) (d : Aside) → i < length l → part (flagged s es l) (73732 + 12 * i) 12 ≡ aside_row (get_or l i d)
  unfolding flagged head
  part-aside i d h =
      let R = padded 73728 (entry_rows s es) in
      let A = padded 12288 (aside_rows l) in
      let n : 73732 + 12 * i ≡ 4 + (length R + 12 * i) = omega (arith, rows_long) in
      rw n (part-behind head (R ++ A) (length R + 12 * i) 12)
      ∙ part-behind R A (12 * i) 12
      ∙ part_in_padded 12288 (aside_rows l) (12 * i) 12 (omega (arith, aside_rows_length l))
      ∙ aside_rows_part l i d h
