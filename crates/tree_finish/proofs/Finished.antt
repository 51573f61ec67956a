-- The table shown, from the flagged table: present rows, zeros behind them, counts.
-- Assumes nothing.
use Prim.Native.Nat.{ℕ, ◌+◌, ◌-◌, ◌*◌, ◌≤◌}
use native.Mathlib.Omega.{arith}
use mathlib.Core.Path.{◌≡◌, refl, sym, ap, ◌∙◌}
use mathlib.Core.List.{List, [], ◌∷◌, ◌++◌, append_assoc}
use lib.ListN.{length, take, drop, replicate, length-append, length-replicate, replicate-append-replicate}
use lib.Seq.{take_all}
use borrow.Rule.Slice.PartMut.{put_mid}
use Rattle.model.specs.Bytes.{two, padded, put_at}
use Rattle.model.specs.Replay.{Entry, Aside, present_ones}
use Rattle.model.specs.Table.{entry_rows, aside_rows, table_bytes, flagged}
use Rattle.byte_slice.proofs.Parts.{lent_length}
use Rattle.byte_slice.proofs.PutAt.{mid_put, put_more, put_whole}
use Rattle.tree_table.specs.Rows.{entries_from, asides_from, tree_in, AllProper}
use Rattle.tree_table.proofs.Rows.{rows_length}
use Rattle.tree_table.proofs.Writes.{rows_written, flagged-long}
use Rattle.tree_finish.specs.Finishing.{Marked, kept_to, present_to, Compacted, trimmed}
use Rattle.tree_finish.proofs.Compaction.{kept-length, present_few, kept_rows, present_rows}

padded-zeros : (n c : ℕ) (x : List ℕ) → length x + c ≤ n → padded n (x ++ replicate c 0) ≡ padded n x
unfolding padded
padded-zeros n c x h =
    let z : List ℕ = replicate c 0 in
    let k : length (x ++ z) ≡ length x + c = length-append x z ∙ rw (length-replicate {A = ℕ} c 0) in
    let e : c + (n - (length x + c)) ≡ n - length x = omega arith in
    rw (k, append_assoc x z (replicate (n - (length x + c)) 0), replicate-append-replicate {A = ℕ} c (n - (length x + c)) 0, e)

-- counts in the first four bytes
counted : (y : List ℕ) (j m : ℕ) → put_at (put_at ((0 ∷ 0 ∷ 0 ∷ 0 ∷ []) ++ y) 0 (two j)) 2 (two m) ≡ two j ++ (two m ++ y)
unfolding put_at
counted y j m = refl

module _ (es : List Entry) (l : List Aside) (n m : ℕ) (fit : AllProper es) (rows : length es ≡ n) (room : n ≤ 1024) (notes : length l ≡ m) (note_room : m ≤ 1024) where
  all_kept : kept_to (flagged l es l) n ≡ entry_rows l (present_ones es)
  all_kept = kept_rows l es l fit (omega arith) n (omega arith) ∙ ap (λ (x : List Entry). entry_rows l (present_ones x)) (take_all n es (omega arith))

  all_present : present_to (flagged l es l) n ≡ length (present_ones es)
  all_present = present_rows l es l fit (omega arith) n (omega arith) ∙ ap (λ (x : List Entry). length (present_ones x)) (take_all n es (omega arith))

  table-long : length (flagged l es l) ≡ 86020
  table-long = flagged-long l es l fit (omega arith) (omega arith)

  -- the present rows in the place of all, and zeros behind them
  trimmed_rows : (j : ℕ) → j ≡ present_to (flagged l es l) n
      → put_at (flagged l es l) 4 (kept_to (flagged l es l) n ++ replicate (72 * (n - j)) 0)
      ≡ (0 ∷ 0 ∷ 0 ∷ 0 ∷ []) ++ (padded 73728 (entry_rows l (present_ones es)) ++ padded 12288 (aside_rows l))
  trimmed_rows j c =
      let b = flagged l es l in
      let k = kept_to b n in
      let z : List ℕ = replicate (72 * (n - j)) 0 in
      let kl : length k ≡ 72 * j = kept-length b n (omega (arith, table-long)) ∙ ap (λ (x : ℕ). 72 * x) (sym c) in
      let jl : j ≤ n = omega (arith, present_few b n) in
      let zl : length z ≡ 72 * (n - j) = length-replicate {A = ℕ} (72 * (n - j)) 0 in
      let xl : length (k ++ z) ≡ length (entry_rows l es) = omega (arith, length-append k z, rows_length l es fit) in
      rows_written l es l fit (omega arith) 0 (k ++ z) (omega arith)
      ∙ rw (put_whole (entry_rows l es) (k ++ z) xl, padded-zeros 73728 (72 * (n - j)) k (omega arith), all_kept)

  finished : trimmed (flagged l es l) n m ≡ table_bytes (record { entries = es; asides = l })
  unfolding table_bytes trimmed
  finished =
      let t = flagged l es l in
      let j = present_to t n in
      let k = kept_to t n in
      let z : List ℕ = replicate (72 * (n - j)) 0 in
      let kl : length k ≡ 72 * j = kept-length t n (omega (arith, table-long)) in
      let more : put_at (put_at t 4 k) (4 + 72 * j) z ≡ put_at t 4 (k ++ z) = rw kl at (put_more t 4 k z (omega (arith, table-long, present_few t n))) in
      let y = padded 73728 (entry_rows l (present_ones es)) ++ padded 12288 (aside_rows l) in
      rw (more, trimmed_rows j refl) (counted y j m ∙ rw (all_present, notes))

-- what `clear_rows` and `finish` are asked, over plain values

pub rows_cleared : (b ys : List ℕ) (i j : ℕ) → length b ≡ 86020 → i ≤ j → j ≤ 1024
    → ys ≡ replicate (length (take (4 + 72 * i + 72 * (j - i) - (4 + 72 * i)) (drop (4 + 72 * i) b))) 0
    → put_mid (4 + 72 * i) (4 + 72 * i + 72 * (j - i) - (4 + 72 * i)) b ys ≡ put_at b (4 + 72 * i) (replicate (72 * (j - i)) 0)
rows_cleared b ys i j long h room e =
    let y : ys ≡ replicate (72 * (j - i)) 0 = e ∙ ap (λ (x : ℕ). replicate {A = ℕ} x 0) (lent_length b (4 + 72 * i) (72 * (j - i)) (omega arith)) in
    let n : length ys ≡ 72 * (j - i) = ap (λ (x : List ℕ). length x) y ∙ length-replicate {A = ℕ} (72 * (j - i)) 0 in
    mid_put (4 + 72 * i) (72 * (j - i)) b ys n ∙ ap (λ (x : List ℕ). put_at b (4 + 72 * i) x) y

pub trim-done : (b d g e f : List ℕ) (n m j : ℕ) → Compacted b d n j → g ≡ put_at d (4 + 72 * j) (replicate (72 * (n - j)) 0) → e ≡ put_at g 0 (two j) → f ≡ put_at e 2 (two m)
    → f ≡ trimmed b n m
unfolding trimmed
trim-done b d g e f n m j c hg he hf = hf ∙ rw (he, hg, c.rows, c.present)

module _ (b₀ b register : List ℕ) (n m : ℕ) (k : Marked (asides_from b₀ 0 m) b register n m (tree_in b₀ n m)) where
  pub marked_long : length b ≡ 86020
  unfolding tree_in
  marked_long =
      ap (λ (x : List ℕ). length x) k.bytes
      ∙ table-long (entries_from b₀ 0 n) (asides_from b₀ 0 m) n m k.works.proper k.works.rows k.works.rows_fit_lem k.works.notes k.works.notes_fit

  pub finish_done : (f : List ℕ) → f ≡ trimmed b n m → f ≡ table_bytes (tree_in b₀ n m)
  unfolding tree_in
  finish_done f e =
      e
      ∙ ap (λ (x : List ℕ). trimmed x n m) k.bytes
      ∙ finished (entries_from b₀ 0 n) (asides_from b₀ 0 m) n m k.works.proper k.works.rows k.works.rows_fit_lem k.works.notes k.works.notes_fit
