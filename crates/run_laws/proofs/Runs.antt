-- The laws of runs: the blocks of a run, the rows read off it, and that blocks which fit are the run of their rows.
-- Assumes nothing.
use Prim.Native.Nat.{ℕ, zero, suc, ◌+◌, ◌-◌, ◌*◌, ◌/◌, ◌%◌, ◌≤◌, ◌<◌, min}
use native.Mathlib.Omega.{arith}
use mathlib.Core.Path.{◌≡◌, refl, sym, ap, ◌∙◌}
use mathlib.Core.Logic.{⊎_elim}
use mathlib.Core.List.{List, [], ◌++◌, append_assoc}
use lib.ListN.{get_or, length, take, drop, length-append, length-take, length-drop}
use lib.Seq.{get_or-take, get_or-drop, take_all, take-add}
use Rattle.model.specs.Bytes.{part}
use Rattle.model.specs.Vector.{blocks_for}
use Rattle.model.specs.Record.{Rec}
use Rattle.model.specs.Block.{Header, count_in, record_at, block_records}
use Rattle.model.specs.File.{block_at, file_record, file_records_from}
use Rattle.byte_slice.proofs.Numbers.{lt_or_ge}
use Rattle.byte_slice.proofs.Parts.{part_middle, part_length}
use Rattle.block_laws.proofs.Fields.{Sized, sized_take, sized_drop, six, length-block_as}
use Rattle.run_model.specs.Runs.{block_as, behind, run_block, run_to}
use Rattle.run_laws.specs.Fits.{Fits}
use Rattle.block_laws.proofs.Letters.{sender_back, count_back, archive_back, place_back, vector_in_back, faultless, block_rows}
use Rattle.run_laws.proofs.Records.{record_in_block, records_of_block, get_d_records_from, records_are, length-file_records, take-file_records, drop-file_records}
use Rattle.run_laws.proofs.Again.{Bytes, bytes_part, header_in, block_again}

-- ---- a run that was written

module _ (t : List ℕ) (t4 : length t ≡ 4) (h : Header) (rows : List Rec) (z : Sized rows) where
  -- the rows of block k
  abbrev some : ℕ → List Rec
  some k = take 6 (drop (6 * k) rows)

  some_sized : (k : ℕ) → Sized (some k)
  some_sized k = sized_take 6 (drop (6 * k) rows) (sized_drop (6 * k) rows z)

  some_length : (k : ℕ) → length (some k) ≡ min 6 (length rows - 6 * k)
  some_length k = rw (length-take 6 (drop (6 * k) rows), length-drop (6 * k) rows)

  length-run_block : (k : ℕ) → length (run_block t h rows k) ≡ 512
  unfolding run_block
  length-run_block k = length-block_as t t4 (behind h k) (some k) (some_sized k) (six (drop (6 * k) rows))

  -- 512 bytes a block
  pub run_length : (n : ℕ) → length (run_to t h rows n) ≡ 512 * n
  unfolding run_to
  run_length zero = refl
  run_length (suc n) = omega (arith, length-append (run_to t h rows n) (run_block t h rows n), run_length n, length-run_block n)

  here : (n : ℕ) → run_block t h rows n ≡ block_as t (behind h n) (take 6 (drop (6 * n) rows))
  unfolding run_block
  here n = refl

  -- block k of the first n, whatever stands behind them
  pub run_block_lem : (n k : ℕ) (s : List ℕ) → k < n → block_at (run_to t h rows n ++ s) k ≡ block_as t (behind h k) (take 6 (drop (6 * k) rows))
  unfolding run_to block_at
  run_block_lem zero k s b = absurd (omega arith)
  run_block_lem (suc n) k s b =
      let x : List ℕ = run_to t h rows n in
      let y : List ℕ = run_block t h rows n in
      ⊎_elim
      (λ (e : k < n). rw (append_assoc x y s) (run_block_lem n k (y ++ s) e))
      (λ (e : n ≤ k). let q : k ≡ n = omega arith in rw (append_assoc x y s, q) (last x y s n (run_length n) (length-run_block n) ∙ here n))
      (lt_or_ge k n)
    where
      last : (x y s : List ℕ) (n : ℕ) → length x ≡ 512 * n → length y ≡ 512 → part (x ++ (y ++ s)) (512 * n) 512 ≡ y
      last x y s n p q = rw (p, q) at (part_middle x y s)

  -- row j of block k
  row_of_block : (n k : ℕ) (s : List ℕ) → k < n → (j : ℕ) → j < 6 → 6 * k + j < length rows → record_at (block_at (run_to t h rows n ++ s) k) j ≡ get_or rows (6 * k + j) []
  unfolding block_records
  row_of_block n k s b j j6 q =
      let x : List ℕ = block_as t (behind h k) (some k) in
      let c : count_in x ≡ length (some k) = count_back t t4 (behind h k) (some k) in
      let y : 0 + j ≡ j = omega arith in
      rw (run_block_lem n k s b)
      (sym (get_d_records_from x 0 (count_in x) j (omega (arith, some_length k)) ∙ ap (record_at x) y)
      ∙ ap (λ (l : List Rec). get_or l j []) (block_rows t t4 (behind h k) (some k) (some_sized k) (six (drop (6 * k) rows)))
      ∙ get_or-take 6 (drop (6 * k) rows) j [] j6
      ∙ get_or-drop (6 * k) rows j [])

  -- the rows read off a run are the rows written, one by one
  pub run_row : (n : ℕ) (s : List ℕ) → length rows ≤ 6 * n → (i : ℕ) → i < length rows → file_record (run_to t h rows n ++ s) i ≡ get_or rows i []
  run_row n s e i b =
      let q : 6 * (i / 6) + i % 6 ≡ i = omega arith in
      record_in_block (run_to t h rows n ++ s) i ∙ row_of_block n (i / 6) s (omega arith) (i % 6) (omega arith) (omega arith) ∙ ap (λ (x : ℕ). get_or rows x []) q

  -- and together
  pub run_rows_back : (n : ℕ) (s : List ℕ) → length rows ≤ 6 * n → file_records_from (run_to t h rows n ++ s) 0 (length rows) ≡ rows
  run_rows_back n s e = records_are (run_to t h rows n ++ s) rows (run_row n s e) (length rows) 0 (omega arith)

  -- every block of it fits
  pub run_fits : (n k : ℕ) (s : List ℕ) → k < n → h.sender ≤ 7 → length h.vector ≡ 8 → Fits t h (length rows) (run_to t h rows n ++ s) k
  unfolding behind
  run_fits n k s b u7 v8 =
      let e : block_at (run_to t h rows n ++ s) k ≡ block_as t (behind h k) (some k) = run_block_lem n k s b in
      record {
        good = rw e (faultless t t4 (behind h k) (some k) (some_sized k) (six (drop (6 * k) rows)) u7);
        placed = rw e (place_back t t4 (behind h k) (some k));
        sent = rw e (sender_back t t4 (behind h k) (some k));
        archived = rw e (archive_back t t4 (behind h k) (some k));
        vectored = rw e (vector_in_back t t4 (behind h k) (some k) v8);
        filled = rw e (count_back t t4 (behind h k) (some k) ∙ some_length k);
      }

-- as many blocks as the rows ask for hold them all
pub enough : (n : ℕ) → n ≤ 6 * blocks_for n
unfolding blocks_for
enough n = omega arith

-- ---- blocks that fit

take_six : (f : List ℕ) (i m : ℕ) → take 6 (file_records_from f i m) ≡ file_records_from f i (min 6 m)
take_six f i m =
    ⊎_elim
    (λ (h : m < 6). let e : min 6 m ≡ m = omega arith in rw e (take_all 6 (file_records_from f i m) (omega (arith, length-file_records f i m))))
    (λ (h : 6 ≤ m). let e : min 6 m ≡ 6 = omega arith in rw e (take-file_records f i m 6 h))
    (lt_or_ge m 6)

module _ (t : List ℕ) (h : Header) (m : ℕ) (f : List ℕ) where
  -- the rows of block k
  pub rows_right : (k : ℕ) → Fits t h m f k → take 6 (drop (6 * k) (file_records_from f 0 m)) ≡ block_records (block_at f k)
  unfolding block_records
  rows_right k F =
      let c : min 6 (m - 6 * k) ≡ count_in (block_at f k) = sym F.filled in
      let y : 0 + 6 * k ≡ 6 * k + 0 = omega arith in
      rw (drop-file_records f 0 m (6 * k), take_six f (0 + 6 * k) (m - 6 * k), c, y) (records_of_block f k 0 (count_in (block_at f k)) (omega (arith, F.filled)))

  module _ (g : Bytes f) where
    block_right : (k : ℕ) → 512 * k + 512 ≤ length f → Fits t h m f k → run_block t h (file_records_from f 0 m) k ≡ block_at f k
    unfolding run_block behind header_in block_at
    block_right k w F =
        let b : List ℕ = block_at f k in
        let H : behind h k ≡ header_in b =
        λ i. record {
          archive = sym F.archived i;
          sender = sym F.sent i;
          place = sym F.placed i;
          vector = sym F.vectored i;
        } in
        (λ i. block_as t (H i) (rows_right k F i)) ∙ block_again t b (part_length f (512 * k) 512 w) (bytes_part f (512 * k) 512 w g) F.good

    -- they are the run of the rows read off them
    pub run_rewritten : (n : ℕ) → 512 * n ≤ length f → ((k : ℕ) → k < n → Fits t h m f k) → run_to t h (file_records_from f 0 m) n ≡ take (512 * n) f
    unfolding run_to block_at part
    run_rewritten zero w F = refl
    run_rewritten (suc n) w F =
        let q : 512 * suc n ≡ 512 * n + 512 = omega arith in
        rw (q, take-add (512 * n) 512 f) (λ i. run_rewritten n (omega arith) (λ k b. F k (omega arith)) i ++ block_right n (omega arith) (F n (omega arith)) i)
