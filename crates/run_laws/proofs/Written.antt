-- Rows and then records, written in blocks: the blocks pass the checks of a file, and rows and records are read back. SAB1 has no rows.
-- Assumes nothing.
use Prim.Native.Nat.{ℕ, suc, ◌+◌, ◌-◌, ◌*◌, ◌≤◌, ◌<◌, min}
use native.Mathlib.Omega.{arith}
use mathlib.Core.Path.{◌≡◌, refl, sym, ap, ◌∙◌}
use mathlib.Core.Logic.{◌⊎◌, inl, inr, ⊎_elim}
use mathlib.Core.Bool.{true, ◌||◌}
use mathlib.Core.List.{List, [], ◌++◌, append-nil}
use lib.Dec.{leb, eqb}
use lib.ListN.{get_or, length, take, drop, length-append, length-take, length-drop, get_or-eq_default}
use lib.Seq.{drop_at}
use borrow.Author.Tests.{eq-eqb, ne_eqb, lt-ltb, le-ltb, le-leb}
use Rattle.model.specs.Bytes.{part}
use Rattle.model.specs.Vector.{blocks_for}
use Rattle.model.specs.Record.{Rec}
use Rattle.model.specs.Block.{Header, archive_in, sender_in, place_in, count_in, vector_in}
use Rattle.model.specs.File.{fault, block_at, blocks_in, count_fits, file_record, file_records_from, records_counted, file_records}
use Rattle.run_model.specs.Runs.{block_fault_as, behind, run_to}
use Rattle.run_model.specs.Blocks.{count_fits_as, blocks_fault_as}
use Rattle.byte_slice.proofs.Numbers.{lt_or_ge, eq_or_ne}
use Rattle.byte_slice.proofs.Parts.{part-behind}
use Rattle.block_laws.proofs.Fields.{Sized}
use Rattle.run_laws.specs.Fits.{Fits, Agreeing, Holds}
use Rattle.run_laws.proofs.Runs.{run_length, run_row, run_rows_back, run_fits, enough}
use Rattle.run_laws.proofs.Passed.{all_pass}

-- ---- counts

-- block k of the rows
count-row : (r n k : ℕ) → k < blocks_for r → blocks_for r ≤ n → count_fits_as r n k (min 6 (r - 6 * k)) ≡ true
unfolding count_fits_as
count-row r n k h b =
    rw (lt-ltb k (blocks_for r) h, eq-eqb (min 6 (r - 6 * k)) (min 6 (r - 6 * k)) refl)
    (⊎_elim
    (λ (e : suc k < n). rw (lt-ltb (suc k) n e))
    (λ (e : n ≤ suc k). rw (le-ltb (suc k) n e, eq-eqb (suc k) (blocks_for r) (omega arith)))
    (lt_or_ge (suc k) n))

no_rows : blocks_for 0 ≡ 0
unfolding blocks_for
no_rows = refl

-- a block of records before the last, and the last
full_block : (p q m j : ℕ) → m ≤ 6 * q → (6 * q < m + 6) ⊎ (q ≡ 1) → suc (p + j) < p + q → min 6 (m - 6 * j) ≡ 6
full_block p q m j a (inl t) h = omega arith
full_block p q m j a (inr t) h = absurd (omega arith)

last_block : (p q m j : ℕ) → j < q → 6 * q < m + 6 → p + q ≤ suc (p + j) → 1 ≤ min 6 (m - 6 * j)
last_block p q m j b t h = omega arith

-- block j of the records, behind p blocks of rows
count_record : (r m q j : ℕ) → Holds r m q → j < q → count_fits_as r (blocks_for r + q) (blocks_for r + j) (min 6 (m - 6 * j)) ≡ true
unfolding count_fits_as count_fits
count_record r m q j H h =
    let p : ℕ = blocks_for r in
    let c : ℕ = min 6 (m - 6 * j) in
    rw (le-ltb (p + j) p (omega arith))
    (⊎_elim
    (λ (e : suc (p + j) < p + q). rw (lt-ltb (suc (p + j)) (p + q) e, eq-eqb c 6 (full_block p q m j H.all either e)))
    (λ (e : p + q ≤ suc (p + j)). rw (le-ltb (suc (p + j)) (p + q) e) (last e H.tight))
    (lt_or_ge (suc (p + j)) (p + q)))
  where
    either : (6 * q < m + 6) ⊎ (q ≡ 1)
    either = ⊎_elim (λ (x : 6 * q < m + 6). inl x) (λ (x : (r ≡ 0) × (q ≡ 1)). inr x.1) H.tight

    last : blocks_for r + q ≤ suc (blocks_for r + j) → (6 * q < m + 6) ⊎ ((r ≡ 0) × (q ≡ 1)) → (eqb (blocks_for r + q) 1 || leb 1 (min 6 (m - 6 * j))) ≡ true
    last e (inl t) =
        ⊎_elim
        (λ (x : blocks_for r + q ≡ 1). rw (eq-eqb (blocks_for r + q) 1 x))
        (λ (x : blocks_for r + q ≡ 1 → ⊥). rw (ne_eqb (blocks_for r + q) 1 x, le-leb 1 (min 6 (m - 6 * j)) (last_block (blocks_for r) q m j h t e)))
        (eq_or_ne (blocks_for r + q) 1)
    last e (inr t) =
        let x : blocks_for r + q ≡ 1 = ap (λ (i : ℕ). blocks_for i + q) t.0 ∙ omega (arith, no_rows, t.1) in
        rw (eq-eqb (blocks_for r + q) 1 x)

-- all blocks but the last have six records
counted : (m q : ℕ) → 1 ≤ q → m ≤ 6 * q → (6 * q < m + 6) ⊎ (q ≡ 1) → 6 * (q - 1) + min 6 (m - 6 * (q - 1)) ≡ m
counted m q h a (inl t) = omega arith
counted m q h a (inr t) = omega arith

-- no bytes, no count
pub none_counted : (f : List ℕ) (k : ℕ) → length f ≡ 0 → count_in (block_at f k) ≡ 0
unfolding count_in block_at part
none_counted f k e =
    get_or-eq_default (take 512 (drop (512 * k) f)) 0 {n = 9} (omega (arith, length-take 512 (drop (512 * k) f), length-drop (512 * k) f))

-- ---- rows, then records

module _ (t : List ℕ) (t4 : length t ≡ 4) (h : Header) (h0 : h.place ≡ 0) (u7 : h.sender ≤ 7) (v8 : length h.vector ≡ 8)
    (rows l : List Rec) (y : Sized rows) (z : Sized l) (q : ℕ) (Q : Holds (length rows) (length l) q) where
  abbrev p : ℕ
  p = blocks_for (length rows)

  abbrev front : List ℕ
  front = run_to t h rows p

  abbrev back : List ℕ
  back = run_to t (behind h p) l q

  abbrev file : List ℕ
  file = front ++ back

  front_bytes : length front ≡ 512 * p
  front_bytes = run_length t t4 h rows y p

  back_bytes : length back ≡ 512 * q
  back_bytes = run_length t t4 (behind h p) l z q

  pub file_bytes : length file ≡ 512 * (p + q)
  file_bytes = omega (arith, length-append front back, front_bytes, back_bytes)

  pub file_blocks : blocks_in file ≡ p + q
  unfolding blocks_in
  file_blocks = omega (arith, file_bytes)

  -- block k of the file
  record Stands (k : ℕ) : Type 0 where
    good : block_fault_as t (block_at file k) ≡ 0
    placed : place_in (block_at file k) ≡ k
    sent : sender_in (block_at file k) ≡ h.sender
    archived : archive_in (block_at file k) ≡ h.archive
    vectored : vector_in (block_at file k) ≡ h.vector
    filled : count_fits_as (length rows) (p + q) k (count_in (block_at file k)) ≡ true

  row_block_lem : (k : ℕ) → k < p → Stands k
  row_block_lem k b =
      let F : Fits t h (length rows) file k = run_fits t t4 h rows y p k back b u7 v8 in
      record {
        good = F.good;
        placed = omega (arith, F.placed);
        sent = F.sent;
        archived = F.archived;
        vectored = F.vectored;
        filled = rw F.filled (count-row (length rows) (p + q) k b (omega arith));
      }

  pub back_block : (j : ℕ) → block_at file (p + j) ≡ block_at back j
  unfolding block_at
  back_block j =
      let e : 512 * (p + j) ≡ length front + 512 * j = omega (arith, front_bytes) in
      rw e (part-behind front back (512 * j) 512)

  pub back_fits : (j : ℕ) → j < q → Fits t (behind h p) (length l) back j
  unfolding behind
  back_fits j b = rw append-nil at (run_fits t t4 (behind h p) l z q j [] b u7 v8)

  record_block : (j : ℕ) → j < q → Stands (p + j)
  unfolding behind
  record_block j b =
      let F : Fits t (behind h p) (length l) back j = back_fits j b in
      let e : block_at file (p + j) ≡ block_at back j = back_block j in
      record {
        good = rw e F.good;
        placed = rw e (omega (arith, F.placed));
        sent = rw e F.sent;
        archived = rw e F.archived;
        vectored = rw e F.vectored;
        filled = rw (e, F.filled) (count_record (length rows) (length l) q j Q b);
      }

  any_block : (k : ℕ) → k < p + q → Stands k
  any_block k b =
      ⊎_elim
      (λ (e : k < p). row_block_lem k e)
      (λ (e : p ≤ k). let x : k ≡ p + (k - p) = omega arith in rw x (record_block (k - p) (omega arith)))
      (lt_or_ge k p)

  first : Stands 0
  first = any_block 0 Q.some

  pub agreeing : (k : ℕ) → k < p + q → Agreeing t (length rows) file k
  agreeing k b =
      let B : Stands k = any_block k b in
      record {
        good = B.good;
        placed = B.placed;
        sent = B.sent ∙ sym first.sent;
        archived = B.archived ∙ sym first.archived;
        vectored = B.vectored ∙ sym first.vectored;
        filled = rw file_blocks B.filled;
      }

  -- the blocks pass
  pub blocks_pass : blocks_fault_as t (length rows) file 0 (blocks_in file) ≡ fault 0 0
  blocks_pass = all_pass t (length rows) file (blocks_in file) 0 (λ j a b. agreeing j (omega (arith, file_blocks)))

  -- what the first block says
  pub archive_read : archive_in (block_at file 0) ≡ h.archive
  archive_read = first.archived

  pub sender_read : sender_in (block_at file 0) ≡ h.sender
  sender_read = first.sent

  pub vector_read : vector_in (block_at file 0) ≡ h.vector
  vector_read = first.vectored

  -- the rows, one by one and together
  pub row_read : (i : ℕ) → i < length rows → file_record file i ≡ get_or rows i []
  row_read i b = run_row t t4 h rows y p back (enough (length rows)) i b

  pub rows_read : file_records_from file 0 (length rows) ≡ rows
  rows_read = run_rows_back t t4 h rows y p back (enough (length rows))

  -- the records, in the blocks behind
  pub record_part_lem : drop (512 * p) file ≡ back
  record_part_lem = drop_at front back (512 * p) front_bytes

  back_blocks : blocks_in back ≡ q
  unfolding blocks_in
  back_blocks = omega (arith, back_bytes)

  back_counted : records_counted back ≡ length l
  unfolding records_counted
  back_counted =
      rw back_blocks
      (⊎_elim
      (λ (e : q < 1). omega (arith, none_counted back (q - 1) (omega (arith, back_bytes)), Q.all))
      (λ (e : 1 ≤ q).
      rw (back_fits (q - 1) (omega arith)).filled
      (counted (length l) q e Q.all (⊎_elim (λ (x : 6 * q < length l + 6). inl x) (λ (x : (length rows ≡ 0) × (q ≡ 1)). inr x.1) Q.tight)))
      (lt_or_ge q 1))

  pub count_read : records_counted (drop (512 * p) file) ≡ length l
  count_read = rw record_part_lem back_counted

  pub records_read : file_records (drop (512 * p) file) ≡ l
  unfolding file_records
  records_read = rw (record_part_lem, back_counted) (rw append-nil at (run_rows_back t t4 (behind h p) l z q [] Q.all))
