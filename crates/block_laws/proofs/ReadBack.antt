-- A block of SAB1 that was written is read back: every field, no fault, and the same records.
-- Assumes nothing.
use Prim.Native.Nat.{◌≤◌}
use mathlib.Core.Path.{◌≡◌, refl, ◌∙◌}
use mathlib.Core.List.{List}
use lib.ListN.{length}
use borrow.Author.Tests.{eq-eqb}
use Rattle.model.specs.Record.{Rec}
use Rattle.model.specs.Block.{Header, letters, block_of, count_in, archive_in, block_fault, block_records, given_fault}
use Rattle.block_laws.proofs.Faults.{fault_sab1}
use Rattle.block_laws.proofs.Fields.{Sized, block_sab1, length_block}
use Rattle.block_laws.proofs.Letters as Letters

module _ (h : Header) (l : List Rec) where
  pub count_back : count_in (block_of h l) ≡ length l
  count_back = rw block_sab1 (Letters.count_back letters refl h l)

  archive_back : archive_in (block_of h l) ≡ h.archive
  archive_back = rw block_sab1 (Letters.archive_back letters refl h l)

-- a block of at most six records of 80 bytes, sent by a unit of 0 to 7
module _ (h : Header) (l : List Rec) (z : Sized l) (k : length l ≤ 6) where
  faultless : h.sender ≤ 7 → block_fault (block_of h l) ≡ 0
  faultless s = fault_sab1 (block_of h l) ∙ rw block_sab1 (Letters.faultless letters refl h l z k s)

  pub given_faultless : h.sender ≤ 7 → given_fault h.archive (block_of h l) ≡ 0
  unfolding given_fault
  given_faultless s =
      rw (eq-eqb (length (block_of h l)) 512 (length_block h l z k), faultless s, archive_back h l, eq-eqb h.archive h.archive refl)

  -- the records are read back
  pub block_records_lem : block_records (block_of h l) ≡ l
  block_records_lem = rw block_sab1 (Letters.block_rows letters refl h l z k)
