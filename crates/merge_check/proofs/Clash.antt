-- 6, 10 and 11 of two files without a fault, each before the next.
-- Assumes nothing.
use Prim.Native.Nat.{ℕ, ◌≤◌}
use mathlib.Core.Path.{◌≡◌, sym, ◌∙◌}
use mathlib.Core.List.{List}
use lib.ListN.{length}
use borrow.Author.Tests.{eq-eqb, ne_eqb}
use Rattle.model.specs.Block.{archive_in}
use Rattle.model.specs.File.{fault, block_at, file_records, or_else}
use Rattle.model.specs.Merge.{bytes_fault, room_fault, archive_fault, records_clash, union_fault}
use Rattle.log_check.specs.declared.Layout.TheVariants.{File}
use Rattle.log_check.specs.Places.{laid_at, Laid}
use Rattle.log_check.specs.InOrder.{listed}
use Rattle.merge_check.specs.Tables.{Positioned, AllFormed, Fine}

module _ (f : List ℕ) (total : ℕ) (fine : Fine f total) where
  pub fine_few : total ≤ 512
  fine_few = fine.few

  pub fine_laid : Laid File f total
  fine_laid = fine.laid

  pub fine_formed : AllFormed (laid_at File f) total
  fine_formed = fine.formed

-- ---- 10, then 11

module _ (f g : List ℕ) (used total : ℕ) (a : Fine f used) (b : Fine g total) (bn bp : ℕ) (eb : fault bn bp ≡ bytes_fault (file_records f) 0 (listed (laid_at File g) 0 total)) where
  pub bytes_differ : (bn ≡ 0 → ⊥) → fault bn bp ≡ records_clash (file_records f) (length (file_records f)) (file_records g)
  unfolding records_clash or_else fault
  bytes_differ k = sym (rw (b.records, ← eb, ne_eqb bn 0 k))

  pub room_told : (held places : List ℕ) → Positioned (laid_at File f) used (file_records f) held places → bn ≡ 0 → (rn rp : ℕ)
      → fault rn rp ≡ room_fault held used 0 (listed (laid_at File g) 0 total) → fault rn rp ≡ records_clash (file_records f) (length (file_records f)) (file_records g)
  unfolding records_clash or_else fault
  room_told held places p k rn rp er = er ∙ sym (rw (b.records, ← eb, k, ← p.counts, ← a.counted))

-- ---- 6 before them

module _ (f g : List ℕ) (x y : ℕ) (ex : x ≡ archive_in (block_at g 0)) (ey : y ≡ archive_in (block_at f 0)) where
  pub archives_differ : (x ≡ y → ⊥) → fault 6 0 ≡ union_fault f g
  unfolding union_fault archive_fault or_else fault
  archives_differ h = rw (← ex, ← ey, ne_eqb x y h)

  pub archives_same : x ≡ y → (n p : ℕ) → fault n p ≡ records_clash (file_records f) (length (file_records f)) (file_records g) → fault n p ≡ union_fault f g
  unfolding union_fault archive_fault or_else fault
  archives_same h n p e = e ∙ rw (← ex, ← ey, eq-eqb x y h)
