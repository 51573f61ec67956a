-- One file out of two: the records of both, whether they go together, and what the call answers and leaves.
-- Document 02, K1.
-- Assumes nothing.
use Rattle.std.specs.Prelude.{ℕ, suc, ◌/◌, Bool, false, cond, not, ◌&&◌, List, [], ◌∷◌, ltb, eqb, get_or, length}
use Rattle.std.proofs.Math.Option.{Option, none, some}
use Rattle.model.specs.Numbers.{bad_buffer, other_archive, other_bytes, full_log}
use Rattle.model.specs.Lengths.{log_size, file_size, log_places}
use Rattle.model.specs.Bytes.{same_bytes, padded}
use Rattle.model.specs.Record.{Rec, unit, num}
use Rattle.model.specs.Log.{insert, by_id, vector_of, log_bytes, lacking}
use Rattle.model.specs.Block.{archive_in, sender_in}
use Rattle.model.specs.File.{block_count, file_of, block_at, Fault, fault, file_records, or_else, checked_fault}

-- ---- the records of both

-- the records of m put in by rank, one after another
unfoldable pub insert_all : List Rec → List Rec → List Rec
insert_all l [] = l
insert_all l (r ∷ m) = insert_all (insert r l) m

-- those of l, and those of m that l lacks, by rank [F90]
unfoldable pub union : List Rec → List Rec → List Rec
union l m = insert_all l (lacking (vector_of l) m)

-- ---- whether they go together; places are of the second file

-- the record held is another than r
unfoldable pub differs : Option Rec → Rec → Bool
differs none r = false
differs (some s) r = not (same_bytes s r)

-- 10 at the first of the records, the second file's from i on, that l has with other bytes [F87]
unfoldable pub bytes_fault : List Rec → ℕ → List Rec → Fault
bytes_fault l i [] = fault 0 0
bytes_fault l i (r ∷ m) = cond (differs (by_id (unit r) (num r) l) r) (fault other_bytes (i / 6)) (bytes_fault l (suc i) m)

-- 11 at the first of the records, the second file's from i on, that the vector v lacks and that is the 513th behind n [F88]
unfoldable pub room_fault : List ℕ → ℕ → ℕ → List Rec → Fault
room_fault v n i [] = fault 0 0
room_fault v n i (r ∷ m) =
    cond (ltb (get_or v (unit r) 0) (num r))
    (cond (ltb n log_places) (room_fault v (suc n) (suc i) m) (fault full_log (i / 6)))
    (room_fault v n (suc i) m)

-- of the records l, n of them, and m: 10 wholly before 11 [F86]
unfoldable pub records_clash : List Rec → ℕ → List Rec → Fault
records_clash l n m = or_else (bytes_fault l 0 m) (room_fault (vector_of l) n 0 m)

-- 6 for another archive [F86]
unfoldable pub archive_fault : ℕ → ℕ → Fault
archive_fault a b = cond (eqb b a) (fault 0 0) (fault other_archive 0)

-- of two files without a fault: 6, 10, 11 [F86]
unfoldable pub union_fault : List ℕ → List ℕ → Fault
union_fault f g =
    or_else (archive_fault (archive_in (block_at f 0)) (archive_in (block_at g 0)))
    (records_clash (file_records f) (length (file_records f)) (file_records g))

-- ---- the call

-- the number and place answered, the file at fault (1, 2; 0 for neither), the count of blocks returned, the log and the file lent as they
-- are left
pub record Merged : Type 0 where
  pub number : ℕ
  pub place : ℕ
  pub which : ℕ
  pub blocks : ℕ
  pub log : List ℕ
  pub lent : List ℕ

abbrev pub merged : ℕ → ℕ → ℕ → ℕ → List ℕ → List ℕ → Merged
merged n p w k log lent = record { number = n; place = p; which = w; blocks = k; log = log; lent = lent }

-- refused by a fault of the file w, which leaves all as it was, or else the next
unfoldable pub unless : Fault → ℕ → List ℕ → List ℕ → Merged → Merged
unless e w log lent o = cond (eqb e.number 0) o (merged e.number e.place w 0 log lent)

-- refused by the first of three faults: of the first file, of the second, of the two together, which is the second's [F86] [F89]
unfoldable pub unless_any : Fault → Fault → Fault → List ℕ → List ℕ → Merged → Merged
unless_any a b c log lent o = unless a 1 log lent (unless b 2 log lent (unless c 2 log lent o))

-- the file of the records l, with the archive and the unit of the file f [F90]
unfoldable pub joined_file : List ℕ → List Rec → Merged
joined_file f l =
    merged 0 0 0 (block_count (length l)) (log_bytes l) (padded file_size (file_of (archive_in (block_at f 0)) (sender_in (block_at f 0)) l))

-- the file of all records of both, as the first says of itself [F90]
abbrev pub joined_both : List ℕ → List ℕ → Merged
joined_both f g = joined_file f (union (file_records f) (file_records g))

-- of two files with these faults: theirs, then 6, 10, 11 [F86]
abbrev pub merge_files : Fault → Fault → List ℕ → List ℕ → List ℕ → List ℕ → Merged
merge_files a b f g log lent = unless_any a b (union_fault f g) log lent (joined_both f g)

-- 1, then all of the first file, all of the second, then the two together [F86]
unfoldable pub merge_of : List ℕ → List ℕ → List ℕ → List ℕ → Merged
merge_of f g log lent =
    cond (eqb (length log) log_size && eqb (length lent) file_size)
    (merge_files (checked_fault f) (checked_fault g) f g log lent)
    (merged bad_buffer 0 0 0 log lent)
