-- What the calls that carry an index return in their one word, and what they leave of the lent buffers.
-- Assumes nothing.
use Rattle.std.specs.Prelude.{ℕ, ◌+◌, ◌*◌, ◌/◌, ◌%◌, cond, ◌&&◌, List, [], ◌++◌, leb, eqb, length}
use Rattle.model.specs.Bytes.{two}
use Rattle.model.specs.Record.{identity}
use Rattle.index_model.specs.Index.{Found, Range, range_of}
use Rattle.index_model.specs.Kept.{Kept, RowKept}
use Rattle.sab_words.specs.Words.{packed}
use Rattle.sab_words.specs.Called.{Called, called, CalledBoth, called_both, wrong_buffer}

-- starting: the log, the index and the base as they are left
unfoldable pub told_start : Kept → CalledBoth
told_start o = called_both (packed o.number o.place 0) o.log o.index o.lent

-- acting, taking: the log, the index and the work memory
unfoldable pub told_kept : Kept → List ℕ → CalledBoth
told_kept o work = called_both (packed o.number o.place 0) o.log o.index work

-- taking a row; the count: bits 16 to 23 how many blocks were taken, 24 to 31 the number that stopped the row, or 0
unfoldable pub told_row_kept : RowKept → List ℕ → CalledBoth
told_row_kept o work = called_both (packed o.number o.place (o.taken + 256 * o.stopped)) o.log o.index work

-- the folder of a unit and a number; where these are no identity, a number that no entry has as its folder
unfoldable pub folder_asked : ℕ → ℕ → ℕ
folder_asked u n = cond (leb u 7 && leb n 65535) (identity u n) 4294967295

-- the identity found: place its unit, count its number; both 0 for none
unfoldable pub found_word : Found → ℕ
found_word o = packed o.number (o.entry % 8) (o.entry / 8 % 65536)

-- the bytes lent for the range of a listing
abbrev pub range_size : ℕ
range_size = 4

-- first row and count, in two numbers of 16 bits
unfoldable pub range_bytes : Range → List ℕ
range_bytes o = two o.first ++ two o.count

unfoldable pub told_range : List ℕ → Range → Called
told_range lent o =
    cond (eqb o.number 0) (called (packed 0 0 o.count) [] (range_bytes o)) (called (packed o.number 0 0) [] lent)

unfoldable pub listed_of : List ℕ → ℕ → List ℕ → Called
listed_of index f lent = cond (eqb (length lent) range_size) (told_range lent (range_of index f)) (wrong_buffer [] lent)
