-- What a reading program prints of a file, as bytes.
-- Document 01, "The reading program".
-- Assumes nothing.
use Rattle.std.specs.Prelude.{ℕ, zero, suc, ◌+◌, ◌*◌, ◌/◌, ◌%◌, Bool, true, false, cond, ◌||◌, List, [], ◌∷◌, ◌++◌, ltb, eqb, get_or, take}
use Rattle.model.specs.Bytes.{word, blank, part}
use Rattle.model.specs.Record.{text_length}
use Rattle.model.specs.Replay.{replay}
use Rattle.model.specs.Table.{table_bytes}
use Rattle.model.specs.Block.{archive_in, sender_in, vector_in}
use Rattle.model.specs.File.{checked_fault, block_at, records_counted, file_records}

-- ---- the words, in ASCII [F49]

-- "archive "
abbrev pub archive_word : List ℕ
archive_word = 97 ∷ 114 ∷ 99 ∷ 104 ∷ 105 ∷ 118 ∷ 101 ∷ 32 ∷ []

-- " unit "
abbrev pub unit_word : List ℕ
unit_word = 32 ∷ 117 ∷ 110 ∷ 105 ∷ 116 ∷ 32 ∷ []

-- " records "
abbrev pub records_word : List ℕ
records_word = 32 ∷ 114 ∷ 101 ∷ 99 ∷ 111 ∷ 114 ∷ 100 ∷ 115 ∷ 32 ∷ []

-- "seen"
abbrev pub seen_word : List ℕ
seen_word = 115 ∷ 101 ∷ 101 ∷ 110 ∷ []

-- "folder "
abbrev pub folder_word : List ℕ
folder_word = 102 ∷ 111 ∷ 108 ∷ 100 ∷ 101 ∷ 114 ∷ 32 ∷ []

-- "trace "
abbrev pub trace_word : List ℕ
trace_word = 116 ∷ 114 ∷ 97 ∷ 99 ∷ 101 ∷ 32 ∷ []

-- " in "
abbrev pub in_word : List ℕ
in_word = 32 ∷ 105 ∷ 110 ∷ 32 ∷ []

-- " disputed"
abbrev pub disputed_word : List ℕ
disputed_word = 32 ∷ 100 ∷ 105 ∷ 115 ∷ 112 ∷ 117 ∷ 116 ∷ 101 ∷ 100 ∷ []

-- "aside "
abbrev pub aside_word : List ℕ
aside_word = 97 ∷ 115 ∷ 105 ∷ 100 ∷ 101 ∷ 32 ∷ []

-- " reason "
abbrev pub reason_word : List ℕ
reason_word = 32 ∷ 114 ∷ 101 ∷ 97 ∷ 115 ∷ 111 ∷ 110 ∷ 32 ∷ []

-- " marks "
abbrev pub marks_word : List ℕ
marks_word = 32 ∷ 109 ∷ 97 ∷ 114 ∷ 107 ∷ 115 ∷ 32 ∷ []

-- " open"
abbrev pub open_word : List ℕ
open_word = 32 ∷ 111 ∷ 112 ∷ 101 ∷ 110 ∷ []

-- " settled"
abbrev pub settled_word : List ℕ
settled_word = 32 ∷ 115 ∷ 101 ∷ 116 ∷ 116 ∷ 108 ∷ 101 ∷ 100 ∷ []

-- "refused "
abbrev pub refused_word : List ℕ
refused_word = 114 ∷ 101 ∷ 102 ∷ 117 ∷ 115 ∷ 101 ∷ 100 ∷ 32 ∷ []

-- " at "
abbrev pub at_word : List ℕ
at_word = 32 ∷ 97 ∷ 116 ∷ 32 ∷ []

-- ---- numbers

-- the last digits of a number, at most k of them, with no zero in front
unfoldable pub decimal_to : ℕ → ℕ → List ℕ
decimal_to zero n = []
decimal_to (suc k) n = cond (ltb n 10) ((48 + n) ∷ []) (decimal_to k (n / 10) ++ ((48 + n % 10) ∷ []))

-- a 32-bit number in decimal [F59]
unfoldable pub decimal : ℕ → List ℕ
decimal n = decimal_to 10 n

unfoldable pub two_digits : ℕ → List ℕ
two_digits n = (48 + n / 10 % 10) ∷ (48 + n % 10) ∷ []

unfoldable pub four_digits : ℕ → List ℕ
four_digits n = (48 + n / 1000 % 10) ∷ (48 + n / 100 % 10) ∷ (48 + n / 10 % 10) ∷ (48 + n % 10) ∷ []

-- 0 to 9, a to f
unfoldable pub hex_digit : ℕ → ℕ
hex_digit n = cond (ltb n 10) (48 + n) (87 + n)

-- bytes in lower-case hexadecimal [F60]
unfoldable pub hex_text : List ℕ → List ℕ
hex_text [] = []
hex_text (x ∷ b) = hex_digit (x / 16) ∷ hex_digit (x % 16) ∷ hex_text b

-- ---- parts of a line

-- the identity in four bytes, as unit.number
unfoldable pub identity_text : List ℕ → List ℕ
identity_text b = decimal (get_or b 0 0) ++ (46 ∷ decimal (word b 2))

-- quote and backslash get a backslash before them [F53]
unfoldable pub escaped : List ℕ → List ℕ
escaped [] = []
escaped (x ∷ t) = cond (eqb x 34 || eqb x 92) (92 ∷ x ∷ escaped t) (x ∷ escaped t)

-- a label between quotes
unfoldable pub label_text : List ℕ → List ℕ
label_text t = 34 ∷ (escaped (take (text_length t) t) ++ (34 ∷ []))

-- a date in four bytes, as 2025-03-03
unfoldable pub date_text : List ℕ → List ℕ
date_text b = four_digits (word b 0) ++ (45 ∷ (two_digits (get_or b 2 0) ++ (45 ∷ two_digits (get_or b 3 0))))

-- ---- lines, each with its line feed

-- [F51]
unfoldable pub head_line : ℕ → ℕ → ℕ → List ℕ
head_line archive u n = archive_word ++ (decimal archive ++ (unit_word ++ (decimal u ++ (records_word ++ (decimal n ++ (10 ∷ []))))))

unfoldable pub counts_text : List ℕ → List ℕ
counts_text [] = []
counts_text (c ∷ v) = 32 ∷ (decimal c ++ counts_text v)

-- [F51]
unfoldable pub seen_line : List ℕ → List ℕ
seen_line v = seen_word ++ (counts_text v ++ (10 ∷ []))

-- the kind of an entry row
unfoldable pub kind_text : ℕ → List ℕ
kind_text k = cond (eqb k 1) folder_word trace_word

-- of a trace also the mark
unfoldable pub mark_text : ℕ → List ℕ → List ℕ
mark_text k b = cond (eqb k 1) [] (32 ∷ hex_text b)

unfoldable pub disputed_text : ℕ → List ℕ
disputed_text d = cond (eqb d 1) disputed_word []

-- a row of 72 bytes of the tree table [F52]
unfoldable pub entry_line : List ℕ → List ℕ
entry_line row =
    kind_text (get_or row 0 0)
    ++ (identity_text (part row 4 4)
    ++ (in_word
    ++ (identity_text (part row 8 4)
    ++ (32 ∷ (label_text (part row 24 32)
    ++ (32 ∷ (date_text (part row 20 4)
    ++ (mark_text (get_or row 0 0) (part row 56 16) ++ (disputed_text (get_or row 1 0) ++ (10 ∷ []))))))))))

-- `-` where nothing is marked
unfoldable pub marked_text : List ℕ → List ℕ
marked_text b = cond (blank b) (45 ∷ []) (identity_text b)

unfoldable pub state_text : ℕ → List ℕ
state_text s = cond (eqb s 1) open_word settled_word

-- a row of 12 bytes of the tree table [F54]
unfoldable pub aside_line : List ℕ → List ℕ
aside_line row =
    aside_word
    ++ (identity_text (part row 0 4)
    ++ (reason_word ++ (decimal (get_or row 4 0) ++ (marks_word ++ (marked_text (part row 8 4) ++ (state_text (get_or row 5 0) ++ (10 ∷ [])))))))

-- the first n entry lines of a tree table
unfoldable pub entry_lines : List ℕ → ℕ → List ℕ
entry_lines t zero = []
entry_lines t (suc n) = entry_lines t n ++ entry_line (part t (4 + 72 * n) 72)

-- the first n aside lines
unfoldable pub aside_lines : List ℕ → ℕ → List ℕ
aside_lines t zero = []
aside_lines t (suc n) = aside_lines t n ++ aside_line (part t (73732 + 12 * n) 12)

-- the entries by rank of their makers, then the asides by rank [F84]
unfoldable pub tree_lines : List ℕ → List ℕ
tree_lines t = entry_lines t (word t 0) ++ aside_lines t (word t 2)

-- [F50]
unfoldable pub refused_line : ℕ → ℕ → List ℕ
refused_line n p = refused_word ++ (decimal n ++ (at_word ++ (decimal p ++ (10 ∷ []))))

-- ---- the listing of a file

-- the two lines of the head, then those of the tree [F84]
unfoldable pub accepted_lines : List ℕ → List ℕ
accepted_lines f =
    head_line (archive_in (block_at f 0)) (sender_in (block_at f 0)) (records_counted f)
    ++ (seen_line (vector_in (block_at f 0)) ++ tree_lines (table_bytes (replay (file_records f))))

-- the lines of an accepted file, or the line of a refusal
unfoldable pub listing_of : List ℕ → List ℕ
listing_of f =
    cond (eqb (checked_fault f).number 0) (accepted_lines f) (refused_line (checked_fault f).number (checked_fault f).place)

-- what is printed of the bytes that were read: the listing, and nothing where the input could not be read to its end [F85]
unfoldable pub output_of : Bool → List ℕ → List ℕ
output_of failed f = cond failed [] (listing_of f)
