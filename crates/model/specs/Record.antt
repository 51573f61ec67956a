-- The 80-byte record: its fields, and when it is well formed.
-- Document 01, "Units, identities, vectors" and "The 80-byte record".
-- Assumes nothing.
use Rattle.std.specs.Prelude.{ℕ, zero, suc, ◌+◌, ◌-◌, ◌*◌, ◌/◌, ◌%◌, Bool, true, false, cond, not, ◌&&◌, ◌||◌, List, [], ◌∷◌, leb, eqb, get_or, length, take, drop}
use Rattle.model.specs.Bytes.{word, blank, part}
use Rattle.model.specs.Vector.{vector_at}
use Rattle.model.specs.Date.{is_date}

-- a record is its bytes
abbrev pub Rec : Type 0
Rec = List ℕ

-- the identity unit.number as one number; units are below 8, and the root 0.0 is 0 [F61]
unfoldable pub identity : ℕ → ℕ → ℕ
identity u n = 8 * n + u

-- the unit and the number of an identity
abbrev pub unit_of : ℕ → ℕ
unit_of k = k % 8

abbrev pub number_of : ℕ → ℕ
number_of k = k / 8

abbrev pub root : ℕ
root = 0

-- ---- the fields [F55]

unfoldable pub unit : Rec → ℕ
unit r = get_or r 0 0

-- 1 make folder, 2 make trace, 3 store, 4 remove, 5 rename, 6 settle, 7 move
unfoldable pub op : Rec → ℕ
op r = get_or r 1 0

unfoldable pub num : Rec → ℕ
num r = word r 2

-- of the maker's vector just before, the count of unit u [F13]
unfoldable pub seen : Rec → ℕ → ℕ
seen r u = word r (4 + 2 * u)

-- the maker's vector just before
unfoldable pub seen_vector : Rec → List ℕ
seen_vector r = vector_at r 4

-- the identity in the four bytes at a place: unit, zero, number
unfoldable pub identity_at : Rec → ℕ → ℕ
identity_at r at = identity (get_or r at 0) (word r (at + 2))

-- the record's own identity; of a make it is also the new entry's
unfoldable pub self_of : Rec → ℕ
self_of r = identity (unit r) (num r)

unfoldable pub object_of : Rec → ℕ
object_of r = identity_at r 20

unfoldable pub folder_of : Rec → ℕ
folder_of r = identity_at r 24

unfoldable pub date_bytes : Rec → List ℕ
date_bytes r = part r 28 4

unfoldable pub label_of : Rec → List ℕ
label_of r = part r 32 32

unfoldable pub mark_of : Rec → List ℕ
mark_of r = part r 64 16

-- ---- labels

-- how many bytes stand before the first zero
unfoldable pub text_length : List ℕ → ℕ
text_length [] = 0
text_length (x ∷ t) = cond (eqb x 0) 0 (suc (text_length t))

-- every byte is hexadecimal 20 to 7E
unfoldable pub printable : List ℕ → Bool
printable [] = true
printable (x ∷ t) = leb 32 x && (leb x 126 && printable t)

-- a text of at least one byte, no space first or last, then zeros [F9]
unfoldable pub is_label : List ℕ → Bool
is_label t =
    leb 1 (text_length t)
    && (printable (take (text_length t) t)
    && (not (eqb (get_or t 0 0) 32)
    && (not (eqb (get_or t (text_length t - 1) 0) 32)
    && blank (drop (text_length t) t))))

-- ---- which fields an operation uses [F56]

unfoldable pub uses_object : ℕ → Bool
uses_object o = leb 3 o

unfoldable pub uses_folder : ℕ → Bool
uses_folder o = leb o 2 || eqb o 7

unfoldable pub uses_label : ℕ → Bool
uses_label o = leb o 2 || (eqb o 5 || eqb o 7)

unfoldable pub uses_mark : ℕ → Bool
uses_mark o = eqb o 2 || eqb o 3

-- ---- well formed

-- an unused field is zero [F10]
unfoldable pub unused : Rec → ℕ → ℕ → Bool
unused r at n = blank (part r at n)

-- an identity is named at a place: unit 0 to 7, a zero byte, a number of at least 1 and within seen [F5]
unfoldable pub names : Rec → ℕ → Bool
names r at =
    leb (get_or r at 0) 7
    && (eqb (get_or r (at + 1) 0) 0
    && (leb 1 (word r (at + 2)) && leb (word r (at + 2)) (seen r (get_or r at 0))))

unfoldable pub object_fits : Rec → Bool
object_fits r = cond (uses_object (op r)) (names r 20) (unused r 20 4)

-- only as folder the root is allowed [F6]
unfoldable pub folder_fits : Rec → Bool
folder_fits r = cond (uses_folder (op r)) (unused r 24 4 || names r 24) (unused r 24 4)

unfoldable pub label_fits : Rec → Bool
label_fits r = cond (uses_label (op r)) (is_label (label_of r)) (unused r 32 32)

-- [F12]
unfoldable pub mark_fits : Rec → Bool
mark_fits r = cond (uses_mark (op r)) true (unused r 64 16)

unfoldable pub date_fits : Rec → Bool
date_fits r = is_date (word r 28) (get_or r 30 0) (get_or r 31 0)

-- unit, operation and number, and seen at the own unit is the number minus 1 [F3] [F4]
unfoldable pub head_fits : Rec → Bool
head_fits r =
    leb (unit r) 7
    && (leb 1 (op r) && (leb (op r) 7 && (leb 1 (num r) && eqb (seen r (unit r)) (num r - 1))))

unfoldable pub well_formed : Rec → Bool
well_formed r =
    eqb (length r) 80
    && (head_fits r && (object_fits r && (folder_fits r && (date_fits r && (label_fits r && mark_fits r)))))

-- a stroke, hexadecimal 2F, stands in a text [F94]
unfoldable pub has_stroke : List ℕ → Bool
has_stroke [] = false
has_stroke (x ∷ t) = eqb x 47 || has_stroke t
