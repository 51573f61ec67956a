-- The block of 512 bytes: its layout, its two sums, and the checks 3, 4 and 5.
-- Document 01, "Log, blocks and file"; the order of the checks, "When a call says no".
-- Assumes nothing.
use Rattle.std.specs.Prelude.{ℕ, zero, suc, ◌+◌, ◌-◌, ◌*◌, ◌%◌, Bool, true, false, cond, ◌&&◌, List, [], ◌∷◌, ◌++◌, leb, eqb, get_or, length, take}
use Rattle.model.specs.Numbers.{bad_length, bad_letters, bad_sum, bad_header, other_archive}
use Rattle.model.specs.Lengths.{block_size}
use Rattle.model.specs.Bytes.{word, long, two, four, blank, same_bytes, part, padded, joined}
use Rattle.model.specs.Vector.{vector_at, vector_bytes}
use Rattle.model.specs.Record.{Rec}

-- ---- the sums

-- the first sum after n words: each word is added modulo 65,521 [F30]
unfoldable pub first_to : List ℕ → ℕ → ℕ
first_to b zero = 0
first_to b (suc n) = (first_to b n + word b (2 * n)) % 65521

-- the second: the first sum after each word is added modulo 65,521 [F30]
unfoldable pub second_to : List ℕ → ℕ → ℕ
second_to b zero = 0
second_to b (suc n) = (second_to b n + first_to b (suc n)) % 65521

-- ---- writing

-- the letters SAB1
abbrev pub letters : List ℕ
letters = 83 ∷ 65 ∷ 66 ∷ 49 ∷ []

pub record Header : Type 0 where
  pub archive : ℕ
  pub sender : ℕ
  pub place : ℕ
  pub vector : List ℕ

-- the first 28 bytes, with the count of records [F57]
unfoldable pub head_bytes : Header → ℕ → List ℕ
head_bytes h n = letters ++ (four h.archive ++ ((h.sender ∷ n ∷ []) ++ (two h.place ++ vector_bytes h.vector)))

-- the 508 bytes before the sums: header and six record places, the unused ones zero [F57]
unfoldable pub body_bytes : Header → List Rec → List ℕ
body_bytes h l = head_bytes h (length l) ++ padded 480 (joined l)

-- the sums of the 254 words behind them
unfoldable pub sealed : List ℕ → List ℕ
sealed b = b ++ (two (first_to b 254) ++ two (second_to b 254))

unfoldable pub block_of : Header → List Rec → List ℕ
block_of h l = sealed (body_bytes h l)

-- ---- reading

unfoldable pub count_in : List ℕ → ℕ
count_in b = get_or b 9 0

unfoldable pub archive_in : List ℕ → ℕ
archive_in b = long b 4

unfoldable pub sender_in : List ℕ → ℕ
sender_in b = get_or b 8 0

unfoldable pub place_in : List ℕ → ℕ
place_in b = word b 10

unfoldable pub vector_in : List ℕ → List ℕ
vector_in b = vector_at b 12

-- the stored sums are those of the 254 words before them [F31] [F40]
unfoldable pub sums_hold : List ℕ → Bool
sums_hold b = eqb (word b 508) (first_to b 254) && eqb (word b 510) (second_to b 254)

-- a unit of 0 to 7, a count of 0 to 6, and zeros in the unused places [F41]
unfoldable pub header_holds : List ℕ → Bool
header_holds b =
    leb (sender_in b) 7 && (leb (count_in b) 6 && blank (part b (28 + 80 * count_in b) (480 - 80 * count_in b)))

-- the first of 3, 4 and 5 that holds of a block of 512 bytes, or 0 [F39]
unfoldable pub block_fault : List ℕ → ℕ
block_fault b =
    cond (same_bytes (take 4 b) letters)
    (cond (sums_hold b)
    (cond (header_holds b) 0 bad_header)  -- 5
    bad_sum)  -- 4
    bad_letters  -- 3

-- the record place i of a block
unfoldable pub record_at : List ℕ → ℕ → Rec
record_at b i = part b (28 + 80 * i) 80

-- the record places from i on, n of them
unfoldable pub records_from : List ℕ → ℕ → ℕ → List Rec
records_from b i zero = []
records_from b i (suc n) = record_at b i ∷ records_from b (suc i) n

-- the records of a block
unfoldable pub block_records : List ℕ → List Rec
block_records b = records_from b 0 (count_in b)

-- the first of 2 to 6 that holds of a block, or 0 [F69]
unfoldable pub given_fault : ℕ → List ℕ → ℕ
given_fault archive b =
    cond (eqb (length b) block_size)
    (cond (eqb (block_fault b) 0) (cond (eqb (archive_in b) archive) 0 other_archive) (block_fault b))  -- 6; 3, 4, 5
    bad_length  -- 2
