-- Rank, the records of a log, closure, and the sound log.
-- Document 01, "The 80-byte record" (closed), "Rank and replay" (rank), "Log, blocks and file" (sound).
-- Assumes nothing.
use Rattle.std.specs.Prelude.{ℕ, zero, suc, ◌+◌, ◌-◌, ◌*◌, Bool, true, false, cond, ◌&&◌, List, [], ◌∷◌, ◌++◌, ltb, leb, eqb, get_or, length, take, drop, replicate}
use Rattle.std.proofs.Math.Option.{Option, none, some}
use Rattle.model.specs.Numbers.{malformed, not_next, not_closed, bad_file}
use Rattle.model.specs.Bytes.{blank, padded, joined}
use Rattle.model.specs.Vector.{covers}
use Rattle.model.specs.Record.{Rec, unit, num, seen, seen_vector, well_formed}

-- ---- rank

-- f 0 + .. + f (n - 1)
abbrev pub sum_to : ℕ → (ℕ → ℕ) → ℕ
sum_to zero f = 0
sum_to (suc n) f = sum_to n f + f n

-- the sum of the eight seen counts, then the unit number: units are below 8 [F11] [F15]
unfoldable pub rank : Rec → ℕ
rank r = 8 * sum_to 8 (seen r) + unit r

-- r put in by rank, behind what ranks no higher [F71]
unfoldable pub insert : Rec → List Rec → List Rec
insert r [] = r ∷ []
insert r (x ∷ l) = cond (ltb (rank r) (rank x)) (r ∷ x ∷ l) (x ∷ insert r l)

-- ---- what a list of records holds

-- how many records of unit u there are
unfoldable pub count : ℕ → List Rec → ℕ
count u [] = 0
count u (r ∷ l) = cond (eqb (unit r) u) (suc (count u l)) (count u l)

-- the record counts of the first n units
unfoldable pub counts_to : List Rec → ℕ → List ℕ
counts_to l zero = []
counts_to l (suc n) = counts_to l n ++ (count n l ∷ [])

-- the record counts [F36]
unfoldable pub vector_of : List Rec → List ℕ
vector_of l = counts_to l 8

-- ---- records behind a base vector: of each unit as many records come before

-- no record comes before
abbrev pub no_counts : List ℕ
no_counts = replicate 8 0

-- of unit u, the records that come before and those of the list
abbrev pub count_on : List ℕ → ℕ → List Rec → ℕ
count_on v u l = get_or v u 0 + count u l

-- these counts of the first n units
unfoldable pub counts_on_to : List ℕ → List Rec → ℕ → List ℕ
counts_on_to v l zero = []
counts_on_to v l (suc n) = counts_on_to v l n ++ (count_on v n l ∷ [])

-- these counts of the eight units
unfoldable pub vector_on : List ℕ → List Rec → List ℕ
vector_on v l = counts_on_to v l 8

-- the record u.c
unfoldable pub by_id : ℕ → ℕ → List Rec → Option Rec
by_id u c [] = none
by_id u c (r ∷ l) = cond (eqb (unit r) u && eqb (num r) c) (some r) (by_id u c l)

-- ---- a record beside those held, behind the base vector v

-- the number is one above the held records of its unit [F46]
unfoldable pub is_next : List ℕ → List Rec → Rec → Bool
is_next v l r = eqb (num r) (suc (count_on v (unit r) l))

-- seen is within the held counts [F46]
unfoldable pub is_within : List ℕ → List Rec → Rec → Bool
is_within v l r = covers (vector_on v l) (seen_vector r)

unfoldable pub all_to : ℕ → (ℕ → Bool) → Bool
all_to zero p = true
all_to (suc n) p = all_to n p && p n

-- the seen of the record s is nowhere above that of r. None does not come: of a seen that is within, asked before, u.c is held
unfoldable pub nowhere_above : Rec → Option Rec → Bool
nowhere_above r none = true
nowhere_above r (some s) = covers (seen_vector r) (seen_vector s)

-- for each unit u with count c above that of v, the seen of record u.c is nowhere above it [F14] [F47]
unfoldable pub is_closed : List ℕ → List Rec → Rec → Bool
is_closed v l r = all_to 8 (λ u. cond (leb (seen r u) (get_or v u 0)) true (nowhere_above r (by_id u (seen r u) l)))

-- ranks above the record just before; the records before stand last first [F45]
unfoldable pub rises : List Rec → Rec → Bool
rises [] r = true
rises (s ∷ l) r = ltb (rank s) (rank r)

-- ---- a sound log

-- the first of 7, 20, 8 and 9 that holds of a record behind others, or 0; the records before stand last first [F44]
unfoldable pub record_fault : List ℕ → List Rec → Rec → ℕ
record_fault v pre r =
    cond (well_formed r)
    (cond (rises pre r)
    (cond (is_next v pre r && is_within v pre r)
    (cond (is_closed v pre r) 0 not_closed)  -- 9
    not_next)  -- 8
    bad_file)  -- 20
    malformed  -- 7

-- well formed and closed, in rising rank, each number next, each seen within the counts before it
unfoldable pub sound_after : List ℕ → List Rec → List Rec → Bool
sound_after v pre [] = true
sound_after v pre (r ∷ l) = eqb (record_fault v pre r) 0 && sound_after v (r ∷ pre) l

-- the records of up to n places of 80 bytes, up to the first place that is all zero
unfoldable pub records_in : ℕ → List ℕ → List Rec
records_in zero b = []
records_in (suc n) b = cond (blank (take 80 b)) [] (take 80 b ∷ records_in n (drop 80 b))

-- the records of a lent log [F37]
unfoldable pub records_of : List ℕ → List Rec
records_of b = records_in 512 b

-- behind the base vector v: the records are sound and the unused places are zero [F63] [F130]
unfoldable pub sound_log_on : List ℕ → List ℕ → Bool
sound_log_on v b = sound_after v [] (records_of b) && blank (drop (80 * length (records_of b)) b)

-- with no record before [F63]
unfoldable pub sound_log : List ℕ → Bool
sound_log b = sound_log_on no_counts b

-- the 40,960 bytes of a log
unfoldable pub log_bytes : List Rec → List ℕ
log_bytes l = padded 40960 (joined l)

-- ---- what another lacks

-- the records that the vector v lacks [F72]
unfoldable pub lacking : List ℕ → List Rec → List Rec
lacking v [] = []
lacking v (r ∷ l) = cond (ltb (get_or v (unit r) 0) (num r)) (r ∷ lacking v l) (lacking v l)
