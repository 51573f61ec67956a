-- Real Gregorian dates of 1990 to 2199. They are shown and order nothing.
-- Document 01, "The 80-byte record".
-- Assumes nothing.
use Rattle.std.specs.Prelude.{ℕ, ◌%◌, Bool, true, false, cond, not, ◌&&◌, ◌||◌, leb, eqb}

-- leap years divide by 4, not by 100 unless by 400 [F8]
unfoldable pub is_leap : ℕ → Bool
is_leap y = eqb (y % 4) 0 && (not (eqb (y % 100) 0) || eqb (y % 400) 0)

-- the days of a month; 0 where there is no such month
unfoldable pub days_of : ℕ → ℕ → ℕ
days_of y m =
    cond (eqb m 2) (cond (is_leap y) 29 28)
    (cond (eqb m 4 || (eqb m 6 || (eqb m 9 || eqb m 11))) 30
    (cond (leb 1 m && leb m 12) 31 0))

-- [F7]
unfoldable pub is_date : ℕ → ℕ → ℕ → Bool
is_date y m d = leb 1990 y && (leb y 2199 && (leb 1 d && leb d (days_of y m)))
