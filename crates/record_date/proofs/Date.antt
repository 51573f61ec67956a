-- What the code of dates is asked at each way out, over plain values.
-- Assumes nothing.
use Prim.Native.Nat.{ℕ, ◌%◌, ◌≤◌, ◌<◌}
use native.Mathlib.Omega.{arith}
use mathlib.Core.Path.{◌≡◌, refl, ◌∙◌}
use mathlib.Core.Bool.{Bool, true, false, cond, not, ◌&&◌}
use mathlib.Core.Logic.{◌⊎◌, inl, inr, ⊎_elim}
use lib.Dec.{leb, eqb}
use borrow.Author.Tests.{eq-eqb, ne_eqb, le-leb, lt-leb}
use Rattle.model.specs.Date.{is_leap, days_of, is_date}
use Rattle.byte_slice.proofs.Numbers.{lt_or_ge, eq_or_ne, bool_cases}
use Rattle.record_date.specs.RealDate.{Short}

-- ---- leap years

module _ (y : ℕ) where
  pub leap_four : y % 4 ≡ 0 → (y % 100 ≡ 0 → ⊥) → not (eqb (y % 100) 0) ≡ is_leap y
  unfolding is_leap
  leap_four a b = rw (eq-eqb (y % 4) 0 a, ne_eqb (y % 100) 0 b)

  pub leap_hundred : y % 4 ≡ 0 → y % 100 ≡ 0 → eqb (y % 400) 0 ≡ is_leap y
  unfolding is_leap
  leap_hundred a b = rw (eq-eqb (y % 4) 0 a, eq-eqb (y % 100) 0 b)

  pub not_four : (y % 4 ≡ 0 → ⊥) → eqb (y % 4) 0 ≡ is_leap y
  unfolding is_leap
  not_four a = rw (ne_eqb (y % 4) 0 a)

-- ---- the days of a month

pub short_or_not : (m : ℕ) → Short m ⊎ (Short m → ⊥)
short_or_not m =
    ⊎_elim (λ e. inl (inl e)) (λ n4.
    ⊎_elim (λ e. inl (inr (inl e))) (λ n6.
    ⊎_elim (λ e. inl (inr (inr (inl e)))) (λ n9.
    ⊎_elim (λ e. inl (inr (inr (inr e)))) (λ n11.
    inr (⊎_elim n4 (⊎_elim n6 (⊎_elim n9 n11))))
    (eq_or_ne m 11)) (eq_or_ne m 9)) (eq_or_ne m 6)) (eq_or_ne m 4)

-- the months that the match of `days` looks up one by one in its last range
abbrev Key : ℕ → Type 0
Key m = (m ≡ 1) ⊎ ((m ≡ 3) ⊎ ((m ≡ 5) ⊎ ((m ≡ 10) ⊎ (m ≡ 12))))

module _ (y m : ℕ) where
  pub february_leap : {r : Bool} → m ≡ 2 → r ≡ is_leap y → r ≡ true → 29 ≡ days_of y m
  unfolding days_of
  february_leap e f g = rw (e, ← f, g)

  pub february : {r : Bool} → m ≡ 2 → r ≡ is_leap y → r ≡ false → 28 ≡ days_of y m
  unfolding days_of
  february e f g = rw (e, ← f, g)

  pub short_month : Short m → 30 ≡ days_of y m
  unfolding days_of
  short_month = ⊎_elim (λ e. rw e) (⊎_elim (λ e. rw e) (⊎_elim (λ e. rw e) (λ e. rw e)))

  pub other_month : (m ≡ 2 → ⊥) → (Short m → ⊥) → cond (leb 1 m && leb m 12) 31 0 ≡ days_of y m
  unfolding days_of
  other_month n s =
      rw (ne_eqb m 2 n, ne_eqb m 4 (λ e. s (inl e)), ne_eqb m 6 (λ e. s (inr (inl e))), ne_eqb m 9 (λ e. s (inr (inr (inl e)))), ne_eqb m 11 (λ e. s (inr (inr (inr e)))))

  pub long_month : (m ≡ 2 → ⊥) → (Short m → ⊥) → 1 ≤ m → m ≤ 12 → 31 ≡ days_of y m
  long_month n s lo hi = rw (le-leb 1 m lo, le-leb m 12 hi) at (other_month n s)

  -- the tests by which the match finds its way; behind single months a range is looked up by the keys that are left
  not_short_below : m < 1 → Short m → ⊥
  not_short_below h = ⊎_elim (λ e. omega arith) (⊎_elim (λ e. omega arith) (⊎_elim (λ e. omega arith) (λ e. omega arith)))

  pub before_months : m < 1 → 0 ≡ days_of y m
  before_months h = rw (lt-leb 1 m h) at (other_month (omega arith) (not_short_below h))

  pub behind_months : (m ≡ 2 → ⊥) → (Short m → ⊥) → 9 ≤ m → (Key m → ⊥) → 0 ≡ days_of y m
  behind_months n s lo k =
      let n9 : m ≡ 9 → ⊥ = λ e. s (inr (inr (inl e))) in
      let n10 : m ≡ 10 → ⊥ = λ e. k (inr (inr (inr (inl e)))) in
      let n11 : m ≡ 11 → ⊥ = λ e. s (inr (inr (inr e))) in
      let n12 : m ≡ 12 → ⊥ = λ e. k (inr (inr (inr (inr e)))) in
      let h : 12 < m = omega arith in
      rw (le-leb 1 m (omega arith), lt-leb m 12 h) at (other_month n s)

  pub key_month : Key m → 31 ≡ days_of y m
  unfolding days_of
  key_month = ⊎_elim (λ e. rw e) (⊎_elim (λ e. rw e) (⊎_elim (λ e. rw e) (⊎_elim (λ e. rw e) (λ e. rw e))))

  pub july_august : (m ≡ 2 → ⊥) → (Short m → ⊥) → 1 ≤ m → m < 9 → 31 ≡ days_of y m
  july_august n s lo hi = long_month n s lo (omega arith)

  not_short_above : 12 < m → Short m → ⊥
  not_short_above h = ⊎_elim (λ e. omega arith) (⊎_elim (λ e. omega arith) (⊎_elim (λ e. omega arith) (λ e. omega arith)))

  after_months : 12 < m → 0 ≡ days_of y m
  after_months h = rw (le-leb 1 m (omega arith), lt-leb m 12 h) at (other_month (omega arith) (not_short_above h))

-- ---- the days of a month in a year that is not leap, as 1990

common_year : is_leap 1990 ≡ false
unfolding is_leap
common_year = refl

module _ (m : ℕ) where
  pub common_february : m ≡ 2 → 28 ≡ days_of 1990 m
  common_february e = february 1990 m e refl common_year

  any_year : (y : ℕ) → (m ≡ 2 → ⊥) → days_of y m ≡ days_of 1990 m
  unfolding days_of
  any_year y n = rw (ne_eqb m 2 n)

  -- a year has no fewer
  no_fewer : (y : ℕ) → days_of 1990 m ≤ days_of y m
  no_fewer y =
      ⊎_elim
      (λ (e : m ≡ 2).
      ⊎_elim (λ l. omega (arith, common_february e, february_leap y m e refl l)) (λ l. omega (arith, common_february e, february y m e refl l)) (bool_cases (is_leap y)))
      (λ (n : m ≡ 2 → ⊥). omega (arith, any_year y n))
      (eq_or_ne m 2)

-- ---- a date

module _ (y m d : ℕ) where
  pub too_early : y < 1990 → false ≡ is_date y m d
  unfolding is_date
  too_early a = rw (lt-leb 1990 y a)

  pub too_late : 1990 ≤ y → 2199 < y → false ≡ is_date y m d
  unfolding is_date
  too_late a b = rw (le-leb 1990 y a, lt-leb y 2199 b)

  no_days : 1990 ≤ y → y ≤ 2199 → 0 ≡ days_of y m → false ≡ is_date y m d
  unfolding is_date
  no_days a b e = rw (le-leb 1990 y a, le-leb y 2199 b) (go (lt_or_ge d 1))
    where
      go : (d < 1) ⊎ (1 ≤ d) → false ≡ (leb 1 d && leb d (days_of y m))
      go (inl h) = rw (lt-leb 1 d h)
      go (inr h) = rw (le-leb 1 d h, lt-leb d (days_of y m) (omega arith))

  pub month_below : 1990 ≤ y → y ≤ 2199 → m < 1 → false ≡ is_date y m d
  month_below a b h = no_days a b (before_months y m h)

  pub month_above : 1990 ≤ y → y ≤ 2199 → 12 < m → false ≡ is_date y m d
  month_above a b h = no_days a b (after_months y m h)

  pub no_day : 1990 ≤ y → y ≤ 2199 → d < 1 → false ≡ is_date y m d
  unfolding is_date
  no_day a b e = rw (le-leb 1990 y a, le-leb y 2199 b, lt-leb 1 d e)

  module _ (a : 1990 ≤ y) (b : y ≤ 2199) (e : 1 ≤ d) where
    day_in : d ≤ days_of y m → true ≡ is_date y m d
    unfolding is_date
    day_in h = rw (le-leb 1990 y a, le-leb y 2199 b, le-leb 1 d e, le-leb d (days_of y m) h)

    day_out : days_of y m < d → false ≡ is_date y m d
    unfolding is_date
    day_out h = rw (le-leb 1990 y a, le-leb y 2199 b, le-leb 1 d e, lt-leb d (days_of y m) h)

    module _ (n : ℕ) (f : n ≡ days_of 1990 m) where
      pub day_within : d ≤ n → true ≡ is_date y m d
      day_within h = day_in (omega (arith, no_fewer m y))

      pub day_above : n < d → (m ≡ 2 → ⊥) → false ≡ is_date y m d
      day_above h k = day_out (omega (arith, any_year m y k))

      module _ (h : n < d) (k : m ≡ 2) where
        pub february_above : (d ≡ 29 → ⊥) → false ≡ is_date y m d
        february_above g =
            let c = common_february m k in
            ⊎_elim (λ l. day_out (omega (arith, february_leap y m k refl l))) (λ l. day_out (omega (arith, february y m k refl l))) (bool_cases (is_leap y))

        pub leap_day : d ≡ 29 → (r : Bool) → r ≡ is_leap y → r ≡ is_date y m d
        leap_day g r q =
            ⊎_elim
            (λ (l : is_leap y ≡ true). q ∙ l ∙ day_in (omega (arith, february_leap y m k refl l)))
            (λ (l : is_leap y ≡ false). q ∙ l ∙ day_out (omega (arith, february y m k refl l)))
            (bool_cases (is_leap y))

-- what the goals of this crate ask for
pub ruleset ways = (leap_four, leap_hundred, not_four, common_february, short_month, key_month, july_august, before_months, behind_months, too_early, too_late, month_below, month_above, no_day, day_within, day_above, february_above, leap_day)
