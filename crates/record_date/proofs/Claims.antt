-- Claim R2: the test of dates says exactly what it should.
-- Assumes nothing.
use Prim.Native.Nat.{ℕ, ◌%◌, ◌≤◌}
use native.Mathlib.Omega.{arith}
use mathlib.Core.Path.{◌≡◌, refl}
use mathlib.Core.Logic.{inl, inr, ⊎_elim, ◌↔◌}
use mathlib.Core.Bool.{Bool, true, false, not, ◌&&◌, ◌||◌}
use lib.Dec.{leb, eqb}
use borrow.Author.Tests.{leb-true, eqb-true, eqb-false, le-leb, eq-eqb, ne_eqb, not-true}
use Rattle.model.specs.Date.{is_leap, days_of, is_date}
use Rattle.byte_slice.proofs.Numbers.{eq_or_ne, and_true, or_true, bool_cases}
use Rattle.record_date.proofs.Date.{short_or_not, february_leap, february, short_month, other_month, long_month}
use Rattle.record_date.specs.RealDate.{Leap, Short, HasDay, RealDate}
use Rattle.record_date.specs.RealDate.HasDay.{of_28, of_29, of_30, of_31}

-- ---- leap years

leap_means : (y : ℕ) → is_leap y ≡ true → Leap y
unfolding is_leap
leap_means y e =
    let (a, b) = and_true (eqb (y % 4) 0) (not (eqb (y % 100) 0) || eqb (y % 400) 0) e in
    (eqb-true (y % 4) 0 a, ⊎_elim (λ h. inl (eqb-false (y % 100) 0 (not-true (eqb (y % 100) 0) h))) (λ h. inr (eqb-true (y % 400) 0 h)) (or_true (not (eqb (y % 100) 0)) (eqb (y % 400) 0) b))

leap_is : (y : ℕ) → Leap y → is_leap y ≡ true
unfolding is_leap
leap_is y (a, b) = ⊎_elim
    (λ h. rw (eq-eqb (y % 4) 0 a, ne_eqb (y % 100) 0 h))
    (λ h. rw (eq-eqb (y % 4) 0 a, eq-eqb (y % 400) 0 h) (go (eqb (y % 100) 0)))
    b
  where
    go : (t : Bool) → (not t || true) ≡ true
    go true = refl
    go false = refl

pub leap_exact : (y : ℕ) → is_leap y ≡ true ↔ Leap y
leap_exact y = (leap_means y, leap_is y)

-- ---- dates

short_range : (m : ℕ) → Short m → (1 ≤ m) × (m ≤ 12)
short_range m = ⊎_elim (λ e. (omega arith, omega arith)) (⊎_elim (λ e. (omega arith, omega arith)) (⊎_elim (λ e. (omega arith, omega arith)) (λ e. (omega arith, omega arith))))

-- a day within the days of a month is a day that the month has, and there is such a month
day_means : (y m d : ℕ) → 1 ≤ d → d ≤ days_of y m → (1 ≤ m) × (m ≤ 12) × HasDay y m d
day_means y m d lo hi = ⊎_elim february_day (λ n. ⊎_elim short_day (other_day n) (short_or_not m)) (eq_or_ne m 2)
  where
    february_day : m ≡ 2 → (1 ≤ m) × (m ≤ 12) × HasDay y m d
    february_day e = ⊎_elim
        (λ l. (omega arith, omega arith, of_29 e (leap_means y l) (omega (arith, february_leap y m e refl l))))
        (λ l. (omega arith, omega arith, of_28 e (omega (arith, february y m e refl l))))
        (bool_cases (is_leap y))

    short_day : Short m → (1 ≤ m) × (m ≤ 12) × HasDay y m d
    short_day s = ((short_range m s).0, (short_range m s).1, of_30 s (omega (arith, short_month y m s)))

    other_day : (m ≡ 2 → ⊥) → (Short m → ⊥) → (1 ≤ m) × (m ≤ 12) × HasDay y m d
    other_day n s = go (leb 1 m && leb m 12) refl
      where
        go : (t : Bool) → (leb 1 m && leb m 12) ≡ t → (1 ≤ m) × (m ≤ 12) × HasDay y m d
        go true e =
            let (p, q) = and_true (leb 1 m) (leb m 12) e in
            let a = leb-true 1 m p in
            let b = leb-true m 12 q in
            (a, b, of_31 n s (omega (arith, long_month y m n s a b)))
        go false e = absurd (let z : 0 ≡ days_of y m = rw e at (other_month y m n s) in omega arith)

has_day : (y m d : ℕ) → 1 ≤ m → m ≤ 12 → HasDay y m d → d ≤ days_of y m
has_day y m d lo hi (of_28 e h) = ⊎_elim (λ l. omega (arith, february_leap y m e refl l)) (λ l. omega (arith, february y m e refl l)) (bool_cases (is_leap y))
has_day y m d lo hi (of_29 e l h) = omega (arith, february_leap y m e refl (leap_is y l))
has_day y m d lo hi (of_30 s h) = omega (arith, short_month y m s)
has_day y m d lo hi (of_31 n s h) = omega (arith, long_month y m n s lo hi)

pub date_means : (y m d : ℕ) → is_date y m d ≡ true → RealDate y m d
unfolding is_date
date_means y m d e =
    let (a, f) = and_true (leb 1990 y) (leb y 2199 && (leb 1 d && leb d (days_of y m))) e in
    let (b, g) = and_true (leb y 2199) (leb 1 d && leb d (days_of y m)) f in
    let (p, q) = and_true (leb 1 d) (leb d (days_of y m)) g in
    let h = leb-true 1 d p in
    let k = day_means y m d h (leb-true d (days_of y m) q) in
    record { year_from = leb-true 1990 y a; year_to = leb-true y 2199 b; month_from = k.0; month_to = k.1; day_from = h; day_to = k.2 }

pub real_date : (y m d : ℕ) → RealDate y m d → is_date y m d ≡ true
unfolding is_date
real_date y m d r =
    rw (le-leb 1990 y r.year_from, le-leb y 2199 r.year_to, le-leb 1 d r.day_from, le-leb d (days_of y m) (has_day y m d r.month_from r.month_to r.day_to))

-- R2
pub date_exact : (y m d : ℕ) → is_date y m d ≡ true ↔ RealDate y m d
date_exact y m d = (date_means y m d, real_date y m d)
