-- The greatest length of what is printed of a plan.
-- Assumes nothing.
use Prim.Native.Nat.{ℕ, zero, suc, ◌+◌, ◌-◌, ◌*◌, ◌≤◌, ◌<◌}
use native.Mathlib.Omega.{arith}
use mathlib.Core.Path.{◌≡◌}
use mathlib.Core.Logic.{⊎_elim}
use mathlib.Core.Bool.{Bool, true, false, cond}
use mathlib.Core.List.{List, [], ◌∷◌, ◌++◌}
use lib.ListN.{length, get_or, length-append}
use Rattle.model.specs.Record.{Rec}
use Rattle.model.specs.Vector.{covers, compare_of}
use Rattle.model.specs.Log.{count, records_of}
use Rattle.model.specs.Listing.{decimal, seen_word, counts_text, seen_line, refused_line}
use Rattle.base_model.specs.Base.{empty_base, base_vector}
use Rattle.line_text.proofs.Decimal.{decimal-length, one_digit}
use Rattle.log_laws.proofs.Counts.{count-nil, count-cons, no_counts_lem}
use Rattle.log_laws.proofs.Tests.{vector_on-length, vector_on_get_d}
use Rattle.encoding_laws.proofs.Logs.{sound_few}
use Rattle.listing_laws.proofs.Texts.{three_digits}
use Rattle.listing_laws.proofs.Lines.{refused_line_length}
use Rattle.line_text.specs.Written.{Wrote}
use Rattle.call_laws.proofs.States.{empty_vector}
use Rattle.plan_model.specs.Plan.{Round, round, log_at, true_vector, answer_word, skipped_start, unit_line, pair_line, skipped_line, unit_lines, pairs_of, pair_lines, round_text}

-- ---- the counts of a log

count_few : (u : ℕ) (l : List Rec) → count u l ≤ length l
count_few u [] = omega (arith, count-nil u)
count_few u (r ∷ l) = ⊎_elim (λ k. omega (arith, k.1, count_few u l)) (λ k. omega (arith, k.1, count_few u l)) (count-cons u r l)

pub true_small : (s : List ℕ) (u w : ℕ) → w < 8 → get_or (true_vector s u) w 0 < 1000
unfolding true_vector
true_small s u w h =
    let l : List Rec = records_of (log_at s u) in
    let z : get_or (base_vector empty_base) w 0 ≡ 0 = rw empty_vector (no_counts_lem w) in
    omega (arith, vector_on_get_d (base_vector empty_base) l w h, count_few w l, sound_few (log_at s u))

pub true_length : (s : List ℕ) (u : ℕ) → length (true_vector s u) ≡ 8
unfolding true_vector
true_length s u = vector_on-length (base_vector empty_base) (records_of (log_at s u))

-- ---- lines

counts_short : (v : List ℕ) → ((i : ℕ) → i < length v → get_or v i 0 < 1000) → length (counts_text v) ≤ 4 * length v
unfolding counts_text
counts_short [] h = omega arith
counts_short (c ∷ v) h =
    omega (
      arith,
      length-append (decimal c) (counts_text v),
      three_digits c (h 0 (omega arith)),
      counts_short v (λ i k. h (suc i) (omega arith)),
    )

unit_line_short : (s : List ℕ) (u : ℕ) → u < 8 → length (unit_line u (true_vector s u)) ≤ 44
unfolding unit_line seen_line
unit_line_short s u h =
    let v : List ℕ = true_vector s u in
    let n = true_length s u in
    omega (
      arith,
      length-append (decimal u) (32 ∷ (seen_word ++ (counts_text v ++ (10 ∷ [])))),
      length-append (counts_text v) (10 ∷ []),
      one_digit u (omega arith),
      counts_short v (λ i k. true_small s u i (omega arith)),
    )

answer_of_lem : (x y : Bool) → cond x (cond y 0 1) (cond y 2 3) < 10
answer_of_lem true true = omega arith
answer_of_lem true false = omega arith
answer_of_lem false true = omega arith
answer_of_lem false false = omega arith

answer_small : (v w : List ℕ) → compare_of v w < 10
unfolding compare_of
answer_small v w = answer_of_lem (covers v w) (covers w v)

pair_line_short : (a b n : ℕ) → a < 10 → b < 10 → n < 10 → length (pair_line a b n) ≤ 18
unfolding pair_line
pair_line_short a b n ha hb hn =
    omega (
      arith,
      length-append (decimal a) (32 ∷ (decimal b ++ (answer_word ++ (decimal n ++ (10 ∷ []))))),
      length-append (decimal b) (answer_word ++ (decimal n ++ (10 ∷ []))),
      length-append (decimal n) (10 ∷ []),
      one_digit a ha,
      one_digit b hb,
      one_digit n hn,
    )

-- ---- line behind line

unit_lines_short : (s : List ℕ) (n : ℕ) → n ≤ 8 → length (unit_lines s n) ≤ 44 * n
unfolding unit_lines
unit_lines_short s zero h = omega arith
unit_lines_short s (suc n) h =
    omega (arith, length-append (unit_lines s n) (unit_line n (true_vector s n)), unit_lines_short s n (omega arith), unit_line_short s n (omega arith))

pairs_short : (s : List ℕ) (a n : ℕ) → a + n < 10 → length (pairs_of s a n) ≤ 18 * n
unfolding pairs_of
pairs_short s a zero h = omega arith
pairs_short s a (suc n) h =
    let k : ℕ = compare_of (true_vector s a) (true_vector s (a + suc n)) in
    omega (
      arith,
      length-append (pairs_of s a n) (pair_line a (a + suc n) k),
      pairs_short s a n (omega arith),
      pair_line_short a (a + suc n) k (omega arith) (omega arith) (answer_small (true_vector s a) (true_vector s (a + suc n))),
    )

-- 7, 6, 5 pairs and so on
pair_lines_short : (s : List ℕ) → length (pair_lines s 8) ≤ 504
unfolding pair_lines
pair_lines_short s =
    let p : (n : ℕ) → n < 8 → length (pair_lines s (suc n)) ≤ length (pair_lines s n) + 18 * (7 - n) =
    λ n h. omega (arith, length-append (pair_lines s n) (pairs_of s n (7 - n)), pairs_short s n (7 - n) (omega arith)) in
    omega (arith, p 0 (omega arith), p 1 (omega arith), p 2 (omega arith), p 3 (omega arith), p 4 (omega arith), p 5 (omega arith), p 6 (omega arith), p 7 (omega arith))

-- ---- the text of a round

-- 8 lines of at most 44, 28 of 18, one of at most 19
pub round_text_short : (s : Round) → length (round_text s) ≤ 875
unfolding round_text skipped_line
round_text_short s =
    let k : ℕ = s.skipped in
    omega (
      arith,
      length-append (unit_lines s.logs 8) (pair_lines s.logs 8 ++ (skipped_start ++ (decimal k ++ (10 ∷ [])))),
      length-append (pair_lines s.logs 8) (skipped_start ++ (decimal k ++ (10 ∷ []))),
      length-append (decimal k) (10 ∷ []),
      unit_lines_short s.logs 8 (omega arith),
      pair_lines_short s.logs,
      decimal-length k,
    )

-- ---- either text has room, and its length is a number of 16 bits

pub refused_fits : (n p : ℕ) (text : List ℕ) → length text ≡ 1024 → 0 + length (refused_line n p) ≤ length text
refused_fits n p text e = omega (arith, refused_line_length n p)

pub round_fits : (s : List ℕ) (k : ℕ) (text : List ℕ) → length text ≡ 1024 → length (round_text (round s 0 k)) ≤ length text
round_fits s k text e = omega (arith, round_text_short (round s 0 k))

pub refused_end : (n p : ℕ) {a b : List ℕ} {r : ℕ} → Wrote a b 0 r (refused_line n p) → r < 65536
refused_end n p w = omega (arith, w.next, refused_line_length n p)

pub round_end : (s : List ℕ) (k : ℕ) {a b : List ℕ} {r : ℕ} → Wrote a b 0 r (round_text (round s 0 k)) → r < 65536
round_end s k w = omega (arith, w.next, round_text_short (round s 0 k))
