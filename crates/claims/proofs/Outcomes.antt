-- What the outcome of each call is made of, by the call.
-- Assumes nothing.
use Prim.Native.Nat.{ℕ, zero, suc, ◌≤◌, ◌<◌}
use native.Mathlib.Omega.{arith}
use mathlib.Core.Path.{◌≡◌, refl, sym, ap, ◌∙◌}
use mathlib.Core.Bool.{Bool, true, false, cond, ◌&&◌}
use mathlib.Core.List.{List, []}
use lib.Dec.{leb, eqb}
use lib.ListN.{length, replicate}
use Rattle.model.specs.Numbers.{first_of}
use Rattle.model.specs.Bytes.{padded}
use Rattle.model.specs.Log.{records_of}
use Rattle.model.specs.Table.{table_bytes}
use Rattle.model.specs.Block.{block_records, given_fault}
use Rattle.model.specs.File.{block_count, file_of}
use Rattle.base_model.specs.Base.{Base, empty_base, base_vector, base_in, held_on, sound_state, tree_of}
use Rattle.call_model.specs.Outcome.{Outcome, outcome, refusal, or_refused, early_number, guard_number, guarded, start_of, act_number, acted, act_lent, act_of, hand_block, asked_number, handed, hand_of, whole_number, written, write_of, Took, refused, taken, takes_all, took_all, took_block, take_of, show_of}
use Rattle.call_model.specs.Fold.{list_number, run_in, folded, fold_by, fold_of}
use Rattle.call_laws.specs.Keeps.{Good}
use Rattle.call_laws.proofs.Calls.{guard_good}

-- ---- what an outcome is made of, by the call

-- no count
abbrev pub uncounted : Outcome → Outcome
uncounted o = outcome o.number o.place o.log o.lent 0

-- nothing lent for writing, no count
abbrev pub changing : Outcome → Outcome
changing o = outcome o.number o.place o.log [] 0

pub changing_uncounted : (o : Outcome) → changing o ≡ o → uncounted o ≡ o
changing_uncounted o c = ap uncounted (sym c) ∙ c

-- the log as it was, no count
abbrev pub reading : List ℕ → Outcome → Outcome
reading log o = outcome o.number o.place log o.lent 0

-- the log as it was
abbrev pub writing : List ℕ → Outcome → Outcome
writing log o = outcome o.number o.place log o.lent o.blocks

-- place 0
abbrev pub folding : Outcome → Outcome
folding o = outcome o.number 0 o.log o.lent o.blocks

-- ---- numbers below 256

pub number_cond : (b : Bool) (x y : ℕ) → x < 256 → y < 256 → cond b x y < 256
number_cond true x y h k = h
number_cond false x y h k = k

pub first_few : (m n : ℕ) → m < 256 → n < 256 → first_of m n < 256
first_few zero n h k = k
first_few (suc m) n h k = h

pub early_few : (u : ℕ) (log base : List ℕ) (ok row : Bool) → early_number u log base ok row < 256
early_few u log base ok row =
    number_cond (eqb (length log) 40960 && (eqb (length base) 43032 && ok)) (cond (leb u 7) (cond row 0 2) 21) 1
    (number_cond (leb u 7) (cond row 0 2) 21 (number_cond row 0 2 (omega arith) (omega arith)) (omega arith)) (omega arith)

pub guard_few : (u : ℕ) (log base : List ℕ) (ok row : Bool) → guard_number u log base ok row < 256
guard_few u log base ok row =
    first_few (early_number u log base ok row) (cond (sound_state log base) 0 19) (early_few u log base ok row)
    (number_cond (sound_state log base) 0 19 (omega arith) (omega arith))

-- ---- what holds of refusals, and of an outcome where what is asked before passes, holds behind it

pub behind_number : (P : Outcome → Type 0) (n : ℕ) (log lent : List ℕ) (o : Outcome) → n < 256 → ((k : ℕ) → k < 256 → P (refusal k log lent)) → (n ≡ 0 → P o) → P (or_refused n log lent o)
behind_number P zero log lent o k f h = h refl
behind_number P (suc n) log lent o k f h = f (suc n) k

-- the checks 1, 21 and 19
pub behind : (P : Outcome → Type 0) (u : ℕ) (log base lent : List ℕ) (ok : Bool) (o : Outcome)
    → ((n : ℕ) → n < 256 → P (refusal n log lent)) → (ok ≡ true → u ≤ 7 → Good log base → P o) → P (guarded u log base lent ok o)
unfolding guarded
behind P u log base lent ok o f h =
    behind_number P (guard_number u log base ok true) log lent o (guard_few u log base ok true) f
    (λ z. let (a, b, _, g) = guard_good u log base ok true z in h a b g)

-- 27 of a hand_out, 29 of a file, 26 of a fold
pub asked_few : (b : Bool) (n : ℕ) → n < 256 → cond b 0 n < 256
asked_few b n k = number_cond b 0 n (omega arith) k

-- ---- the calls

pub start_made : (u : ℕ) (log base : List ℕ) → uncounted (start_of u log base) ≡ start_of u log base
unfolding start_of
start_made u log base =
    behind_number (λ o. uncounted o ≡ o) (early_number u log base true true) log base (outcome 0 0 (replicate 40960 0) empty_base 0)
    (early_few u log base true true) (λ n k. refl) (λ z. refl)

pub act_made : (u : ℕ) (log base w work : List ℕ) → changing (act_of u log base w work) ≡ act_of u log base w work
unfolding act_of acted
act_made u log base w work =
    behind (λ o. changing o ≡ o) u log base [] (act_lent w work) (acted u log (base_vector base) w answer) (λ n k. refl) (λ a b g. go answer)
  where
    answer : ℕ
    answer = act_number (base_in base).list u (base_vector base) (base_in base).tree (records_of log) w

    go : (n : ℕ) → changing (acted u log (base_vector base) w n) ≡ acted u log (base_vector base) w n
    go zero = refl
    go (suc n) = refl

pub take_made : (archive u : ℕ) (log base b : List ℕ) → changing (take_of archive u log base b) ≡ take_of archive u log base b
unfolding take_of took_block took_all
take_made archive u log base b =
    behind (λ o. changing o ≡ o) u log base [] true (took_block log base b (given_fault archive b)) (λ n k. refl) (λ a c g. block (given_fault archive b))
  where
    records : (t : Took) → changing (took_all log t) ≡ took_all log t
    records (refused n) = refl
    records (taken m) = refl

    block : (n : ℕ) → changing (took_block log base b n) ≡ took_block log base b n
    block zero = records (takes_all (base_in base).list (base_vector base) (records_of log) (block_records b))
    block (suc n) = refl

pub hand_made : (archive u : ℕ) (log base v lent : List ℕ) → reading log (hand_of archive u log base v lent) ≡ hand_of archive u log base v lent
unfolding hand_of handed
hand_made archive u log base v lent =
    behind (λ o. reading log o ≡ o) u log base lent (eqb (length lent) 512) (handed archive u log base v lent) (λ n k. refl) (λ a b g. go (asked_number v (base_vector base)))
  where
    out : Outcome
    out = outcome 0 0 log (hand_block archive u (held_on log base) (records_of log) v) 0

    go : (n : ℕ) → reading log (or_refused n log lent out) ≡ or_refused n log lent out
    go zero = refl
    go (suc n) = refl

pub write_made : (archive u : ℕ) (log base lent : List ℕ) → writing log (write_of archive u log base lent) ≡ write_of archive u log base lent
unfolding write_of written
write_made archive u log base lent =
    behind (λ o. writing log o ≡ o) u log base lent (eqb (length lent) 44032) (written archive u log base lent) (λ n k. refl) (λ a b g. go (whole_number (base_vector base)))
  where
    out : Outcome
    out = outcome 0 0 log (padded 44032 (file_of archive u (records_of log))) (block_count (length (records_of log)))

    go : (n : ℕ) → writing log (or_refused n log lent out) ≡ or_refused n log lent out
    go zero = refl
    go (suc n) = refl

pub fold_made : (u : ℕ) (log base : List ℕ) (m : ℕ) (work : List ℕ) → folding (fold_of u log base m work) ≡ fold_of u log base m work
unfolding fold_of fold_by folded
fold_made u log base m work =
    behind (λ o. folding o ≡ o) u log base base (eqb (length work) 86020) (fold_by m u log base) (λ n k. refl) (λ a b g. go (list_number m u (held_on log base)))
  where
    go : (n : ℕ) → folding (or_refused n log base (folded m log base (run_in m u log base))) ≡ or_refused n log base (folded m log base (run_in m u log base))
    go zero = refl
    go (suc n) = refl

pub show_made : (log base lent : List ℕ) → reading log (show_of log base lent) ≡ show_of log base lent
unfolding show_of
show_made log base lent =
    behind (λ o. reading log o ≡ o) 0 log base lent (eqb (length lent) 86020)
    (outcome 0 0 log (table_bytes (tree_of log base)) 0) (λ n k. refl) (λ a b g. refl)
