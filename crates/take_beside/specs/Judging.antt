-- The records of a block judged one after another beside those held behind a base vector, by the tables and by the records held. The list m
-- names units.
-- Assumes nothing.
use Rattle.std.specs.Prelude.{ℕ, zero, suc, ◌+◌, ◌-◌, ◌*◌, ◌≤◌, ◌<◌, ◌≡◌, cond, List, ltb, leb, eqb, get_or, set}
use Rattle.model.specs.Numbers.{malformed, not_next, other_bytes, full_log, unlisted, below_base}
use Rattle.model.specs.Bytes.{same_bytes, put_at}
use Rattle.model.specs.Record.{Rec, unit, num, seen_vector, well_formed}
use Rattle.model.specs.Vector.{covers}
use Rattle.model.specs.Block.{count_in, record_at, block_records}
use Rattle.base_model.specs.Base.{is_listed}
use Rattle.call_model.specs.Outcome.{refused, taken, take_one, takes_all}
use Rattle.log_closure.specs.Tables.{slot_of, position_of, join_fault}
use Rattle.log_check.specs.declared.Layout.TheVariants.{Log}
use Rattle.log_check.specs.Places.{laid_at}

-- ---- by the tables

-- the record at a position: below 512 that of the log, from there on that of the block
unfoldable pub held_at : List ℕ → List ℕ → ℕ → Rec
held_at log block p = cond (ltb p 512) (laid_at Log log p) (record_at block (p - 512))

-- what a record of a block comes to: its number, and what is held then
pub record Step : Type 0 where
  pub number : ℕ
  pub held : List ℕ
  pub used : ℕ
  pub places : List ℕ
  pub seens : List ℕ

abbrev pub step : ℕ → List ℕ → ℕ → List ℕ → List ℕ → Step
step n held used places seens = record { number = n; held = held; used = used; places = places; seens = seens }

-- no unit has more records than there are
pub record Counted (base held : List ℕ) (used : ℕ) : Type 0 where
  pub behind : (u : ℕ) → u < 8 → get_or base u 0 ≤ get_or held u 0
  pub within : (u : ℕ) → u < 8 → get_or held u 0 ≤ get_or base u 0 + used

-- 10 of a record whose identity is held, or 0; one that comes before is passed over
unfoldable pub held_by : List ℕ → (ℕ → Rec) → List ℕ → Rec → ℕ
held_by base at places r =
    cond (leb (num r) (get_or base (unit r) 0))
    0
    (cond (same_bytes (at (position_of places (unit r) (num r - get_or base (unit r) 0))) r) 0 other_bytes)

-- the first of 8, 27, 9 and 11 that holds of a record whose identity is not held, or 0
unfoldable pub new_by : List ℕ → List ℕ → ℕ → List ℕ → List ℕ → Rec → ℕ
new_by base held used places seens r =
    cond (eqb (join_fault base held places seens r) not_next)
    not_next
    (cond (covers (seen_vector r) base)
    (cond (eqb (join_fault base held places seens r) 0) (cond (ltb used 512) 0 full_log) (join_fault base held places seens r))
    below_base)

-- a new record is refused, or held at the position p
unfoldable pub new_step : List ℕ → Rec → ℕ → List ℕ → ℕ → List ℕ → List ℕ → Step
new_step base r p held used places seens =
    cond (eqb (new_by base held used places seens r) 0)
    (step 0 (set held (unit r) (get_or held (unit r) 0 + 1)) (used + 1) (set places (slot_of (unit r) (num r - get_or base (unit r) 0)) p) (put_at seens (8 * p) (seen_vector r)))
    (step (new_by base held used places seens r) held used places seens)

-- 7, 26, then 10 if held, else 8, 27, 9, 11
unfoldable pub take_by : ℕ → List ℕ → (ℕ → Rec) → Rec → ℕ → List ℕ → ℕ → List ℕ → List ℕ → Step
take_by m base at r p held used places seens =
    cond (well_formed r)
    (cond (is_listed m (unit r))
    (cond (leb (num r) (get_or held (unit r) 0)) (step (held_by base at places r) held used places seens) (new_step base r p held used places seens))
    (step unlisted held used places seens))
    (step malformed held used places seens)

-- the n records of a block from j on, one after another, up to the first that is refused
unfoldable pub judge_from : ℕ → List ℕ → List ℕ → List ℕ → ℕ → ℕ → List ℕ → ℕ → List ℕ → List ℕ → Step
judge_from m base log block j zero held used places seens = step 0 held used places seens
judge_from m base log block j (suc n) held used places seens =
    let t : Step = take_by m base (held_at log block) (record_at block j) (512 + j) held used places seens in
    cond (eqb t.number 0) (judge_from m base log block (suc j) n t.held t.used t.places t.seens) t

-- the number of a block, and the tables as judging it leaves them
pub record Judgement : Type 0 where
  pub number : ℕ
  pub places : List ℕ
  pub seens : List ℕ

abbrev pub judgement : ℕ → List ℕ → List ℕ → Judgement
judgement n places seens = record { number = n; places = places; seens = seens }

unfoldable pub judge_of : ℕ → List ℕ → List ℕ → List ℕ → ℕ → List ℕ → ℕ → List ℕ → List ℕ → Judgement
judge_of m base log block n held used places seens =
    let s : Step = judge_from m base log block 0 n held used places seens in
    judgement s.number s.places s.seens

-- a block with a fault of its own is not judged further
unfoldable pub judge_given : ℕ → List ℕ → ℕ → List ℕ → List ℕ → List ℕ → ℕ → List ℕ → List ℕ → Judgement
judge_given m base fault log block held used places seens =
    cond (eqb fault 0) (judge_of m base log block (count_in block) held used places seens) (judgement fault places seens)

-- ---- by the records held

-- the records held after a record; those held before if it is refused
unfoldable pub after : ℕ → List ℕ → List Rec → Rec → List Rec
after m base l r = elim (take_one m base l r) [ refused n ↦ l | taken k ↦ k ]

-- the records held after the first n records of a block
unfoldable pub after_to : ℕ → List ℕ → List Rec → (ℕ → Rec) → ℕ → List Rec
after_to m base l at zero = l
after_to m base l at (suc n) = after m base (after_to m base l at n) (at n)

-- what judging a block gives: the number of its refusal, or 0 if it is taken
pub record JudgeGives (m : ℕ) (base : List ℕ) (l : List Rec) (block : List ℕ) (count number : ℕ) : Type 0 where
  pub refuses : (number ≡ 0 → ⊥) → takes_all m base l (block_records block) ≡ refused number
  pub accepts : number ≡ 0 → takes_all m base l (block_records block) ≡ taken (after_to m base l (record_at block) count)
