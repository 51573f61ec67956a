-- What trying a plan returns and leaves, with the length of the text in four lent bytes.
-- Assumes nothing.
use Rattle.std.specs.Prelude.{ℕ, cond, List, eqb, length}
use Rattle.model.specs.Numbers.{bad_buffer}
use Rattle.model.specs.Bytes.{four}
use Rattle.plan_model.specs.Plan.{Planned, planned_of}
use Rattle.sab_words.specs.Words.{packed}

-- the word returned; logs, base, work memory, text and the four bytes of its length as they are left
pub record PlanTold : Type 0 where
  pub word : ℕ
  pub logs : List ℕ
  pub base : List ℕ
  pub work : List ℕ
  pub text : List ℕ
  pub size : List ℕ

abbrev pub plan_told : ℕ → List ℕ → List ℕ → List ℕ → List ℕ → List ℕ → PlanTold
plan_told w logs base work text size =
    record { word = w; logs = logs; base = base; work = work; text = text; size = size }

-- the length of the text; number 1 leaves the bytes lent for it
unfoldable pub size_told : Planned → List ℕ → List ℕ
size_told p size = cond (eqb p.number bad_buffer) size (four p.size)

-- the place of a plan's block stands where other calls have a count: it may be above 255
unfoldable pub told_plan : Planned → List ℕ → PlanTold
told_plan p size =
    plan_told (packed p.number 0 p.place) p.logs p.base p.work p.text (size_told p size)

unfoldable pub plan_told_of : List ℕ → List ℕ → List ℕ → List ℕ → List ℕ → List ℕ → PlanTold
plan_told_of f logs base work text size =
    cond (eqb (length size) 4)
    (told_plan (planned_of f logs base work text) size)
    (plan_told (packed bad_buffer 0 0) logs base work text size)
