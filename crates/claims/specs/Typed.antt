-- A call is handed, and hands back, what the types of its entry point can hold.
-- Assumes nothing.
use Rattle.std.specs.Prelude.{ℕ, ◌<◌, ◌≡◌, true, List, [], length}
use Rattle.call_model.specs.Outcome.{Outcome, act_work}
use Rattle.call_model.specs.Fold.{fold_work}
use Rattle.machine.specs.Machine.{Call, starts, acts, hands_out, writes, takes, folds, unit_of, Bench, block_given, base_left}
use Rattle.machine.specs.Callable.{is_slice, callable}

-- the block, file or base lent for writing
unfoldable pub lent_by : Bench → Call → List ℕ
lent_by s (starts u) = s.bases u
lent_by s (acts u w work) = []
lent_by s (hands_out u v lent) = lent
lent_by s (writes u lent) = lent
lent_by s (takes u n) = []
lent_by s (folds u m work) = s.bases u

-- the work memory lent, and as it is left
unfoldable pub work_by : Call → List ℕ
work_by (starts u) = []
work_by (acts u w work) = work
work_by (hands_out u v lent) = []
work_by (writes u lent) = []
work_by (takes u n) = []
work_by (folds u m work) = work

unfoldable pub work_left : Bench → Call → List ℕ
work_left s (starts u) = []
work_left s (acts u w work) = act_work u (s.logs u) (s.bases u) w work
work_left s (hands_out u v lent) = []
work_left s (writes u lent) = []
work_left s (takes u n) = []
work_left s (folds u m work) = fold_work u (s.logs u) (s.bases u) m work

-- the block taken
unfoldable pub taken_by : Bench → Call → List ℕ
taken_by s (starts u) = []
taken_by s (acts u w work) = []
taken_by s (hands_out u v lent) = []
taken_by s (writes u lent) = []
taken_by s (takes u n) = (block_given s n).bytes
taken_by s (folds u m work) = []

-- a count of blocks has 8 bits, one of records folded 16
unfoldable pub count_limit : Call → ℕ
count_limit (starts u) = 256
count_limit (acts u w work) = 256
count_limit (hands_out u v lent) = 256
count_limit (writes u lent) = 256
count_limit (takes u n) = 256
count_limit (folds u m work) = 65536

pub record Typed (archive : ℕ) (s : Bench) (c : Call) (o : Outcome) : Type 0 where
  -- handed over: an archive of 32 bits, unit, list, wish, vector and buffers, the unit's log and base, the block taken
  pub archived : archive < 4294967296
  pub called : callable c ≡ true
  pub log : is_slice (s.logs (unit_of c)) ≡ true
  pub base : is_slice (s.bases (unit_of c)) ≡ true
  pub block : is_slice (taken_by s c) ≡ true
  -- handed back: log, base and buffers as long as they were, two numbers of 8 bits, and a count
  pub log_left : (is_slice o.log ≡ true) × (length o.log ≡ length (s.logs (unit_of c)))
  pub base_left_lem : (is_slice (base_left s c o) ≡ true) × (length (base_left s c o) ≡ length (s.bases (unit_of c)))
  pub lent_left : (is_slice o.lent ≡ true) × (length o.lent ≡ length (lent_by s c))
  pub work_left_lem : (is_slice (work_left s c) ≡ true) × (length (work_left s c) ≡ length (work_by c))
  pub numbers : (o.number < 256) × (o.place < 256) × (o.blocks < count_limit c)
