-- Folding: what each unit has heard, the longest run that counts, and what folding answers and leaves.
-- Document 02, K10.
-- Assumes nothing.
use Rattle.std.specs.Prelude.{ℕ, zero, suc, Bool, true, false, cond, not, ◌&&◌, ◌||◌, List, [], ◌∷◌, leb, eqb, get_or, length, take, drop, set}
use Rattle.std.proofs.Math.Option.{Option, none, some}
use Rattle.model.specs.Numbers.{first_of, unlisted}
use Rattle.model.specs.Lengths.{tree_size, base_places}
use Rattle.model.specs.Record.{Rec, unit, num, seen_vector}
use Rattle.model.specs.Log.{vector_on, all_to, records_of, log_bytes}
use Rattle.model.specs.Replay.{Tree, present_ones, trim, replay_from}
use Rattle.base_model.specs.Base.{Base, is_listed, lists_all, base_bytes, base_in, base_vector, held_on}
use Rattle.call_model.specs.Outcome.{Outcome, outcome, or_refused, guard_number, guarded, work_after}

-- ---- what each unit has heard

-- the last record of unit w
unfoldable pub last_of : ℕ → List Rec → Option Rec
last_of w [] = none
last_of w (r ∷ l) = elim (last_of w l) [ none ↦ cond (eqb (unit r) w) (some r) none | some s ↦ some s ]

-- the seen of a last record with that record counted, or the base vector where there is none
unfoldable pub heard_from : List ℕ → Option Rec → List ℕ
heard_from v none = v
heard_from v (some r) = set (seen_vector r) (unit r) (num r)

-- what the unit w has heard, as the unit u can tell: of u itself it is the held vector [F134]
unfoldable pub heard_by : ℕ → List ℕ → List Rec → ℕ → List ℕ
heard_by u v l w = cond (eqb w u) (vector_on v l) (heard_from v (last_of w l))

-- a record is within what every listed unit has heard [F135]
unfoldable pub heard_by_all : ℕ → ℕ → List ℕ → List Rec → Rec → Bool
heard_by_all m u v l r = all_to 8 (λ w. not (is_listed m w) || leb (num r) (get_or (heard_by u v l w) (unit r) 0))

-- of the records l, how many from the first on are heard by all; all is the whole log [F135]
unfoldable pub heard_run : ℕ → ℕ → List ℕ → List Rec → List Rec → ℕ
heard_run m u v all [] = 0
heard_run m u v all (r ∷ l) = cond (heard_by_all m u v all r) (suc (heard_run m u v all l)) 0

-- ---- the run

-- a run of n counts: its base has at most 512 entries and 512 asides [F136]
unfoldable pub counts_as_base : Tree → List Rec → ℕ → Bool
counts_as_base t l n =
    leb (length (present_ones (replay_from t (take n l)).entries)) base_places
    && leb (length (replay_from t (take n l)).asides) base_places

-- the longest run of at most n that counts; a shorter one between may not [F136]
unfoldable pub longest : Tree → List Rec → ℕ → ℕ
longest t l zero = 0
longest t l (suc n) = cond (counts_as_base t l (suc n)) (suc n) (longest t l n)

-- how many records the unit u folds by the list m: v and t its base, l its log [F136]
unfoldable pub run_of : ℕ → ℕ → List ℕ → Tree → List Rec → ℕ
run_of m u v t l = longest t l (heard_run m u v l l)

-- ---- the base afterwards

-- the list given; vector, tree and asides as they are after the first n records [F137]
unfoldable pub folded_base : ℕ → List ℕ → Tree → List Rec → ℕ → Base
folded_base m v t l n = record { list = m; vector = vector_on v (take n l); tree = trim (replay_from t (take n l)) }

-- ---- the call

-- the list m has the own unit u, and each unit with a record in the held vector, folded or not [F139]
unfoldable pub list_fits : ℕ → ℕ → List ℕ → Bool
list_fits m u v = is_listed m u && lists_all m v

abbrev pub list_number : ℕ → ℕ → List ℕ → ℕ
list_number m u v = cond (list_fits m u v) 0 unlisted

-- how many records of a state are folded
abbrev pub run_in : ℕ → ℕ → List ℕ → List ℕ → ℕ
run_in m u log base = run_of m u (base_vector base) (base_in base).tree (records_of log)

-- the first n records leave the log and go into the base; the list is kept also where n is 0 [F137] [F138]
unfoldable pub folded : ℕ → List ℕ → List ℕ → ℕ → Outcome
folded m log base n =
    outcome 0 0 (log_bytes (drop n (records_of log))) (base_bytes (folded_base m (base_vector base) (base_in base).tree (records_of log) n)) n

-- 26 with the list given [F139]
unfoldable pub fold_by : ℕ → ℕ → List ℕ → List ℕ → Outcome
fold_by m u log base = or_refused (list_number m u (held_on log base)) log base (folded m log base (run_in m u log base))

-- 1, 21, 19 with the list that is stored, then that [F139]
unfoldable pub fold_of : ℕ → List ℕ → List ℕ → ℕ → List ℕ → Outcome
fold_of u log base m work = guarded u log base base (eqb (length work) tree_size) (fold_by m u log base)

-- what folding leaves in the work memory: the table after the run, or as it was where folding is refused [F152]
unfoldable pub fold_work : ℕ → List ℕ → List ℕ → ℕ → List ℕ → List ℕ
fold_work u log base m work =
    work_after
    (first_of (guard_number u log base (eqb (length work) tree_size) true) (list_number m u (held_on log base)))
    (replay_from (base_in base).tree (take (run_in m u log base) (records_of log)))
    work
