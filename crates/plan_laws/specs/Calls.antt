-- The events of a plan one after another, and the calls that they come to on the plain machine of demand 3.
-- Document 02, K13.
-- Assumes nothing.
use Rattle.std.specs.Prelude.{ℕ, zero, suc, Bool, true, cond, ◌&&◌, List, [], ◌∷◌, ◌++◌, eqb, replicate}
use Rattle.model.specs.Lengths.{block_size, tree_size}
use Rattle.model.specs.Block.{count_in}
use Rattle.model.specs.File.{block_at}
use Rattle.plan_model.specs.Plan.{event_at, event_kind, event_unit, event_other, event_wish, event_done, Round, new_round, true_vector, act_answer, act_tried, pieces, plan_archive}
use Rattle.machine.specs.Machine.{Call, acts, hands_out, takes, Bench, done, next}

-- ---- the events

-- the n events of a block from event i on
unfoldable pub events_from : List ℕ → ℕ → ℕ → List (List ℕ)
events_from b i zero = []
events_from b i (suc n) = event_at b i ∷ events_from b (suc i) n

-- those of the n blocks from block k on
unfoldable pub plan_events_from : List ℕ → ℕ → ℕ → List (List ℕ)
plan_events_from f k zero = []
plan_events_from f k (suc n) = events_from (block_at f k) 0 (count_in (block_at f k)) ++ plan_events_from f (suc k) n

unfoldable pub plan_events : List ℕ → List (List ℕ)
plan_events f = plan_events_from f 0 (pieces f)

unfoldable pub after_events : ℕ → Round → List (List ℕ) → Round
after_events archive s [] = s
after_events archive s (e ∷ l) = after_events archive (event_done archive s e) l

-- how many of them are acts
unfoldable pub acts_in : List (List ℕ) → ℕ
acts_in [] = 0
acts_in (e ∷ l) = cond (eqb (event_kind e) 1) (suc (acts_in l)) (acts_in l)

-- ---- their calls

-- of an act that is not skipped the act, of a skipped one none
unfoldable pub act_calls : Round → ℕ → List ℕ → List Call
act_calls s u w =
    cond (eqb (act_answer s.made (act_tried s.logs u w)) 0) (acts u w (replicate tree_size 0) ∷ []) []

-- of a pass the hand_out to the true vector and the take of the block, which is the n-th given
unfoldable pub pass_calls : Round → ℕ → ℕ → ℕ → List Call
pass_calls s n a b = hands_out a (true_vector s.logs b) (replicate block_size 0) ∷ takes b n ∷ []

unfoldable pub event_calls : Round → ℕ → List ℕ → List Call
event_calls s n e =
    cond (eqb (event_kind e) 1) (act_calls s (event_unit e) (event_wish e)) (pass_calls s n (event_unit e) (event_other e))

-- how many blocks are given then
unfoldable pub given_after : ℕ → List ℕ → ℕ
given_after n e = cond (eqb (event_kind e) 1) n (suc n)

unfoldable pub calls_from : ℕ → Round → ℕ → List (List ℕ) → List Call
calls_from archive s n [] = []
calls_from archive s n (e ∷ l) = event_calls s n e ++ calls_from archive (event_done archive s e) (given_after n e) l

-- the calls of a plan that are not skipped
unfoldable pub plan_calls : List ℕ → List Call
plan_calls f = calls_from (plan_archive f) new_round 0 (plan_events f)

-- every call answers 0
unfoldable pub answers_zero : ℕ → Bench → List Call → Bool
answers_zero archive t [] = true
answers_zero archive t (c ∷ cs) = eqb (done archive t c).number 0 && answers_zero archive (next archive t c) cs
