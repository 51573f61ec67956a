-- A plan fed block by block, and what is printed then: the same as of the whole plan.
-- Document 02, K13.
-- Assumes nothing.
use Rattle.std.specs.Prelude.{ℕ, zero, suc, cond, ◌≡◌, List, eqb}
use Rattle.model.specs.File.{Fault, fault, block_at}
use Rattle.model.specs.Listing.{refused_line}
use Rattle.plan_model.specs.Plan.{plan_archive, piece_fault, piece_fault_at, Round, new_round, block_done, pieces, round_text, plan_fault, round_of, plan_text}

-- the refusal, or 0; how many blocks have passed, the archive of the first, and what the units have come to
pub record Fed : Type 0 where
  pub refusal : Fault
  pub blocks : ℕ
  pub archive : ℕ
  pub state : Round

-- nothing is fed yet
abbrev pub begun : Fed
begun = record { refusal = fault 0 0; blocks = 0; archive = 0; state = new_round }

-- the archive that a block is judged by: its own if it is the first
unfoldable pub archive_of : Fed → List ℕ → ℕ
archive_of s b = cond (eqb s.blocks 0) (plan_archive b) s.archive

-- a block that passed happens
unfoldable pub passes : Fed → ℕ → List ℕ → Fed
passes s archive b =
    record { refusal = fault 0 0; blocks = suc s.blocks; archive = archive; state = block_done archive s.state b }

-- one that did not stops the plan, and the units stay as they are
unfoldable pub stops_at : Fed → ℕ → Fed
stops_at s n = record { refusal = piece_fault_at n s.blocks; blocks = s.blocks; archive = s.archive; state = s.state }

unfoldable pub judged_fed : Fed → List ℕ → ℕ → Fed
judged_fed s b n = cond (eqb n 0) (passes s (archive_of s b) b) (stops_at s n)

-- one block, checked wholly and then done; behind a refusal nothing happens [F193]
unfoldable pub feed_of : Fed → List ℕ → Fed
feed_of s b = cond (eqb s.refusal.number 0) (judged_fed s b (piece_fault (archive_of s b) s.blocks b)) s

-- the first n blocks of a plan
unfoldable pub fed_to : List ℕ → ℕ → Fed
fed_to f zero = begun
fed_to f (suc n) = feed_of (fed_to f n) (block_at f n)

-- what is printed at the end [F193]
unfoldable pub fed_text : Fed → List ℕ
fed_text s =
    cond (eqb s.refusal.number 0)
    (round_text s.state)
    (refused_line s.refusal.number s.refusal.place)

-- a plan fed whole comes to what it is as a whole [F193]
pub record FedAsWhole (f : List ℕ) : Type 0 where
  pub text : fed_text (fed_to f (pieces f)) ≡ plan_text f
  pub refused : (fed_to f (pieces f)).refusal ≡ plan_fault f
  pub units : (plan_fault f).number ≡ 0 → (fed_to f (pieces f)).state ≡ round_of f
