-- A plan as a list of events: the round that they come to, and that each of an accepted plan is one.
-- Assumes nothing.
use Prim.Native.Nat.{ℕ, zero, suc}
use native.Mathlib.Omega.{arith}
use mathlib.Core.Path.{◌≡◌, refl, sym, ap, ◌∙◌}
use mathlib.Core.Logic.{⊎_elim}
use mathlib.Core.Bool.{true}
use mathlib.Core.List.{List, [], ◌∷◌, ◌++◌}
use lib.Dec.{eqb}
use borrow.Author.Tests.{eqb-true, eqb-false}
use Rattle.model.specs.Block.{count_in}
use Rattle.model.specs.File.{Fault, fault, block_at}
use Rattle.byte_slice.proofs.Numbers.{and_true, cond_cases}
use Rattle.log_laws.proofs.Members.{All, all_append}
use Rattle.plan_model.specs.Plan.{event_at, event_holds, events_hold, piece_fault, piece_fault_at, plan_archive, plan_fault_from, plan_fault, Round, new_round, event_done, events_done, block_done, blocks_done, pieces, round_of}
use Rattle.plan_units.proofs.Holding.{accepted_block, accepted_piece}
use Rattle.plan_laws.specs.Calls.{events_from, plan_events_from, plan_events, after_events}

-- ---- one after another

after-append : (archive : ℕ) (l m : List (List ℕ)) (s : Round) → after_events archive s (l ++ m) ≡ after_events archive (after_events archive s l) m
unfolding after_events
after-append archive [] m s = refl
after-append archive (e ∷ l) m s = after-append archive l m (event_done archive s e)

block_events : (archive : ℕ) (b : List ℕ) (n i : ℕ) (s : Round) → events_done archive s b i n ≡ after_events archive s (events_from b i n)
unfolding events_done after_events events_from
block_events archive b zero i s = refl
block_events archive b (suc n) i s = block_events archive b n (suc i) (event_done archive s (event_at b i))

blocks_events : (archive : ℕ) (f : List ℕ) (n k : ℕ) (s : Round) → blocks_done archive s f k n ≡ after_events archive s (plan_events_from f k n)
unfolding blocks_done plan_events_from after_events block_done
blocks_events archive f zero k s = refl
blocks_events archive f (suc n) k s =
    let b : List ℕ = block_at f k in
    blocks_events archive f n (suc k) (block_done archive s b)
    ∙ ap (λ (t : Round). after_events archive t (plan_events_from f (suc k) n)) (block_events archive b (count_in b) 0 s)
    ∙ sym (after-append archive (events_from b 0 (count_in b)) (plan_events_from f (suc k) n) s)

pub round_events : (f : List ℕ) → round_of f ≡ after_events (plan_archive f) new_round (plan_events f)
unfolding round_of plan_events
round_events f = blocks_events (plan_archive f) f (pieces f) 0 new_round

-- ---- each is one

abbrev pub Event : List ℕ → Type 0
Event e = event_holds e ≡ true

block_holds : (b : List ℕ) (n i : ℕ) → events_hold b i n ≡ true → All Event (events_from b i n)
unfolding events_hold events_from
block_holds b zero i h = tt
block_holds b (suc n) i h = let (a, r) = and_true (event_holds (event_at b i)) (events_hold b (suc i) n) h in (a, block_holds b n (suc i) r)

blocks_hold : (f : List ℕ) (n k : ℕ) → (plan_fault_from f k n).number ≡ 0 → All Event (plan_events_from f k n)
unfolding plan_fault_from plan_events_from fault
blocks_hold f zero k h = tt
blocks_hold f (suc n) k h =
    let b : List ℕ = block_at f k in
    let x : ℕ = piece_fault (plan_archive f) k b in
    ⊎_elim
    (λ c.
    let (_, _, p) = accepted_piece (plan_archive f) k b (eqb-true x 0 c.0) in
    all_append Event (events_from b 0 (count_in b)) (plan_events_from f (suc k) n) (block_holds b (count_in b) 0 (accepted_block (plan_archive f) b p).events)
    (blocks_hold f n (suc k) (ap (λ (y : Fault). y.number) (sym c.1) ∙ h)))
    (λ c. absurd (eqb-false x 0 c.0 (ap (λ (y : Fault). y.number) (sym c.1) ∙ h)))
    (cond_cases (eqb x 0) (plan_fault_from f (suc k) n) (piece_fault_at x k))

pub events_hold_lem : (f : List ℕ) → (plan_fault f).number ≡ 0 → All Event (plan_events f)
unfolding plan_fault plan_events
events_hold_lem f h = blocks_hold f (pieces f) 0 h
