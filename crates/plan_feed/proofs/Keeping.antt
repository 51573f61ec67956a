-- A plan on its way: feeding keeps the units good and the numbers small.
-- Assumes nothing.
use Prim.Native.Nat.{ℕ, suc, ◌+◌, ◌*◌, ◌≤◌, ◌<◌}
use native.Mathlib.Omega.{arith}
use mathlib.Core.Path.{◌≡◌, refl, sym, subst, ◌∙◌}
use mathlib.Core.Logic.{⊎_elim}
use mathlib.Core.List.{List}
use lib.Dec.{eqb}
use lib.ListN.{replicate}
use borrow.Author.Tests.{eqb-true}
use Rattle.model.specs.File.{fault}
use Rattle.byte_slice.proofs.Numbers.{cond_cases}
use Rattle.plan_model.specs.Plan.{piece_fault, Round, round}
use Rattle.plan_model.specs.Feed.{Fed, begun, archive_of, passes, stops_at, judged_fed, feed_of}
use Rattle.plan_units.proofs.Logs.{units_new}
use Rattle.plan_units.proofs.Holding.{accepted_piece}
use Rattle.plan_round.proofs.Rounds.{block_goes}
use Rattle.plan_feed.specs.Going.{fed, Going}

pub going_new : Going begun
going_new = record { units = units_new; few = omega arith; skipped = omega arith }

going_on : (s : Fed) (b : List ℕ) → Going s → piece_fault (archive_of s b) s.blocks b ≡ 0 → Going (passes s (archive_of s b) b)
unfolding passes
going_on s b g h =
    let (k, _, p) = accepted_piece (archive_of s b) s.blocks b h in
    let (x, y) = block_goes (archive_of s b) s.state b g.units p in
    record { units = x; few = omega arith; skipped = omega (arith, g.skipped) }

going_judged : (s : Fed) (b : List ℕ) → Going s → Going (judged_fed s b (piece_fault (archive_of s b) s.blocks b))
unfolding judged_fed stops_at
going_judged s b g =
    let x : ℕ = piece_fault (archive_of s b) s.blocks b in
    ⊎_elim
    (λ c. subst Going (sym c.1) (going_on s b g (eqb-true x 0 c.0)))
    (λ c. subst Going (sym c.1) (record { units = g.units; few = g.few; skipped = g.skipped }))
    (cond_cases (eqb x 0) (passes s (archive_of s b) b) (stops_at s x))

pub going_fed : (s : Fed) (b : List ℕ) → Going s → Going (feed_of s b)
unfolding feed_of
going_fed s b g =
    ⊎_elim
    (λ c. subst Going (sym c.1) (going_judged s b g))
    (λ c. subst Going (sym c.1) g)
    (cond_cases (eqb s.refusal.number 0) (judged_fed s b (piece_fault (archive_of s b) s.blocks b)) s)
