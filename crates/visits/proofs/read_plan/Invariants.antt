-- Every block fed keeps the plan on its way.
use Rattle.plan_model.specs.Plan.{round}
use Rattle.plan_feed.specs.Going.{fed, Going}
use Rattle.visits.proofs.read_plan.Given as goal

abbrev pub invariant-loop : goal.invariant-loop
invariant-loop g l = Going (fed l.f.number l.f.place l.f.blocks l.f.archive (round l.logs l.f.tally.made l.f.tally.skipped))
