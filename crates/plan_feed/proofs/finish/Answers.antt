-- What is printed at the end, into the lent text.
use Rattle.plan_feed.proofs.Feeding.{units_are, prints_refusal, prints_round}
use Rattle.plan_lines.proofs.Lengths.{refused_fits, round_fits}
use Rattle.plan_feed.proofs.finish.Goals as goal

pub refused_line-requires : goal.refused_line-requires
refused_line-requires c = search (refused_fits)

pub returns-then-f-ne0 : goal.returns-then-f-ne0
returns-then-f-ne0 c = search (prints_refusal)

pub round_text-requires : goal.round_text-requires
round_text-requires c = (search (units_are), search (round_fits))

pub returns : goal.returns
returns c = search (prints_round)
