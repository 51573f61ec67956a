-- The first of 5, 6 and 30 that holds of a block, or 0; the archive is the first block's.
use Rattle.std.proofs.Common.{◌∙◌}
use Rattle.plan_block.proofs.Blocks.{bad_header_lem, few_events, other_archive_lem, bad_event_lem, no_fault}
use borrow.Author.Rules.{rules}
use Rattle.plan_block.proofs.body_fault.Goals as goal

pub returns-then-not-header_holds : goal.returns-then-not-header_holds
returns-then-not-header_holds c = search (bad_header_lem)

pub returns-then-archive_in-archive : goal.returns-then-archive_in-archive
returns-then-archive_in-archive c = search (other_archive_lem)

pub events_hold-requires : goal.events_hold-requires
events_hold-requires c = (search rules, search (few_events, c.from-n.ensures ∙ c.count_in.ensures))

pub returns-then-not-events_hold : goal.returns-then-not-events_hold
returns-then-not-events_hold c = search (bad_event_lem, c.from-n.ensures ∙ c.count_in.ensures)

pub returns : goal.returns
returns c = search (no_fault, c.from-n.ensures ∙ c.count_in.ensures)
