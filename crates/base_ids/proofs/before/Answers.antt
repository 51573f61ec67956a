-- Of the first i identities the last that is k, and one; 0 for none.
use Rattle.base_ids.proofs.Ids.{seek_starts, seek_low, seek_goes, seek_found, seek_ends}
use Rattle.base_ids.proofs.before.Goals as goal

pub loop-q-init : goal.loop-q-init
loop-q-init c = search (seek_starts)

pub returns-then-id_at-k-clause-place : goal.returns-then-id_at-k-clause-place
returns-then-id_at-k-clause-place c = search (seek_found)

pub loop-q-smaller : goal.loop-q-smaller
loop-q-smaller c = search (seek_low)

pub loop-q-preserved : goal.loop-q-preserved
loop-q-preserved c = search (seek_goes)

pub returns-clause-place : goal.returns-clause-place
returns-clause-place c = search (seek_ends)
