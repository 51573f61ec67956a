-- The identities from one up to another are judged, each against those before it, and linked.
use Rattle.base_ids.proofs.Ids.{ids_linked, ids_next}
use Rattle.base_ids.proofs.link_ids.Goals as goal

pub loop-i-preserved : goal.loop-i-preserved
loop-i-preserved c = (search (ids_next), search (ids_linked))
