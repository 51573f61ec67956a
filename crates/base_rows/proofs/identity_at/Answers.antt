-- The identity in the four bytes at a place.
use Rattle.model.specs.Record.{identity, identity_at}
use Rattle.base_rows.proofs.identity_at.Goals as goal

pub returns : goal.returns
unfolding identity_at identity
returns c = cc
