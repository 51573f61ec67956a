-- Where the record that the name at place i names stands in a log, by the table of positions.
use native.Mathlib.Omega.{arith}
use Rattle.order_names.proofs.Names.{place_is, place_low, named_bytes, named_table, named_some, named_few}
use Rattle.order_names.proofs.place_named.Goals as goal

pub name_at-k-requires : goal.name_at-k-requires
name_at-k-requires c = search (named_bytes)

pub position-requires : goal.position-requires
position-requires c = (search (named_table), omega arith, search (named_some), search (named_few))

pub returns : goal.returns
returns c = (search (place_is), search (place_low))
