-- The first file has the record's identity with other bytes.
use Rattle.merge_check.proofs.Loops.{unit_small, beyond_held, from_one, to_512, few_positions, inside_first, compared}
use Rattle.merge_check.proofs.clashes.Goals as goal

pub bounds-held-u : goal.bounds-held-u
bounds-held-u c = search (unit_small)

pub returns-then-held-u : goal.returns-then-held-u
returns-then-held-u c = search (beyond_held)

pub position-p-requires : goal.position-p-requires
position-p-requires c = (search (unit_small), search (from_one), search (to_512))

pub offset-at-requires : goal.offset-at-requires
offset-at-requires c = search (few_positions)

pub slice_bounds-same-end : goal.slice_bounds-same-end
slice_bounds-same-end c = search (inside_first)

pub returns : goal.returns
returns c = search (compared)
