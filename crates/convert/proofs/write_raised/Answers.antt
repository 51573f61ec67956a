-- The row of an empty base, then the records of an SAB1 file without a fault, then zeros; the count of blocks is returned.
use mathlib.Core.Path.{◌≡◌}
use lib.ListN.{length}
use Rattle.convert.proofs.Raised.{total_inside, blocks_enough, raised_blocks, raised}
use borrow.Author.Rules.{rules}
use Rattle.convert.proofs.write_raised.Goals as goal

pub recast-requires : goal.recast-requires
recast-requires c = (search rules, search rules, search (total_inside), search (blocks_enough), search rules, search rules, search rules)

pub returns-clause-counted : goal.returns-clause-counted
returns-clause-counted c = search (raised_blocks)

pub returns-clause-written : goal.returns-clause-written
returns-clause-written c =
    let long : length c.recast.new.out ≡ 95232 = search rules in
    search (raised, long)
