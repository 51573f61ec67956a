-- The first n blocks of so many records that stand in blocks are written anew, from a place of the lent file on.
use Rattle.write_sab2.proofs.Placed.{run_none, run_all}
use Rattle.convert.proofs.Anew.{recast_begun, recast_more}
use borrow.Author.Rules.{rules}
use Rattle.convert.proofs.recast.Goals as goal

pub loop-k-init : goal.loop-k-init
loop-k-init c = (search rules, search (run_none))

pub recast_block-b-requires : goal.recast_block-b-requires
recast_block-b-requires c = (search rules, search rules, search rules, search (recast_begun), search rules)

pub loop-k-preserved : goal.loop-k-preserved
loop-k-preserved c = (search rules, search (recast_more))

pub returns : goal.returns
returns c = search (run_all, rules)
