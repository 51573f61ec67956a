-- Block after block is written, then zeros; the count of blocks is returned.
use Rattle.write_file.proofs.Whole.{few_used, few, begun, all_counted, goes_on_lem, ends}
use Rattle.model.specs.File.{file_to}
use mathlib.Core.Path.{refl}
use borrow.Author.Rules.{rules}
use Rattle.write_file.proofs.write_blocks.Goals as goal

pub block_count-n-requires : goal.block_count-n-requires
block_count-n-requires c = search (few_used)

pub loop-k-init : goal.loop-k-init
unfolding file_to
loop-k-init c = (search (few, few_used), search (few_used), search rules, refl)

pub file_block-requires : goal.file_block-requires
file_block-requires c = (search rules, search rules, search rules, search rules, search rules, search (begun))

pub loop-k-preserved : goal.loop-k-preserved
loop-k-preserved c = (search rules, search rules, search rules, search (goes_on_lem))

pub returns-clause-counted : goal.returns-clause-counted
returns-clause-counted c = search (all_counted)

pub returns-clause-written : goal.returns-clause-written
returns-clause-written c = search (ends, rules)
