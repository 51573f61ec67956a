-- Of the rows before row i, in the chain h, the last that has its label in its folder, and one; 0 for none.
use Rattle.base_names.proofs.Names.{seek_starts, seek_low, seek_goes, seek_found, seek_ends}
use Rattle.base_names.proofs.before.Goals as goal

pub loop-q-init : goal.loop-q-init
loop-q-init c = search (seek_starts)

pub returns-then-one_name : goal.returns-then-one_name
returns-then-one_name c = search (seek_found)

pub loop-q-smaller : goal.loop-q-smaller
loop-q-smaller c = search (seek_low)

pub loop-q-preserved : goal.loop-q-preserved
loop-q-preserved c = search (seek_goes)

pub returns : goal.returns
returns c = search (seek_ends)
