-- The table.
use mathlib.Core.Path.{refl}
use Rattle.act_bytes.specs.Table.{may_stand}
use Rattle.act_bytes.proofs.Table.{right_to, table-right}
use Rattle.act_bytes.proofs.label_table.Goals as goal

-- the one test of the whole table
pub returns : goal.returns
unfolding right_to may_stand
returns c = table-right _ refl refl
