-- The examples are right, by running the definition.
-- Assumes nothing.
use mathlib.Core.Path.{◌≡◌, refl}
use mathlib.Core.Bool.{true}
use Rattle.act_bytes.specs.Table.{may_stand}
use Rattle.act_bytes.specs.Examples.{all_right, table}

pub examples : all_right table ≡ true
unfolding may_stand all_right table
examples = refl
