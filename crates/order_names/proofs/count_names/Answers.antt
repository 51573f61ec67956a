-- How many names: a part of four bytes behind the last is a name too.
use native.Mathlib.Omega.{arith}
use Rattle.order_model.specs.Order.{name_count}
use Rattle.order_names.proofs.count_names.Goals as goal

pub returns : goal.returns
unfolding name_count
returns c = omega arith
