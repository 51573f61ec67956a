-- The reason under which a record would stand aside behind the tree that a table and a register hold, or 0; and then its change
-- is put into the index, if one is lent.
use Rattle.act.proofs.Acting.{bytes_ask}
use native.Mathlib.Omega.{arith}
use Rattle.keep_act.proofs.change_on.Goals as goal

pub judge_and_change-requires : goal.judge_and_change-requires
judge_and_change-requires c = (bytes_ask c.args.rec.now (search) (λ j. omega (arith, c.type_inv.rec j)), search, search, search, search)
