-- The base of the tree that a working table holds.
use Rattle.fold_base.proofs.Laid.{room_shown, base_written}
use Prim.Native.Nat.{◌-◌}
use borrow.Author.Rules.{rules}
use Rattle.fold_base.proofs.write_base.Goals as goal

pub keep_rows-present-requires : goal.keep_rows-present-requires
keep_rows-present-requires c = (search rules, search rules, search rules, search (room_shown))

pub returns : goal.returns
returns c = search (base_written, c.fill.ensures.after (λ y e. e))
