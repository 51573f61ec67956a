-- The entries that open asides mark are flagged.
use Rattle.tree_finish.proofs.Flags.{no_flags, flag_turn, flag_next, flags_end}
use mathlib.Core.Path.{refl}
use borrow.Author.Rules.{rules}
use native.Mathlib.Omega.{arith}
use Rattle.tree_finish.proofs.flag.Goals as goal

pub loop-i-init : goal.loop-i-init
loop-i-init c = (refl, search (no_flags))

pub flag_one-requires : goal.flag_one-requires
flag_one-requires c = (search (flag_turn), omega arith)

pub loop-i-preserved : goal.loop-i-preserved
loop-i-preserved c = (search rules, search (flag_next))

pub returns : goal.returns
returns c = search (flags_end)
