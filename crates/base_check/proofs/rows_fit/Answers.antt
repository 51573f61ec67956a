-- All rows.
use Rattle.base_check.proofs.Checks.{vector_is, rows_are}
use native.Mathlib.Omega.{arith}
use borrow.Author.Rules.{rules}
use Rattle.base_check.proofs.rows_fit.Goals as goal

pub entries_fit-requires : goal.entries_fit-requires
entries_fit-requires c = (search rules, omega arith, search (vector_is))

pub asides_fit-requires : goal.asides_fit-requires
asides_fit-requires c = (search rules, omega arith, search (vector_is))

pub returns : goal.returns
returns c = search (rows_are)
