-- The name at place i of the list, or 0, which is no record's.
use native.Mathlib.Omega.{arith}
use Rattle.order_names.proofs.Names.{name_short, name-unit, name_set, name-whole}
use Rattle.order_names.proofs.name_at.Goals as goal

pub returns-then-list-at-lt4 : goal.returns-then-list-at-lt4
returns-then-list-at-lt4 c = let a = c.args in (name_short a.list.now a.i (omega arith), omega arith)

pub returns-then-u-gt7 : goal.returns-then-u-gt7
returns-then-u-gt7 c = let a = c.args in (name-unit a.list.now a.i (omega arith), omega arith)

pub returns-then-list-at-ne0 : goal.returns-then-list-at-ne0
returns-then-list-at-ne0 c = let a = c.args in (name_set a.list.now a.i (λ z. omega arith), omega arith)

pub returns : goal.returns
returns c = let a = c.args in (cc (name-whole a.list.now a.i (omega arith) (omega arith) (omega arith)), omega arith)
