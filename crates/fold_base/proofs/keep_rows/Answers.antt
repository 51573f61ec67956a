-- The rows of present entries among the first n of a table are laid one behind another; their count is returned.
use mathlib.Core.Path.{refl, ◌∙◌}
use Rattle.fold_base.proofs.Keeping.{keeps_start, counts_start, keeps-none, keeps_as, keeps_one, keeps_fit, keeps-row, keeps_end, counts_end, counts_few}
use native.Mathlib.Omega.{arith}
use Rattle.fold_base.proofs.keep_rows.Goals.{then-table-at-ne0, else-table-at-ne0}
use Rattle.fold_base.proofs.keep_rows.Goals as goal

pub loop-i-init : goal.loop-i-init
loop-i-init c = (omega arith, refl, search (counts_start), search (keeps_start))

pub put-requires : goal.put-requires
put-requires c = search (keeps_fit)

pub loop-i-preserved : goal.loop-i-preserved
loop-i-preserved c =
    let e = c.if-table-at-ne0.auto.base ∙ c.loop-i.invariant.1 in
    elim c.if-table-at-ne0.branch [
      | then-table-at-ne0 w ↦ (omega (arith, w.j-is), e, rw w.j-is (search keeps_one), rw w.base-is (search keeps-row))
      | else-table-at-ne0 w ↦ (omega (arith, w.j-is), e, rw w.j-is (search keeps-none), rw w.base-is (search keeps_as))
    ]

pub returns-clause-counted : goal.returns-clause-counted
returns-clause-counted c = (search (counts_end), search (counts_few))

pub returns-clause-laid : goal.returns-clause-laid
returns-clause-laid c = search (keeps_end)
