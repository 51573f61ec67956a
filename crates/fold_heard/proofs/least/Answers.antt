-- Of each unit the least count in the held vector and in the rows of the listed units.
use mathlib.Core.Path.{refl}
use Rattle.fold_heard.proofs.Lowest.{least_skips, least_lowers, least_ends}
use Rattle.fold_heard.specs.Rows.{least_to}
use Rattle.fold_heard.proofs.least.Goals.{then-is_listed, else-is_listed}
use Rattle.fold_heard.proofs.least.Goals as goal

pub loop-w-init : goal.loop-w-init
unfolding least_to
loop-w-init c = refl

pub loop-w-preserved : goal.loop-w-preserved
loop-w-preserved c =
    elim c.if-is_listed.branch [
      | then-is_listed w ↦ rw (w.v-is) (search (least_lowers, w.lower-v.ensures, w.if-is_listed.true))
      | else-is_listed w ↦ rw (w.v-is) (search (least_skips, w.if-is_listed.false))
    ]

pub returns : goal.returns
returns c = search (least_ends)
