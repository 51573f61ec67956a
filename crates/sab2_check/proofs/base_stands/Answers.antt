-- Whether the rows of a file keep their layout and leave a sound base, with every unit listed that it counts; then they leave
-- it in the lent buffer.
use Rattle.sab2_check.proofs.Checks.{rows_fail, list_fails, base_decides, none_left, base_left_lem}
use Rattle.sab2_check.proofs.base_stands.Goals as goal

pub returns-then-not-load_base-clause-stands : goal.returns-then-not-load_base-clause-stands
returns-then-not-load_base-clause-stands c = search (rows_fail)

pub returns-then-not-load_base-clause-loads : goal.returns-then-not-load_base-clause-loads
returns-then-not-load_base-clause-loads c = λ t. none_left _ _ t

pub returns-then-not-lists_all-clause-stands : goal.returns-then-not-lists_all-clause-stands
returns-then-not-lists_all-clause-stands c = search (list_fails)

pub returns-then-not-lists_all-clause-loads : goal.returns-then-not-lists_all-clause-loads
returns-then-not-lists_all-clause-loads c = λ t. none_left _ _ t

pub returns-clause-stands : goal.returns-clause-stands
returns-clause-stands c = search (base_decides)

pub returns-clause-loads : goal.returns-clause-loads
returns-clause-loads c = λ t. search (base_left_lem)
