-- The first refusal before the log and base are judged.
use Rattle.call_answer.proofs.Guards.{log_length, base_length, lent_length, unit_above, row-length, early_passes}
use Rattle.call_answer.proofs.early_check.Goals as goal

ruleset ways = (log_length, base_length, lent_length, unit_above, row-length, early_passes)

pub returns-then-log-ne-LOG_BYTES : goal.returns-then-log-ne-LOG_BYTES
returns-then-log-ne-LOG_BYTES c = search ways

pub returns-then-base-ne-BASE_BYTES : goal.returns-then-base-ne-BASE_BYTES
returns-then-base-ne-BASE_BYTES c = search ways

pub returns-then-not-lent : goal.returns-then-not-lent
returns-then-not-lent c = search ways

pub returns-then-unit-gt7 : goal.returns-then-unit-gt7
returns-then-unit-gt7 c = search ways

pub returns-then-not-row : goal.returns-then-not-row
returns-then-not-row c = search ways

pub returns : goal.returns
returns c = search ways
