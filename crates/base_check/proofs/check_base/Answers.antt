-- The base is sound.
use Rattle.base_check.proofs.Checks.{no_head_lem, many_entries, many_asides, no_rows, whole}
use Rattle.base_check.proofs.check_base.Goals as goal

pub returns-then-not-head_fits : goal.returns-then-not-head_fits
returns-then-not-head_fits c = search (no_head_lem)

pub returns-then-n-gt512 : goal.returns-then-n-gt512
returns-then-n-gt512 c = search (many_entries)

pub returns-then-m-gt512 : goal.returns-then-m-gt512
returns-then-m-gt512 c = search (many_asides)

pub returns-then-not-rows_fit : goal.returns-then-not-rows_fit
returns-then-not-rows_fit c = search (no_rows)

pub returns : goal.returns
returns c = search (whole)
