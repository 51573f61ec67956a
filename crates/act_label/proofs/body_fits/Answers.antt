-- The operation is known, and each field but the label fits.
use Rattle.act_label.proofs.Body.{no_operation, bad_object, bad_folder, bad_date, mark_last}
use Rattle.act_label.proofs.body_fits.Goals as goal

ruleset ways = (no_operation, bad_object, bad_folder, bad_date, mark_last)

pub returns-then-not-is_operation : goal.returns-then-not-is_operation
returns-then-not-is_operation c = search ways

pub returns-then-not-object_fits : goal.returns-then-not-object_fits
returns-then-not-object_fits c = search ways

pub returns-then-not-folder_fits : goal.returns-then-not-folder_fits
returns-then-not-folder_fits c = search ways

pub returns-then-not-date_fits : goal.returns-then-not-date_fits
returns-then-not-date_fits c = search ways

pub returns : goal.returns
returns c = search ways
