-- The same of the label field of a record, by its operation: a label that is not used is zero, else 7.
use Rattle.act_label.proofs.Label.{label_used, bytes_unused, zeros-unused}
use Rattle.act_label.proofs.check_field.Goals as goal

ruleset ways = (label_used, bytes_unused, zeros-unused)

pub returns-then-uses_label : goal.returns-then-uses_label
returns-then-uses_label c = search ways

pub returns-then-not-is_blank : goal.returns-then-not-is_blank
returns-then-not-is_blank c = search ways

pub returns : goal.returns
returns c = search ways
