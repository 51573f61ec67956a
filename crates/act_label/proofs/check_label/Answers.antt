-- 7 for a text that is no label, 24 for a stroke in it; or 0.
use Rattle.act_label.proofs.Label.{no_text, space_first, space_last, more_behind, by_the_table}
use Rattle.act_label.proofs.check_label.Goals as goal

ruleset ways = (no_text, space_first, space_last, more_behind, by_the_table)

pub returns-then-n-lt1 : goal.returns-then-n-lt1
returns-then-n-lt1 c = search ways

pub returns-then-t-eq32 : goal.returns-then-t-eq32
returns-then-t-eq32 c = search ways

pub returns-then-t-n-eq32 : goal.returns-then-t-n-eq32
returns-then-t-n-eq32 c = search ways

pub returns-then-not-is_blank : goal.returns-then-not-is_blank
returns-then-not-is_blank c = search ways

pub returns : goal.returns
returns c = search ways
