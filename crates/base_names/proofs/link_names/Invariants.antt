-- No label twice in a folder: the rows are judged, each against those before it, and linked.
use mathlib.Core.Path.{◌≡◌}
use Rattle.model.specs.Log.{all_to}
use Rattle.base_model.specs.Base.{name_new}
use Rattle.base_links.specs.Links.{Linked}
use Rattle.base_names.specs.Names.{name_key}
use Rattle.base_names.proofs.link_names.Given as goal

abbrev pub invariant-loop-i : goal.invariant-loop-i
invariant-loop-i l = (l.all ≡ all_to l.i (name_new l.base)) × Linked (name_key l.base) l.heads l.next l.i
