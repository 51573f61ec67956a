-- The identities from one up to another are judged, each against those before it, and linked.
use mathlib.Core.Path.{◌≡◌}
use Rattle.model.specs.Log.{all_to}
use Rattle.base_model.specs.Base.{id_new}
use Rattle.base_links.specs.Links.{Linked}
use Rattle.base_ids.specs.Ups.{id_key}
use Rattle.base_ids.proofs.link_ids.Given as goal

abbrev pub invariant-loop-i : goal.invariant-loop-i
invariant-loop-i l = (l.all ≡ all_to l.i (id_new l.base l.n)) × Linked (id_key l.base l.n) l.heads l.next l.i
