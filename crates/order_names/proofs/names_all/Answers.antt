-- The list names each of the n records of a sound log once, and nothing else.
use native.Mathlib.Omega.{arith}
use mathlib.Core.Path.{refl}
use Rattle.encoding_laws.proofs.Logs.{sound_few}
use Rattle.order_names.proofs.Names.{names-long}
use Rattle.order_names.proofs.Whole.{few_held, names_differ, names_same}
use Rattle.order_names.proofs.names_all.Goals as goal

pub returns-then-count_names-n : goal.returns-then-count_names-n
returns-then-count_names-n c = names_differ c.args.log.now c.args.list.now c.args.n c.count_names.result c.requires.1 c.requires.2 c.count_names.ensures c.if-count_names-n.true

pub mark_names-requires : goal.mark_names-requires
mark_names-requires c =
    let k = c.count_names in
    (omega (arith, sound_few c.args.log.now), names-long c.args.list.now c.args.n (omega arith), refl, few_held c.args.log.now c.args.held.counts c.requires.3)

pub returns : goal.returns
returns c =
    let k = c.count_names in
    names_same c.args.log.now c.args.list.now c.args.held.counts c.args.n k.result _ c.requires.1 c.requires.2 k.ensures (omega arith) c.requires.3 c.mark_names.ensures
