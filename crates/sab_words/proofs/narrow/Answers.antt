-- The own unit in a byte.
use Rattle.sab_words.proofs.Units.{above, within}
use Rattle.sab_words.proofs.narrow.Goals as goal

pub returns-then-unit-gt7 : goal.returns-then-unit-gt7
returns-then-unit-gt7 c = search (above)

pub returns : goal.returns
returns c = search (within)
