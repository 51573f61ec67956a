-- The block that is handed out, with the held vector in its header.
use Rattle.hand_out.proofs.Handed.{none-lacking, some_lacking}
use Rattle.hand_out.proofs.block_for.Goals as goal

ruleset ways = (none-lacking, some_lacking)

pub returns-then-n-eq0 : goal.returns-then-n-eq0
returns-then-n-eq0 c = search ways

pub returns : goal.returns
returns c = search ways
