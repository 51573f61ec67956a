-- What the answer of the check of a state comes to.
-- Assumes nothing.
use Rattle.std.specs.Prelude.{Option, None, Some, true}
use Rattle.base_head.specs.Head.{headed}
use Rattle.state_check.specs.declared.State.{State}
use Rattle.state_check.specs.State.{StateTold, stated, unsound}

abbrev pub state_told : Option State → StateTold
state_told None = unsound
state_told (Some s) = stated true (headed s.head.list s.head.folded.counts s.head.entries s.head.asides) s.held.counts s.used
