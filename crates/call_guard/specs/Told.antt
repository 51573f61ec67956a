-- What the answer of the checks that come first comes to: zeros behind a refusal.
-- Assumes nothing.
use Rattle.std.specs.Prelude.{Result, Ok, Err, replicate}
use Rattle.refusal.specs.Refusals.{number_of}
use Rattle.refusal.specs.declared.Refusal.{Refusal}
use Rattle.base_head.specs.Head.{headed, no_head}
use Rattle.state_check.specs.declared.State.{State}
use Rattle.call_guard.specs.Opened.{Opening, opened}

abbrev pub opening : Result State Refusal → Opening
opening (Ok s) = opened 0 (headed s.head.list s.head.folded.counts s.head.entries s.head.asides) s.held.counts s.used
opening (Err refusal) = opened (number_of refusal) no_head (replicate 8 0) 0
