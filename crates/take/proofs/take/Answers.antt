-- A block is taken into the log.
use Rattle.std.proofs.Common.{rules}
use Rattle.std.proofs.lemmas.Result.{err_from_is_err_and}
use Rattle.refusal.proofs.Refusals.{not_zero}
use Rattle.call_guard.proofs.Opening.{open_long, open_used}
use Rattle.take.proofs.Ways.{take_refused, told_sound, told_indexed, took}
use Rattle.take.proofs.take.Goals as goal

pub returns-in_err-state : goal.returns-in_err-state
returns-in_err-state c =
    let p = err_from_is_err_and c.from_residual.result c.from_residual.ensures.1 in
    rw (p.1, p.2) (search (take_refused, not_zero, c.in_err-state.ensures.outright))

pub take_block-requires : goal.take_block-requires
take_block-requires c = (search (open_long, c.in_ok-state.ensures.outright), search (told_sound, c.in_ok-state.ensures.outright), search (open_used, c.in_ok-state.ensures.outright), search rules, search rules, search (told_indexed, c.in_ok-state.ensures.outright, c.in_ok-state.ensures.holds))

pub returns : goal.returns
returns c = search (took, c.in_ok-state.ensures.outright)
