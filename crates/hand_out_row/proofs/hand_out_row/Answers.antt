-- All blocks of what the asked vector lacks are written into the lent row, with zeros behind the last.
use Rattle.std.proofs.lemmas.Result.{err_from_is_err_and}
use Rattle.refusal.proofs.Refusals.{not_zero}
use Rattle.call_guard.proofs.Opening.{open_long, open_used, open_buffer}
use Rattle.hand_out_row.proofs.Written.{hand_refused, told_sound, asked_below, all_handed}
use Rattle.hand_out_row.proofs.hand_out_row.Goals as goal

pub returns-in_err-state : goal.returns-in_err-state
returns-in_err-state c =
    let p = err_from_is_err_and c.from_residual.result c.from_residual.ensures.1 in
    rw (p.1, p.2) (search (hand_refused, not_zero, c.in_err-state.ensures))

pub returns-then-not-covers : goal.returns-then-not-covers
returns-then-not-covers c = search (asked_below, c.in_ok-state.ensures)

pub write_row-requires : goal.write_row-requires
write_row-requires c = let o = c.in_ok-state.ensures in (search (open_long, o), search (told_sound, o), search (open_used, o), search (open_buffer, o))

pub returns : goal.returns
returns c = search (all_handed, c.in_ok-state.ensures)
