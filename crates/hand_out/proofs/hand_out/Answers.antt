-- The first six or fewer records that the asked vector lacks are handed out in the lent block.
use Rattle.std.proofs.Common.{rules}
use Rattle.std.proofs.lemmas.Result.{err_from_is_err_and}
use Rattle.refusal.proofs.Refusals.{not_zero}
use Rattle.call_guard.proofs.Opening.{open_long, open_used}
use Rattle.hand_out.proofs.Handed.{hand_refused, asked_below, told_sound, block_fits, handed_out}
use Rattle.hand_out.proofs.hand_out.Goals as goal

pub returns-in_err-state : goal.returns-in_err-state
returns-in_err-state c =
    let p = err_from_is_err_and c.from_residual.result c.from_residual.ensures.1 in
    rw (p.1, p.2) (search (hand_refused, not_zero, c.in_err-state.ensures))

pub returns-then-not-covers : goal.returns-then-not-covers
returns-then-not-covers c = search (asked_below, c.in_ok-state.ensures)

pub block_for-b-requires : goal.block_for-b-requires
block_for-b-requires c = let o = c.in_ok-state.ensures in (search (open_long, o), search (told_sound, o), search (open_used, o))

pub copy_from_slice-requires : goal.copy_from_slice-requires
copy_from_slice-requires c = search (block_fits, c.in_ok-state.ensures, rules)

pub returns : goal.returns
returns c = search (handed_out, c.in_ok-state.ensures, c.copy_from_slice.ensures.after)
