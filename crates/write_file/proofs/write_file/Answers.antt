-- The whole log is written into the lent file, six records a block, with zeros behind the last.
use Rattle.std.proofs.lemmas.Result.{err_from_is_err_and}
use Rattle.refusal.proofs.Refusals.{not_zero}
use Rattle.call_guard.proofs.Opening.{open_long, open_used, open_buffer}
use Rattle.write_file.proofs.Ways.{write_refused, write_folded, whole_sound, whole-held, all_written}
use borrow.Author.Rules.{rules}
use Rattle.write_file.proofs.write_file.Goals as goal

pub returns-in_err-state : goal.returns-in_err-state
returns-in_err-state c =
    let p = err_from_is_err_and c.from_residual.result c.from_residual.ensures.1 in
    rw (p.1, p.2) (search (write_refused, not_zero, c.in_err-state.ensures))

pub returns-then-not-is_zero : goal.returns-then-not-is_zero
returns-then-not-is_zero c = search (write_folded, c.in_ok-state.ensures, rules)

pub write_blocks-requires : goal.write_blocks-requires
write_blocks-requires c =
    let e = c.in_ok-state.ensures in
    (search (open_long, e, rules), search (whole_sound, e, rules), search (open_used, e, rules), search (whole-held, e, rules), search (open_buffer, e, rules))

pub returns : goal.returns
returns c = search (all_written, c.in_ok-state.ensures, rules)
