-- List, base and log are written into the lent file as SAB2, with zeros behind the last block.
use Rattle.std.proofs.lemmas.Result.{err_from_is_err_and}
use Rattle.refusal.proofs.Refusals.{not_zero}
use Rattle.call_guard.proofs.Opening.{open_stands, open_buffer}
use Rattle.write_sab2.proofs.Ways.{write_refused, all_written, state_sound, few_entries, few_asides, used_few}
use borrow.Author.Rules.{rules}
use Rattle.write_sab2.proofs.write_sab2.Goals as goal

pub returns-in_err-state : goal.returns-in_err-state
returns-in_err-state c =
    let p = err_from_is_err_and c.from_residual.result c.from_residual.ensures.1 in
    rw (p.1, p.2) (search (write_refused, not_zero, c.in_err-state.ensures))

pub write_state-requires : goal.write_state-requires
write_state-requires c =
    let e = c.in_ok-state.ensures in (
      search (open_stands, e, rules),
      search (state_sound, e, rules),
      search (few_entries, e, rules),
      search (few_asides, e, rules),
      search (used_few, e, rules),
      search (open_buffer, e, rules),
    )

pub returns : goal.returns
returns c = search (all_written, c.in_ok-state.ensures, rules)
