-- The lent table shows the tree and the asides of the lent state.
use Rattle.std.proofs.lemmas.Result.{err_from_is_err_and}
use Rattle.refusal.proofs.Refusals.{not_zero}
use Rattle.call_model.specs.Outcome.{show_of}
use Rattle.call_guard.proofs.Opening.{open_stands, open_buffer, call_refused}
use Rattle.show_tree.proofs.Shown.{shown}
use Rattle.show_tree.proofs.show_tree.Goals as goal

pub returns-in_err-state : goal.returns-in_err-state
unfolding show_of
returns-in_err-state c =
    let p = err_from_is_err_and c.from_residual.result c.from_residual.ensures.1 in
    rw (p.1, p.2) (search (call_refused, not_zero, c.in_err-state.ensures))

pub lay_tree-requires : goal.lay_tree-requires
lay_tree-requires c =
    let e = c.in_ok-state.ensures in
    (search (open_stands, e), search (open_buffer, e))

pub returns : goal.returns
returns c = search (shown, c.in_ok-state.ensures)
