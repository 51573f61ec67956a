-- The record of unit u with the relative number c is noted: it stands at the position p and has seen s.
use Rattle.std.proofs.Common.{◌≡◌, ◌*◌, length, rules}
use Rattle.byte_slice.proofs.PutAt.{mid_put}
use Rattle.log_closure.proofs.note.Goals as goal

pub returns : goal.returns
returns c =
    let after = c.copy_from_slice.ensures.after in
    let n : length c.args.s.counts ≡ 8 = search rules in
    (search rules, rw after (mid_put (8 * c.args.p) 8 c.args.seens.now c.args.s.counts n))
