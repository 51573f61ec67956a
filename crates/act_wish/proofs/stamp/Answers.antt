-- The wish with the unit's next number and the held vector.
use Rattle.act_wish.proofs.Stamping.{stamp_put}
use Rattle.act_wish.proofs.stamp.Goals as goal

pub returns : goal.returns
returns c =
    rw (c.put_vector.ensures, c.put16.ensures, c.copy_from_slice.ensures.after) (stamp_put _ c.args.held.counts c.args.wish.now c.requires.0)
