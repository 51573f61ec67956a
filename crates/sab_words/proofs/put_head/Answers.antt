-- What a file says of itself is written.
use Rattle.sab_words.proofs.Heads.{heads}
use native.Mathlib.Omega.{arith}
use Rattle.sab_words.proofs.put_head.Goals as goal

pub returns : goal.returns
returns c =
    let a = c.args in
    cc (heads a.head.now a.archive a.unit a.records a.v.counts (omega arith))
