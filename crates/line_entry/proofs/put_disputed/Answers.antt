-- The word `disputed`, where it is so.
use Rattle.line_text.proofs.Written.{wrote_none}
use Rattle.line_entry.proofs.Words.{disputed_is, agreed_is}
use Rattle.line_entry.proofs.put_disputed.Goals as goal

pub put_word-requires : goal.put_word-requires
put_word-requires c = rw (disputed_is c.args.d c.if-d-eq1.true) at c.requires

pub returns-then-d-eq1 : goal.returns-then-d-eq1
returns-then-d-eq1 c = rw (disputed_is c.args.d c.if-d-eq1.true) c.put_word.ensures

pub returns : goal.returns
returns c = rw (agreed_is c.args.d c.if-d-eq1.false) (wrote_none _ _)
