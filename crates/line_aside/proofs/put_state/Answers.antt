-- Open or settled.
use Rattle.line_aside.proofs.Words.{open_is, settled_is}
use Rattle.line_aside.proofs.put_state.Goals as goal

pub put_word-requires : goal.put_word-requires
put_word-requires c = rw (open_is c.args.s c.if-s-eq1.true) at c.requires

pub returns-then-s-eq1 : goal.returns-then-s-eq1
returns-then-s-eq1 c = rw (open_is c.args.s c.if-s-eq1.true) c.put_word.ensures

pub put_word-requires-2 : goal.put_word-requires-2
put_word-requires-2 c = rw (settled_is c.args.s c.if-s-eq1.false) at c.requires

pub returns : goal.returns
returns c = rw (settled_is c.args.s c.if-s-eq1.false) c.put_word-2.ensures
