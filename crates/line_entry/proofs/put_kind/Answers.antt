-- The kind of an entry row.
use Rattle.line_entry.proofs.Words.{folder_is, trace_is}
use Rattle.line_entry.proofs.put_kind.Goals as goal

pub put_word-requires : goal.put_word-requires
put_word-requires c = rw (folder_is c.args.k c.if-k-eq1.true) at c.requires

pub returns-then-k-eq1 : goal.returns-then-k-eq1
returns-then-k-eq1 c = rw (folder_is c.args.k c.if-k-eq1.true) c.put_word.ensures

pub put_word-requires-2 : goal.put_word-requires-2
put_word-requires-2 c = rw (trace_is c.args.k c.if-k-eq1.false) at c.requires

pub returns : goal.returns
returns c = rw (trace_is c.args.k c.if-k-eq1.false) c.put_word-2.ensures
