-- The marked entry, or `-` where nothing is marked.
use Rattle.std.proofs.Common.{rules}
use Rattle.line_aside.proofs.Words.{none_is, marked_is}
use Rattle.line_aside.proofs.put_marked.Goals as goal

pub put_byte-requires : goal.put_byte-requires
put_byte-requires c = rw (none_is c.args.b.now c.is_blank.ensures c.if-is_blank.true) at c.requires.1

pub returns-then-is_blank : goal.returns-then-is_blank
returns-then-is_blank c = rw (none_is c.args.b.now c.is_blank.ensures c.if-is_blank.true) c.put_byte.ensures

pub put_identity-requires : goal.put_identity-requires
put_identity-requires c = (search rules, rw (marked_is c.args.b.now c.is_blank.ensures c.if-is_blank.false) at c.requires.1)

pub returns : goal.returns
returns c = rw (marked_is c.args.b.now c.is_blank.ensures c.if-is_blank.false) c.put_identity.ensures
