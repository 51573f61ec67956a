-- Of a trace also the mark.
use Rattle.line_text.proofs.Written.{wrote_none}
use Rattle.line_text.proofs.Chains.{first_of_two, last_of_two, wrote_two}
use Rattle.line_entry.proofs.Words.{unmarked_is, mark_is}
use Rattle.line_entry.proofs.put_mark.Goals as goal

pub returns-then-k-eq1 : goal.returns-then-k-eq1
returns-then-k-eq1 c = rw (unmarked_is c.args.k c.args.b.now c.if-k-eq1.true) (wrote_none _ _)

pub put_byte-m-requires : goal.put_byte-m-requires
put_byte-m-requires c = first_of_two (mark_is _ _ c.if-k-eq1.false) _ _ c.requires

pub put_hex-requires : goal.put_hex-requires
put_hex-requires c = last_of_two (mark_is _ _ c.if-k-eq1.false) c.requires c.put_byte-m.ensures

pub returns : goal.returns
returns c = wrote_two (mark_is _ _ c.if-k-eq1.false) c.requires c.put_byte-m.ensures c.put_hex.ensures
