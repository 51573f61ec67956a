-- An aside line from its marked entry on.
use Rattle.model.specs.Bytes.{part}
use Rattle.std.proofs.Common.{rules}
use Rattle.line_text.proofs.Chains.{first_of_four, second_of_four, third_of_four, last_of_four, wrote_four}
use Rattle.line_aside.proofs.Asides.{marks_is}
use Rattle.line_aside.proofs.aside_marks.Goals as goal

pub put_word-a-requires : goal.put_word-a-requires
unfolding part
put_word-a-requires c = first_of_four (marks_is _) _ _ c.requires.1

pub put_marked-b-requires : goal.put_marked-b-requires
unfolding part
put_marked-b-requires c = (search rules, second_of_four (marks_is _) c.requires.1 c.put_word-a.ensures)

pub put_state-c-requires : goal.put_state-c-requires
unfolding part
put_state-c-requires c = third_of_four (marks_is _) c.requires.1 c.put_word-a.ensures c.put_marked-b.ensures

pub put_byte-requires : goal.put_byte-requires
unfolding part
put_byte-requires c = last_of_four (marks_is _) c.requires.1 c.put_word-a.ensures c.put_marked-b.ensures c.put_state-c.ensures

pub returns : goal.returns
unfolding part
returns c = wrote_four (marks_is _) c.requires.1 c.put_word-a.ensures c.put_marked-b.ensures c.put_state-c.ensures c.put_byte.ensures
