-- An aside line from its reason on.
use Rattle.std.proofs.Common.{rules}
use Rattle.line_text.proofs.Chains.{first_of_three, second_of_three, last_of_three, wrote_three}
use Rattle.line_aside.proofs.Asides.{reason_is}
use Rattle.line_aside.proofs.aside_reason.Goals as goal

pub put_word-a-requires : goal.put_word-a-requires
put_word-a-requires c = first_of_three (reason_is _) _ _ c.requires.1

pub put_small-b-requires : goal.put_small-b-requires
put_small-b-requires c = second_of_three (reason_is _) c.requires.1 c.put_word-a.ensures

pub aside_marks-requires : goal.aside_marks-requires
aside_marks-requires c = (search rules, last_of_three (reason_is _) c.requires.1 c.put_word-a.ensures c.put_small-b.ensures)

pub returns : goal.returns
returns c = wrote_three (reason_is _) c.requires.1 c.put_word-a.ensures c.put_small-b.ensures c.aside_marks.ensures
