-- The line of an aside row.
use Rattle.model.specs.Bytes.{part}
use Rattle.std.proofs.Common.{rules}
use Rattle.line_text.proofs.Chains.{first_of_three, second_of_three, last_of_three, wrote_three}
use Rattle.line_aside.proofs.Asides.{aside_is}
use Rattle.line_aside.proofs.aside_line.Goals as goal

pub put_word-a-requires : goal.put_word-a-requires
unfolding part
put_word-a-requires c = first_of_three (aside_is _) _ _ c.requires.1

pub put_identity-b-requires : goal.put_identity-b-requires
unfolding part
put_identity-b-requires c = (search rules, second_of_three (aside_is _) c.requires.1 c.put_word-a.ensures)

pub aside_reason-requires : goal.aside_reason-requires
unfolding part
aside_reason-requires c = (search rules, last_of_three (aside_is _) c.requires.1 c.put_word-a.ensures c.put_identity-b.ensures)

pub returns : goal.returns
unfolding part
returns c = wrote_three (aside_is _) c.requires.1 c.put_word-a.ensures c.put_identity-b.ensures c.aside_reason.ensures
