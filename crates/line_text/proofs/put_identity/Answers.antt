-- The identity in four bytes is written as unit.number.
use Rattle.std.proofs.Common.{refl}
use Rattle.line_text.proofs.Chains.{first_of_three, second_of_three, last_of_three, wrote_three}
use Rattle.line_text.proofs.Lines.{identity_is}
use Rattle.line_text.proofs.put_identity.Goals as goal

pub put_small-dot-requires : goal.put_small-dot-requires
put_small-dot-requires c = first_of_three (identity_is c.args.b.now _ refl) _ _ c.requires.1

pub put_byte-rest-requires : goal.put_byte-rest-requires
put_byte-rest-requires c = second_of_three (identity_is c.args.b.now _ refl) c.requires.1 c.put_small-dot.ensures

pub put_number-requires : goal.put_number-requires
put_number-requires c = last_of_three (identity_is _ _ c.le16.ensures) c.requires.1 c.put_small-dot.ensures c.put_byte-rest.ensures

pub returns : goal.returns
returns c = wrote_three (identity_is _ _ c.le16.ensures) c.requires.1 c.put_small-dot.ensures c.put_byte-rest.ensures c.put_number.ensures
