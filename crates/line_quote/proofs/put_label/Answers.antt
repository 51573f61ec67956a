-- A label is written between quotes.
use Rattle.line_text.proofs.Chains.{first_of_three, second_of_three, last_of_three, wrote_three}
use Rattle.line_quote.proofs.Labels.{label_is}
use Rattle.line_quote.proofs.put_label.Goals as goal

pub put_byte-text-requires : goal.put_byte-text-requires
put_byte-text-requires c = first_of_three (label_is _ _ c.text_length-n.ensures.0) _ _ c.requires

pub put_escaped-end-requires : goal.put_escaped-end-requires
put_escaped-end-requires c = second_of_three (label_is _ _ c.text_length-n.ensures.0) c.requires c.put_byte-text.ensures

pub put_byte-requires : goal.put_byte-requires
put_byte-requires c = last_of_three (label_is _ _ c.text_length-n.ensures.0) c.requires c.put_byte-text.ensures c.put_escaped-end.ensures

pub returns : goal.returns
returns c = wrote_three (label_is _ _ c.text_length-n.ensures.0) c.requires c.put_byte-text.ensures c.put_escaped-end.ensures c.put_byte.ensures
