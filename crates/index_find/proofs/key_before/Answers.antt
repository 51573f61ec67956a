-- One key comes before another: by folder, then by label.
use Rattle.index_find.proofs.Texts.{key_less, key_more, key_text}
use Rattle.index_find.proofs.key_before.Goals as goal

pub returns-then-f-g : goal.returns-then-f-g
returns-then-f-g c = search (key_less)

pub returns-then-g-f : goal.returns-then-g-f
returns-then-g-f c = search (key_more)

pub returns : goal.returns
returns c = search (key_text)
