-- The n bytes from a place on are copied to another.
use Rattle.index_make.proofs.Writing.{part_copied}
use Rattle.index_make.proofs.copy_part.Goals as goal

pub returns : goal.returns
returns c = search (part_copied)
