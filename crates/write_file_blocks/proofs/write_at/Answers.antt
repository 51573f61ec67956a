-- A block is written into the part of the file that starts at its place.
use Rattle.write_file_blocks.proofs.Blocks.{placed}
use borrow.Author.Rules.{rules}
use Rattle.write_file_blocks.proofs.write_at.Goals as goal

pub returns : goal.returns
returns c = search (placed, c.copy_from_slice.ensures.after, rules)
