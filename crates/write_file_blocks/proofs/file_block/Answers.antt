-- Block k of the file of a log.
use Rattle.write_file_blocks.proofs.Blocks.{file_block_of, sound_whole}
use borrow.Author.Rules.{rules}
use Rattle.write_file_blocks.proofs.file_block.Goals as goal

pub run_block-requires : goal.run_block-requires
run_block-requires c = (search rules, search (sound_whole), search rules, search rules, search rules, search rules)

pub returns : goal.returns
returns c = search (file_block_of)
