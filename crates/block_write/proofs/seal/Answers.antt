-- The sums are written behind the 254 words.
use Rattle.block_write.proofs.Written.{seals}
use Rattle.block_write.proofs.seal.Goals as goal

pub returns : goal.returns
returns c = search (seals)
