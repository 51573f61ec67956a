-- The chain of an identity.
use Rattle.base_ids.specs.Ups.{link_of}
use borrow.Author.Rules.{rules}
use Rattle.base_ids.proofs.link.Goals as goal

pub returns : goal.returns
unfolding link_of
returns c = search rules
