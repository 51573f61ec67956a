-- What is printed of the bytes that were read, written into the lent text: their listing, or nothing where a read failed.
use Rattle.listing.proofs.Output.{failed_output, listed_output}
use borrow.Author.Rules.{rules}
use Rattle.readout.proofs.output.Goals as goal

pub returns-then-failed : goal.returns-then-failed
returns-then-failed c = search (failed_output)

pub returns : goal.returns
returns c = listed_output _ _ _ _ _ _ _ _ _ _ _ _ _ c.if-failed.false c.listing-listed.ensures (search rules) (search rules)
    (search rules) (search rules)
