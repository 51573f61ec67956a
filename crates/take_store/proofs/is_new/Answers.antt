-- A record has a number above the count of its unit.
use Rattle.take_store.proofs.News.{new_is}
use Rattle.take_store.proofs.is_new.Goals as goal

pub returns : goal.returns
returns c = search (new_is)
