-- Folds by a list of units; the count is that of the records folded.
use Rattle.sab_fold.proofs.Calls.{folds, counts_folded}
use Rattle.sab_fold.proofs.fold.Goals as goal

pub returns : goal.returns
returns c =
    let word = rw (counts_folded c.fold.result) at c.count_word.ensures in
    search (folds, word)
