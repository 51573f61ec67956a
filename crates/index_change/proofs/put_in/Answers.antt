-- An entry is put in by folder and label; nothing is done where there is no room.
use Rattle.index_change.proofs.Changes.{put_full, put-done}
use Rattle.index_change.proofs.put_in.Goals as goal

pub returns-else-n-lt-INDEX_PLACES : goal.returns-else-n-lt-INDEX_PLACES
returns-else-n-lt-INDEX_PLACES c = search (put_full)

pub returns-then-n-lt-INDEX_PLACES : goal.returns-then-n-lt-INDEX_PLACES
returns-then-n-lt-INDEX_PLACES c = search (put-done)
