-- What a rename and a move do to an index alike.
-- Assumes nothing.
use Rattle.std.specs.Prelude.{ℕ, List}
use Rattle.model.specs.Record.{Rec, label_of}
use Rattle.model.specs.Replay.{Entry}
use Rattle.index_model.specs.Change.{move_in}

-- an entry gets the folder f, and the label of a record
unfoldable pub put_elsewhere : Rec → ℕ → List ℕ → Entry → List ℕ
put_elsewhere r f b e = move_in b e.inside e.label f (label_of r) e.made
