-- What a record that fits does to the index of a tree, with no index made afresh.
-- Document 02, K6 and K8.
-- Assumes nothing.
use Rattle.std.specs.Prelude.{ℕ, cond, List, leb, eqb}
use Rattle.std.proofs.Math.Option.{Option, none, some}
use Rattle.model.specs.Record.{Rec, op, self_of, object_of, folder_of, label_of}
use Rattle.model.specs.Replay.{Entry, Tree, Verdict, fits, aside, entry_of}
use Rattle.index_model.specs.Change.{put_in, take_out, move_in}

unfoldable pub removed_in : List ℕ → Option Entry → List ℕ
removed_in b none = b
removed_in b (some e) = take_out b e.inside e.label

unfoldable pub renamed_in : Rec → List ℕ → Option Entry → List ℕ
renamed_in r b none = b
renamed_in r b (some e) = move_in b e.inside e.label e.inside (label_of r) e.made

unfoldable pub moved_in : Rec → List ℕ → Option Entry → List ℕ
moved_in r b none = b
moved_in r b (some e) = move_in b e.inside e.label (folder_of r) (label_of r) e.made

-- a make puts its entry in, a remove takes it out, a rename or a move puts it elsewhere; stores and settles leave the index [F114]
unfoldable pub change_in : Rec → Tree → List ℕ → List ℕ
change_in r t b =
    cond (leb (op r) 2) (put_in b (folder_of r) (label_of r) (self_of r))
    (cond (eqb (op r) 4) (removed_in b (entry_of (object_of r) t.entries))
    (cond (eqb (op r) 5) (renamed_in r b (entry_of (object_of r) t.entries))
    (cond (leb 7 (op r)) (moved_in r b (entry_of (object_of r) t.entries)) b)))

-- a record that stands aside leaves it too
unfoldable pub step_in : Verdict → Rec → Tree → List ℕ → List ℕ
step_in fits r t b = change_in r t b
step_in (aside n k) r t b = b
