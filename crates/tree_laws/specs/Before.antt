-- The replay before there were moves: the operations 1 to 6 as they were judged and done then.
-- Assumes nothing.
use Rattle.std.specs.Prelude.{ℕ, true, cond, List, [], ◌∷◌, ◌++◌, leb, eqb}
use Rattle.std.proofs.Math.Option.{Option, none, some}
use Rattle.model.specs.Numbers.{no_folder, wrong_kind}
use Rattle.model.specs.Record.{Rec, root, op, self_of, object_of, folder_of, label_of}
use Rattle.model.specs.Replay.{Entry, Tree, Verdict, fits, aside, entry_of, holder_of, free_label, judge_store, judge_remove, judge_rename, judge_settle, new_entry, stored, renamed, removed, changed, settled}

unfoldable pub make_in : Rec → List Entry → Option Entry → Verdict
make_in r es none = aside no_folder 0
make_in r es (some f) =
    cond (eqb f.kind 1) (free_label (holder_of root (folder_of r) (label_of r) es)) (aside wrong_kind f.made)

unfoldable pub make_before : Rec → List Entry → Verdict
make_before r es =
    cond (eqb (folder_of r) root) (free_label (holder_of root root (label_of r) es)) (make_in r es (entry_of (folder_of r) es))

unfoldable pub judge_before : Rec → Tree → Verdict
judge_before r t =
    cond (leb (op r) 2) (make_before r t.entries)
    (cond (eqb (op r) 3) (judge_store r (entry_of (object_of r) t.entries))
    (cond (eqb (op r) 4) (judge_remove r t.entries (entry_of (object_of r) t.entries))
    (cond (eqb (op r) 5) (judge_rename r t.entries (entry_of (object_of r) t.entries))
    (judge_settle r t.asides))))

unfoldable pub effect_before : Rec → Tree → Tree
effect_before r t =
    cond (leb (op r) 2) (record { entries = t.entries ++ (new_entry r ∷ []); asides = t.asides })
    (cond (eqb (op r) 3) (record { entries = changed (stored r) (object_of r) t.entries; asides = t.asides })
    (cond (eqb (op r) 4) (record { entries = changed removed (object_of r) t.entries; asides = t.asides })
    (cond (eqb (op r) 5) (record { entries = changed (renamed r) (object_of r) t.entries; asides = t.asides })
    (record { entries = t.entries; asides = settled (object_of r) t.asides }))))

unfoldable pub apply_before : Verdict → Rec → Tree → Tree
apply_before fits r t = effect_before r t
apply_before (aside n k) r t =
    record { entries = t.entries; asides = t.asides ++ (record { who = self_of r; reason = n; marked = k; is_open = true } ∷ []) }

unfoldable pub replay_before : Tree → List Rec → Tree
replay_before t [] = t
replay_before t (r ∷ l) = replay_before (apply_before (judge_before r t) r t) l
