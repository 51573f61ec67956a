-- Claim K9: a wrong content mark stays small.
-- Assumes nothing.
use Prim.Native.Nat.{ℕ, ◌≤◌}
use native.Mathlib.Omega.{arith}
use mathlib.Core.Path.{◌≡◌, sym, ap, ◌∙◌}
use mathlib.Core.Bool.{true}
use mathlib.Core.Logic.{◌⊎◌}
use mathlib.Core.Option.{none}
use mathlib.Core.List.{List, [], ◌++◌}
use lib.ListN.{get_or, length, replicate}
use Rattle.model.specs.Bytes.{two, padded}
use Rattle.model.specs.Record.{Rec, op}
use Rattle.model.specs.Log.{no_counts, sound_after}
use Rattle.model.specs.Replay.{Entry, entry_of, replay}
use Rattle.model.specs.Table.{entry_rows, aside_rows, table_bytes}
use Rattle.log_laws.specs.Members.{Has as Member}
use Rattle.log_laws.proofs.Tests.{sound_means, means_sound}
use Rattle.tree_laws.specs.Replayed.{Has, trace_of}
use Rattle.tree_laws.proofs.Identities.{makers-distinct}
use Rattle.tree_laws.proofs.Seen.{sound_distinct}
use Rattle.mark_laws.specs.Marks.{SameButMark, OneMarkApart, StaysSmall, row_of, hide_mark}
use Rattle.mark_laws.proofs.Entries.{distinct_made, one_differs}
use Rattle.mark_laws.proofs.Logs.{small, stays_small}
use Rattle.mark_laws.proofs.Shown.{log_hidden, row_mark}
use Rattle.mark_laws.proofs.Sound.{sound_apart}
use Rattle.mark_laws.proofs.Places.{apart_by_records}

-- two sound logs that differ only in the content mark of one make trace or store have the same entries, labels, places, disputes and asides, and
-- at most one entry's mark differs, that of the trace; none where the record stands aside or a later store has fitted on the trace
pub two_logs : (i : ℕ) (l m : List Rec) → sound_after no_counts [] l ≡ true → sound_after no_counts [] m ≡ true → OneMarkApart i l m → StaysSmall i l m
two_logs i l m s t a = stays_small i l m a (sound_means l s)

-- rank does not read the mark: sound logs with the same records but one, and that one the same but for its mark, have it at one place
pub at_one_place : (l m : List Rec) (r s : Rec) → sound_after no_counts [] l ≡ true → sound_after no_counts [] m ≡ true → Member r l → Member s m → SameButMark r s → (op r ≡ 2) ⊎ (op r ≡ 3)
    → ((x : Rec) → Member x l → (x ≡ r) ⊎ Member x m) → ((x : Rec) → Member x m → (x ≡ s) ⊎ Member x l) → (i : ℕ) × (get_or l i [] ≡ r) × OneMarkApart i l m
at_one_place l m r s h k = apart_by_records l m r s (sound_means l h) (sound_means m k)

-- another content mark leaves a sound log sound, so that there are two such logs
pub sound_but_mark : (i : ℕ) (l m : List Rec) → sound_after no_counts [] l ≡ true → OneMarkApart i l m → length (get_or m i []) ≡ 80 → sound_after no_counts [] m ≡ true
sound_but_mark i l m s a n = means_sound m (sound_apart i l m a n (sound_means l s))

-- ---- one entry

-- of a sound log's entries, removed ones too, no two have one identity: the entry k is one entry
pub one_entry : (l : List Rec) → sound_after no_counts [] l ≡ true → (e x : Entry) → Has e (replay l).entries → Has x (replay l).entries → e.made ≡ x.made → e ≡ x
one_entry l s = distinct_made (replay l).entries (makers-distinct l (sound_distinct l (sound_means l s)))

-- an entry of both, removed or not, whose marks differ is the trace that the record makes or stores on
pub at_most_one : (i : ℕ) (l m : List Rec) → sound_after no_counts [] l ≡ true → sound_after no_counts [] m ≡ true → OneMarkApart i l m
    → (e x : Entry) → Has e (replay l).entries → Has x (replay m).entries → e.made ≡ x.made → (e.mark ≡ x.mark → ⊥) → e.made ≡ trace_of (get_or l i [])
at_most_one i l m s t a =
    one_differs (trace_of (get_or l i [])) (replay l).entries (replay m).entries ((two_logs i l m s t a).one.entries []) (makers-distinct m (sound_distinct m (sound_means m t)))

-- ---- the table shown

-- of the bytes shown only the mark of one row differs, that of the trace
pub same_shown : (i : ℕ) (l m : List Rec) → sound_after no_counts [] l ≡ true → sound_after no_counts [] m ≡ true → length l ≤ 512 → OneMarkApart i l m
    → (n : ℕ) → n ≡ row_of (trace_of (get_or l i [])) (replay l).entries → hide_mark n (table_bytes (replay l)) ≡ hide_mark n (table_bytes (replay m))
same_shown i l m s t b a n e =
    let k : ℕ = trace_of (get_or l i []) in
    let o : row_of k (replay l).entries ≡ row_of k (replay m).entries =
    sym (row_mark k [] (replay l).entries) ∙ ap (row_of k) ((two_logs i l m s t a).one.entries []) ∙ row_mark k [] (replay m).entries in
    rw e
    (log_hidden k l (sound_means l s) b
    ∙ ap table_bytes (small i l m a (replicate 16 0))
    ∙ sym (log_hidden k m (sound_means m t) (omega (arith, a.as_long)))
    ∙ ap (λ (x : ℕ). hide_mark x (table_bytes (replay m))) (sym o))

-- where the trace is not there, none
pub removed_shown : (i : ℕ) (l m : List Rec) → sound_after no_counts [] l ≡ true → sound_after no_counts [] m ≡ true → OneMarkApart i l m
    → entry_of (trace_of (get_or l i [])) (replay l).entries ≡ none → table_bytes (replay l) ≡ table_bytes (replay m)
unfolding table_bytes
removed_shown i l m s t a y =
    let w = two_logs i l m s t a in
    λ j. two (length (w.removed y j))
    ++ (two (length (w.one.asides j))
    ++ (padded 73728 (entry_rows (w.one.asides j) (w.removed y j)) ++ padded 12288 (aside_rows (w.one.asides j))))
