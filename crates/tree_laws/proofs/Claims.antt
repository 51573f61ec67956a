-- Claims P2, P3 and P4: the replay, and what decides nothing.
-- Assumes nothing.
use Prim.Native.Nat.{ℕ, suc, ◌≤◌, ◌<◌}
use mathlib.Core.Path.{◌≡◌, refl, sym, ap, ◌∙◌}
use mathlib.Core.Logic.{◌⊎◌, inl, inr, ⊎_elim, ◌↔◌}
use mathlib.Core.Bool.{true, false, not}
use mathlib.Core.Option.{some}
use mathlib.Core.List.{List, [], ◌∷◌, ◌++◌}
use native.Mathlib.Omega.{arith}
use lib.ListN.{get_or, length, set}
use Rattle.model.specs.Record.{Rec, root, unit, num, op, seen, self_of, object_of, label_of, uses_label, well_formed, has_stroke}
use Rattle.model.specs.Log.{no_counts, sound_after}
use Rattle.model.specs.Replay.{Entry, Aside, Tree, Verdict, fits, aside, is_present, label_key, entry_of, unseen, is_below, judge, stands_aside, holder_of, is_disputed, renamed, step, empty_tree, replay_from, replay, trim}
use Rattle.model.specs.Table.{table_bytes}
use Rattle.log_laws.specs.Members.{Has as Member}
use Rattle.log_laws.specs.Sound.{Sound}
use Rattle.log_laws.proofs.Formed.{well_length, well_op}
use Rattle.log_laws.proofs.Counts.{formed}
use Rattle.log_laws.proofs.Tests.{sound_means, means_sound}
use Rattle.log_laws.proofs.Claims.{order_fixed}
use Rattle.tree_laws.specs.Replayed.{Has, Distinct, selves, makers, whos, standings, stand_aside, makes_fit, open_of, settled_in, SameButDates, undated_tree, hide_dates}
use Rattle.tree_laws.specs.Before.{replay_before}
use Rattle.tree_laws.specs.Places.{PlacedBy, PlaceKept}
use Rattle.tree_laws.specs.Roots.{Way, Reaches, Stands, Rooted}
use Rattle.tree_laws.specs.Trees.{SoundTree}
use Rattle.tree_laws.proofs.Verdicts.{Under, OneOf, Reason, reason_range, judge_make_lem, judge_store_lem, judge_remove_lem, judge_rename_lem, judge_settle_lem, judge_move_lem, Moving, move_reasons, make_reasons, store_reasons, remove_reasons, rename_reasons, settle_reasons}
use Rattle.tree_laws.proofs.Steps.{standings-replay, makers-replay}
use Rattle.tree_laws.proofs.Identities as Identities
use Rattle.tree_laws.proofs.Labels as Labels
use Rattle.tree_laws.proofs.Written.{label_written}
use Rattle.tree_laws.proofs.Roots as Roots
use Rattle.tree_laws.proofs.Places as Places
use Rattle.tree_laws.proofs.Trees as Trees
use Rattle.tree_laws.proofs.Trimming as Trimming
use Rattle.tree_laws.proofs.Before.{replay-before}
use Rattle.tree_laws.proofs.Dates.{dates_replay}
use Rattle.tree_laws.proofs.Tables.{table_hidden, filled-replay, entries_few}
use Rattle.tree_laws.proofs.Settling as Settling
use Rattle.tree_laws.proofs.Seen as Seen

-- ---- P2: each record acts or stands aside under one reason

-- a record fits, or stands aside under one of the reasons 12 to 18 or 25
pub fits_or_stands_aside : (r : Rec) (t : Tree) → (judge r t ≡ fits) ⊎ ((n : ℕ) × (k : ℕ) × (judge r t ≡ aside n k) × (((12 ≤ n) × (n ≤ 18)) ⊎ (n ≡ 25)))
fits_or_stands_aside r t = go (judge r t) refl (reason_range r t)
  where
    go : (v : Verdict) → judge r t ≡ v → Under Reason v → (judge r t ≡ fits) ⊎ ((n : ℕ) × (k : ℕ) × (judge r t ≡ aside n k) × (((12 ≤ n) × (n ≤ 18)) ⊎ (n ≡ 25)))
    go fits e h = inl e
    go (aside n k) e h = inr (n, k, e, h)

-- the reasons of each operation
pub reasons_by_operation : (r : Rec) (t : Tree)
    → (op r ≤ 2 → Under (OneOf 13 14 15) (judge r t))
    × (op r ≡ 3 → Under (OneOf 12 14 17) (judge r t))
    × (op r ≡ 4 → Under (OneOf 12 16 17) (judge r t))
    × (op r ≡ 5 → Under (OneOf 12 17 15) (judge r t))
    × (op r ≡ 6 → Under (λ n. n ≡ 18) (judge r t))
    × (6 < op r → Under Moving (judge r t))
reasons_by_operation r t = (
  λ o. rw (judge_make_lem r t o) (make_reasons r t.entries),
  λ o. rw (judge_store_lem r t o) (store_reasons r (entry_of (object_of r) t.entries)),
  λ o. rw (judge_remove_lem r t o) (remove_reasons r t.entries (entry_of (object_of r) t.entries)),
  λ o. rw (judge_rename_lem r t o) (rename_reasons r t.entries (entry_of (object_of r) t.entries)),
  λ o. rw (judge_settle_lem r t o) (settle_reasons r t.asides),
  λ o. rw (judge_move_lem r t o) (move_reasons r t.entries (entry_of (object_of r) t.entries)),
)

-- the asides are the records that did not fit, by rank, each with its reason and mark, also when the marked entry is gone
pub asides_are_those_not_fitting : (l : List Rec) → standings (replay l).asides ≡ stand_aside empty_tree l
unfolding replay empty_tree standings
asides_are_those_not_fitting l = standings-replay empty_tree l

-- the entries, removed ones too, are the makes that fitted, by rank
pub entries_are_makes_that_fitted : (l : List Rec) → makers (replay l).entries ≡ makes_fit empty_tree l
unfolding replay empty_tree makers
entries_are_makes_that_fitted l = makers-replay empty_tree l

-- of a sound log's records none stands aside twice, none makes two entries, and none does both
pub no_record_twice : (l : List Rec) → sound_after no_counts [] l ≡ true
    → Distinct (whos (replay l).asides)
    × Distinct (makers (replay l).entries)
    × ((k : ℕ) → Has k (whos (replay l).asides) → Has k (makers (replay l).entries) → ⊥)
no_record_twice l s =
    let d : Distinct (selves l) = Seen.sound_distinct l (sound_means l s) in
    (Identities.asides_distinct l d, Identities.makers-distinct l d, Identities.asides_no_makers l d)

-- no two entries have one identity, and none has the root's
pub named_of : (l : List Rec) → Sound l → Labels.Named (replay l).entries
named_of l h =
    record {
      once = Identities.makers-distinct l (Seen.sound_distinct l h);
      none-root = λ e i z. Seen.self_no_root l h e.made (Identities.makers_of_lem l e.made (Labels.has_made (replay l).entries e i)) z;
    }

named : (l : List Rec) → sound_after no_counts [] l ≡ true → Labels.Named (replay l).entries
named l s = named_of l (sound_means l s)

-- two present entries of one folder and label, in capitals or small letters, are one
pub one_holder_of_a_label : (l : List Rec) → sound_after no_counts [] l ≡ true → (e x : Entry) → Has e (replay l).entries → Has x (replay l).entries
    → is_present e ≡ true → is_present x ≡ true → x.inside ≡ e.inside → label_key x.label ≡ label_key e.label → e ≡ x
unfolding replay empty_tree
one_holder_of_a_label l s = Labels.one_label (replay l).entries (Labels.apart-replay empty_tree l tt) (named l s)

-- so a look-up by folder and label finds it
pub holder_is_found : (l : List Rec) → sound_after no_counts [] l ≡ true → (e : Entry) → Has e (replay l).entries → is_present e ≡ true → holder_of root e.inside e.label (replay l).entries ≡ some e
unfolding replay empty_tree
holder_is_found l s = Labels.the_holder (replay l).entries (Labels.apart-replay empty_tree l tt) (named l s)

-- a rename that has seen the last place record fits if it changes nothing but capitals and small letters
pub own_label_fits : (l : List Rec) → sound_after no_counts [] l ≡ true → (r : Rec) (e : Entry) → op r ≡ 5 → entry_of (object_of r) (replay l).entries ≡ some e → unseen r e.placing ≡ false
    → label_key (label_of r) ≡ label_key e.label → judge r (replay l) ≡ fits
unfolding replay empty_tree
own_label_fits l s r = Labels.own_label r (replay l) (Labels.apart-replay empty_tree l tt) (named l s)

-- and a rename that fits is the last place record of its object, in the bytes that it has
pub rename_is_last : (t : Tree) (r : Rec) (e : Entry) → op r ≡ 5 → entry_of (object_of r) t.entries ≡ some e → judge r t ≡ fits
    → (x : Entry) × (entry_of (object_of r) (step t r).entries ≡ some x) × (x.placing ≡ self_of r) × (x.label ≡ label_of r)
unfolding renamed
rename_is_last t r e o q h = (renamed r e, Labels.rename_is_last r t e o q h, refl, refl)

-- the label of an entry is that of a record of the log, its last place record, as it was written
pub label_as_written : (l : List Rec) (e : Entry) → Has e (replay l).entries → (s : Rec) × Has s l × (self_of s ≡ e.placing) × (label_of s ≡ e.label)
label_as_written = label_written

-- ---- the way to the root

pub rooted : (l : List Rec) → sound_after no_counts [] l ≡ true → Rooted (replay l).entries
unfolding replay empty_tree makers
rooted l s =
    let h = sound_means l s in
    Roots.replay_rooted empty_tree l Roots.no_entries (Seen.sound_distinct l h) (λ i. Seen.self_no_root l h root i refl)
    (λ r i z. omega (arith, well_op r (formed [] l r h i)))
    (λ k i. absurd i)

-- each entry reaches the root in fewer steps than there are entries, the root included
pub every_entry_reaches : (l : List Rec) → sound_after no_counts [] l ≡ true → Reaches (replay l).entries
every_entry_reaches l s = Roots.rooted_reaches (replay l).entries (rooted l s)

-- a record that is new keeps this of any tree that has it, not of the empty one alone
pub step_rooted : (t : Tree) (r : Rec) → Rooted t.entries → (Has (self_of r) (makers t.entries) → ⊥) → (self_of r ≡ root → ⊥) → (op r ≡ 0 → ⊥)
    → Rooted (step t r).entries
step_rooted t r w fresh proper one = Roots.step_rooted t r w fresh proper one

pub rooted_reaches : (es : List Entry) → Rooted es → Reaches es
rooted_reaches = Roots.rooted_reaches

-- a folder is at or below an entry exactly when steps lead from it to the entry, so 25 is said of no other move
pub below_exactly : (es : List Entry) → Rooted es → (k f : ℕ) → Stands f es → (is_below k f es ≡ true) ↔ ((s : ℕ) × Way s k f es)
below_exactly = Roots.below_exactly

-- a record that fits and makes, renames or moves an entry is its last place record, whose label and folder it has; every other leaves these.
-- So the last place record is the make or the last rename or move that fitted
pub last_place_record : (t : Tree) (r : Rec) → Rooted t.entries → (Has (self_of r) (makers t.entries) → ⊥) → (k : ℕ) (x : Entry) → entry_of k (step t r).entries ≡ some x
    → PlacedBy k r t x ⊎ PlaceKept k r t x
last_place_record t r w fresh k x q = Places.place_step t r w.alone fresh k x q

-- a record that is the next of its unit and has seen no more than v counts keeps a tree sound, on v with the record counted
pub tree_stays_sound : (v : List ℕ) (t : Tree) (r : Rec) → length v ≡ 8 → well_formed r ≡ true → num r ≡ suc (get_or v (unit r) 0) → ((u : ℕ) → u < 8 → seen r u ≤ get_or v u 0)
    → SoundTree v t → SoundTree (set v (unit r) (num r)) (step t r)
tree_stays_sound = Trees.sound_counted

pub trimmed_tree_is_sound : (v : List ℕ) (t : Tree) → SoundTree v t → SoundTree v (trim t)
trimmed_tree_is_sound = Trees.sound_trim

-- the replay that goes on from the tree of the first records, without rows of removed entries, shows what the replay of all shows
pub replay_from_base : (p l : List Rec) → table_bytes (replay_from (trim (replay p)) l) ≡ table_bytes (replay (p ++ l))
replay_from_base = Trimming.shown_from_base

-- where no record is a move, the tree is that of the rules before there were moves
pub replay_without_moves : (l : List Rec) → ((r : Rec) → Has r l → op r ≤ 6) → replay l ≡ replay_before empty_tree l
unfolding replay
replay_without_moves l h = replay-before empty_tree l h

-- ---- P3: dates and the order of arrival decide nothing

-- records that differ only in dates leave trees that differ only in dates
pub dates_decide_nothing : (l m : List Rec) → SameButDates l m → undated_tree (replay l) ≡ undated_tree (replay m)
unfolding replay
dates_decide_nothing l m d = dates_replay l m empty_tree empty_tree d refl

-- and the tables of such logs differ only in the bytes of dates
pub tables_differ_only_in_dates : (l m : List Rec) → sound_after no_counts [] l ≡ true → sound_after no_counts [] m ≡ true → length l ≤ 512 → length m ≤ 512 → SameButDates l m
    → hide_dates (table_bytes (replay l)) ≡ hide_dates (table_bytes (replay m))
unfolding replay empty_tree
tables_differ_only_in_dates l m s t p q d = hidden l s p ∙ ap table_bytes (dates_decide_nothing l m d) ∙ sym (hidden m t q)
  where
    hidden : (l : List Rec) → sound_after no_counts [] l ≡ true → length l ≤ 512 → hide_dates (table_bytes (replay l)) ≡ table_bytes (undated_tree (replay l))
    hidden l s p =
        table_hidden (replay l)
        (filled-replay empty_tree l (λ r i. well_length r (formed [] l r (sound_means l s) i)) tt)
        (omega (arith, entries_few l))

-- ---- P4: open, settled, disputed

-- a record that stands aside is open until a settle naming it fits, and settled from then on
pub open_until_settled : (before : List Rec) (r : Rec) (after : List Rec) (n k : ℕ)
    → sound_after no_counts [] (before ++ (r ∷ after)) ≡ true
    → judge r (replay before) ≡ aside n k
    → open_of (self_of r) (replay (before ++ (r ∷ after))).asides ≡ not (settled_in (self_of r) (step (replay before) r) after)
open_until_settled before r after n k s = Settling.open_until_settled before r after n k (Seen.sound_distinct (before ++ (r ∷ after)) (sound_means (before ++ (r ∷ after)) s))

-- a second settle fits and changes nothing
pub second_settle_changes_nothing : (r : Rec) (t : Tree) → op r ≡ 6 → stands_aside (object_of r) t.asides ≡ true → open_of (object_of r) t.asides ≡ false
    → (judge r t ≡ fits) × (step t r ≡ t)
second_settle_changes_nothing = Settling.second_settle

-- a record that stands aside, and so a settle that does, can be settled
pub settle_of_an_aside : (t : Tree) (r s : Rec) (n k : ℕ) → judge r t ≡ aside n k → op s ≡ 6 → object_of s ≡ self_of r
    → (judge s (step t r) ≡ fits) × (open_of (self_of r) (step (step t r) s).asides ≡ false)
settle_of_an_aside = Settling.settle_aside

-- a record that fitted, and so a settle that did, cannot
pub settle_of_a_fitted_record : (t : Tree) (r s : Rec) → judge r t ≡ fits → stands_aside (self_of r) t.asides ≡ false → op s ≡ 6 → object_of s ≡ self_of r
    → judge s (step t r) ≡ aside 18 0
settle_of_a_fitted_record = Settling.settle_fitted

-- an entry is disputed exactly while an open aside marks it
pub disputed_while_open : (k : ℕ) (l : List Aside) → (is_disputed k l ≡ true) ↔ ((a : Aside) × Has a l × (a.is_open ≡ true) × (a.marked ≡ k))
disputed_while_open = Settling.disputed_open
