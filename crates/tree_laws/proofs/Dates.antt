-- Dates decide nothing: records that differ only in dates leave trees that differ only in dates.
-- Assumes nothing.
use mathlib.Core.Path.{◌≡◌, refl, sym, ap, ◌∙◌}
use mathlib.Core.List.{List, [], ◌∷◌}
use lib.ListN.{take, drop}
use lib.Seq.{drop-drop}
use Rattle.model.specs.Bytes.{part}
use Rattle.model.specs.Record.{Rec, label_of, mark_of}
use Rattle.model.specs.Replay.{Tree, replay_from}
use Rattle.tree_laws.specs.Replayed.{Pairs, SameButDate, SameButDates, undated, undated_tree}
use Rattle.tree_laws.proofs.Blind.{Telling, blind, Alike, front_same, read_same, replay-alike}

-- dates forgotten, and marks as they are
unfoldable pub forgotten : Telling
forgotten k x = 0 ∷ 0 ∷ 0 ∷ 0 ∷ []

unfoldable pub kept : Telling
kept k x = x

date_alike : (r s : Rec) → SameButDate r s → Alike forgotten kept r s
unfolding forgotten kept label_of mark_of part
date_alike r s (e, d) =
    record {
      read = read_same r s (front_same 28 r s e) (ap (take 32) d);
      date_alike = refl;
      mark_alike = ap (take 16) (sym (drop-drop 32 32 r) ∙ ap (drop 32) d ∙ drop-drop 32 32 s);
    }

dates_alike : (l m : List Rec) → SameButDates l m → Pairs (Alike forgotten kept) l m
dates_alike [] [] d = tt
dates_alike [] (s ∷ m) d = absurd d
dates_alike (r ∷ l) [] d = absurd d
dates_alike (r ∷ l) (s ∷ m) d = (date_alike r s d.0, dates_alike l m d.1)

pub dates_replay : (l m : List Rec) (t u : Tree) → SameButDates l m → undated_tree t ≡ undated_tree u → undated_tree (replay_from t l) ≡ undated_tree (replay_from u m)
unfolding undated_tree undated blind forgotten kept
dates_replay l m t u d e = replay-alike forgotten kept (λ k x. refl) (λ k x. refl) l m t u (dates_alike l m d) e
