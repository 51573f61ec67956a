-- Claim K9: the premises can be met. A trace whose mark is doubted, with a dispute and a rename behind it; with a later store; and one whose
-- make stands aside. Computed.
-- Assumes nothing.
use Prim.Native.Nat.{ℕ, zero, suc, ◌<◌}
use native.Mathlib.Omega.{arith}
use mathlib.Core.Path.{◌≡◌, refl}
use mathlib.Core.Bool.{true}
use mathlib.Core.Logic.{inl, inr}
use mathlib.Core.List.{List, [], ◌∷◌}
use lib.ListN.{get_or, length, take, replicate}
use Rattle.model.specs.Bytes.{word, blank, same_bytes, part, padded}
use Rattle.model.specs.Table.{identity_bytes}
use Rattle.model.specs.Examples.{◌·◌, A, B, encode, march, stores, renames}
use Rattle.model.specs.Vector as Vec
use Rattle.model.specs.Date as D
use Rattle.model.specs.Record as R
use Rattle.model.specs.Log as L
use Rattle.model.specs.Replay as P
use Rattle.tree_laws.specs.Replayed.{trace_of}
use Rattle.mark_laws.specs.Marks.{OneMarkApart, StaysSmall}
use Rattle.mark_laws.proofs.Claims.{two_logs, sound_but_mark}

pub right : List ℕ
right = replicate 16 1

pub wrong : List ℕ
wrong = replicate 16 2

-- the trace k "A" with the mark m
traced : ℕ → List ℕ → R.Rec
traced k m = march 3 2 k [] R.root R.root A m

-- 0.1 makes the trace; 1.1 makes another of its label and stands aside; 0.2 renames the trace
pub disputed : List ℕ → List R.Rec
disputed m = traced (0 · 1) m ∷ traced (1 · 1) right ∷ renames 4 (0 · 2) (1 ∷ []) (0 · 1) B ∷ []

-- 0.1 makes the trace, and 0.2 stores on it
pub overwritten : List ℕ → List R.Rec
overwritten m = traced (0 · 1) m ∷ stores 4 (0 · 2) (1 ∷ []) (0 · 1) ∷ []

-- 0.1 makes the trace; 1.1, with the mark m, stands aside
pub refused : List ℕ → List R.Rec
refused m = traced (0 · 1) right ∷ traced (1 · 1) m ∷ []

-- 0.1 makes the trace, 0.2 stores on it with the mark m
pub restored : List ℕ → List R.Rec
restored m = traced (0 · 1) right ∷ march 4 3 (0 · 2) (1 ∷ []) (0 · 1) R.root [] m ∷ []

pub marks : List P.Entry → List (List ℕ)
marks [] = []
marks (e ∷ l) = e.mark ∷ marks l

pub record Computed : Type 0 where
  pub sound_disputed : L.sound_after L.no_counts [] (disputed right) ≡ true
  pub sound_overwritten : L.sound_after L.no_counts [] (overwritten right) ≡ true
  pub sound_refused : L.sound_after L.no_counts [] (refused right) ≡ true
  pub sound_restored : L.sound_after L.no_counts [] (restored right) ≡ true
  pub apart_disputed : OneMarkApart 0 (disputed right) (disputed wrong)
  pub apart_overwritten : OneMarkApart 0 (overwritten right) (overwritten wrong)
  pub apart_refused : OneMarkApart 1 (refused right) (refused wrong)
  pub apart_restored : OneMarkApart 1 (restored right) (restored wrong)
  pub long_disputed : length (get_or (disputed wrong) 0 []) ≡ 80
  pub long_overwritten : length (get_or (overwritten wrong) 0 []) ≡ 80
  pub long_refused : length (get_or (refused wrong) 1 []) ≡ 80
  pub long_restored : length (get_or (restored wrong) 1 []) ≡ 80
  -- the later store fits, and is on the same trace
  pub later : P.judge (get_or (overwritten right) 1 []) (P.replay (take 1 (overwritten right))) ≡ P.fits
  pub stores_on : (R.op (get_or (overwritten right) 1 []) ≡ 3) × (R.object_of (get_or (overwritten right) 1 []) ≡ trace_of (get_or (overwritten right) 0 []))
  -- the make stands aside
  pub stands : P.judge (get_or (refused right) 1 []) (P.replay (take 1 (refused right))) ≡ P.aside 15 (0 · 1)
  -- one log shows the one mark, the other the other
  pub one : marks (P.replay (disputed right)).entries ≡ right ∷ []
  pub other : marks (P.replay (disputed wrong)).entries ≡ wrong ∷ []
  pub stored : marks (P.replay (restored right)).entries ≡ right ∷ []
  pub other_stored : marks (P.replay (restored wrong)).entries ≡ wrong ∷ []

computed : Computed
unfolding word blank same_bytes part padded Vec.covers_to Vec.covers Vec.counts_at Vec.vector_at Vec.count_bytes Vec.vector_bytes D.is_leap D.days_of D.is_date R.identity R.unit R.op R.num R.seen R.seen_vector R.identity_at R.self_of R.object_of R.folder_of R.date_bytes R.label_of R.mark_of R.text_length R.printable R.is_label R.uses_object R.uses_folder R.uses_label R.uses_mark R.unused R.names R.object_fits R.folder_fits R.label_fits R.mark_fits R.date_fits R.head_fits R.well_formed L.rank L.count L.counts_to L.counts_on_to L.vector_on L.vector_of L.by_id L.is_next L.is_within L.all_to L.nowhere_above L.is_closed L.rises L.record_fault L.sound_after P.empty_tree P.is_present P.lower P.label_key P.same_label P.entry_of P.is_in P.is_holder P.holder_of P.unseen P.free_label P.and_then P.is_folder P.folder_stands P.judge_make P.judge_store P.judge_rename P.judge P.new_entry P.stored P.renamed P.changed P.effect P.apply P.step P.replay_from P.replay identity_bytes encode march stores renames trace_of right wrong traced disputed overwritten refused restored marks
computed =
    record {
      sound_disputed = refl;
      sound_overwritten = refl;
      sound_refused = refl;
      sound_restored = refl;
      apart_disputed = record { as_long = refl; there = omega arith; gives_mark = inl refl; but_mark = refl; elsewhere = behind };
      apart_overwritten = record { as_long = refl; there = omega arith; gives_mark = inl refl; but_mark = refl; elsewhere = behind₁ };
      apart_refused = record { as_long = refl; there = omega arith; gives_mark = inl refl; but_mark = refl; elsewhere = before };
      apart_restored = record { as_long = refl; there = omega arith; gives_mark = inr refl; but_mark = refl; elsewhere = before₁ };
      long_disputed = refl;
      long_overwritten = refl;
      long_refused = refl;
      long_restored = refl;
      later = refl;
      stores_on = (refl, refl);
      stands = refl;
      one = refl;
      other = refl;
      stored = refl;
      other_stored = refl;
    }
  where
    behind : (j : ℕ) → j < 3 → (j ≡ 0 → ⊥) → get_or (disputed right) j [] ≡ get_or (disputed wrong) j []
    behind zero h d = absurd (d refl)
    behind (suc j) h d = refl

    behind₁ : (j : ℕ) → j < 2 → (j ≡ 0 → ⊥) → get_or (overwritten right) j [] ≡ get_or (overwritten wrong) j []
    behind₁ zero h d = absurd (d refl)
    behind₁ (suc j) h d = refl

    before : (j : ℕ) → j < 2 → (j ≡ 1 → ⊥) → get_or (refused right) j [] ≡ get_or (refused wrong) j []
    before zero h d = refl
    before (suc zero) h d = absurd (d refl)
    before (suc (suc j)) h d = refl

    before₁ : (j : ℕ) → j < 2 → (j ≡ 1 → ⊥) → get_or (restored right) j [] ≡ get_or (restored wrong) j []
    before₁ zero h d = refl
    before₁ (suc zero) h d = absurd (d refl)
    before₁ (suc (suc j)) h d = refl

small : (i : ℕ) (l m : List R.Rec) → L.sound_after L.no_counts [] l ≡ true → OneMarkApart i l m → length (get_or m i []) ≡ 80 → StaysSmall i l m
small i l m s a n = two_logs i l m s (sound_but_mark i l m s a n) a

pub one_differs : StaysSmall 0 (disputed right) (disputed wrong)
one_differs = small 0 (disputed right) (disputed wrong) computed.sound_disputed computed.apart_disputed computed.long_disputed

pub one_stored_differs : StaysSmall 1 (restored right) (restored wrong)
one_stored_differs = small 1 (restored right) (restored wrong) computed.sound_restored computed.apart_restored computed.long_restored

pub none_after_a_store : P.replay (overwritten right) ≡ P.replay (overwritten wrong)
unfolding overwritten
none_after_a_store =
    (small 0 (overwritten right) (overwritten wrong) computed.sound_overwritten computed.apart_overwritten computed.long_overwritten
    ).stored_later 1 (omega arith) (omega arith) computed.stores_on.0 computed.stores_on.1 computed.later

pub none_of_an_aside : P.replay (refused right) ≡ P.replay (refused wrong)
none_of_an_aside =
    (small 1 (refused right) (refused wrong) computed.sound_refused computed.apart_refused computed.long_refused
    ).stands_aside_lem 15 (0 · 1) computed.stands
