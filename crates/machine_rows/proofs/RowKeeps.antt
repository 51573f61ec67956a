-- What the calls of a row leave, whatever they are lent.
-- Assumes nothing.
use Prim.Native.Nat.{ℕ, zero, suc, ◌≤◌}
use native.Mathlib.Omega.{arith}
use mathlib.Core.Path.{◌≡◌, refl}
use mathlib.Core.Logic.{inl, ◌↔◌}
use mathlib.Core.Bool.{Bool, true}
use mathlib.Core.List.{List}
use lib.ListN.{length, get_or}
use Rattle.model.specs.Table.{table_bytes}
use Rattle.model.specs.File.{blocks_in}
use Rattle.base_model.specs.Base.{tree_of}
use Rattle.call_model.specs.Outcome.{guard_number}
use Rattle.row_model.specs.Row.{Tried, row_fits, try_all, took_row, take_row_of, Trial, report_bytes, reported, or_untried, trial_lent, try_of}
use Rattle.call_laws.specs.Keeps.{Good}
use Rattle.call_laws.proofs.Calls.{guard_good, good_guard}
use Rattle.row_laws.specs.Stopped.{Stop}
use Rattle.row_laws.proofs.Turns.{whole_row}
use Rattle.row_laws.proofs.Stops.{stops_never, row_good}
use Rattle.row_laws.proofs.Handing.{hand_row_keeps}
use Rattle.machine_rows.specs.RowKeeps.{RowCallsKeep}

-- ---- the guard

-- what is lent beside log and base is asked first
lent_or_none : (u : ℕ) (log base : List ℕ) (ok row : Bool) → guard_number u log base ok row ≡ 0 → guard_number u log base true row ≡ 0
lent_or_none u log base ok row e =
    let (a, b, c, g) = guard_good u log base ok row e in
    good_guard u log base true row refl b c g

-- ---- taking

took_keeps : (n : ℕ) (log base : List ℕ) (t : Tried) → (n ≡ 0 → Good t.log base)
    → ((took_row n log t).number ≡ 0 → Good (took_row n log t).log base) × (((took_row n log t).number ≡ 0 → ⊥) → (took_row n log t).log ≡ log)
took_keeps zero log base t g = (λ z. g refl, λ z. absurd (z refl))
took_keeps (suc n) log base t g = (λ z. absurd (omega arith), λ z. refl)

took_stops : (n : ℕ) (log : List ℕ) (t : Tried) → (n ≡ 0 → Stop t.stopped) → Stop (took_row n log t).stopped
took_stops zero log t s = s refl
took_stops (suc n) log t s = inl refl

took_whole : (n : ℕ) (log : List ℕ) (t : Tried) (m : ℕ) → (t.stopped ≡ 0) ↔ (t.taken ≡ m) → (took_row n log t).number ≡ 0 → ((took_row n log t).stopped ≡ 0) ↔ ((took_row n log t).taken ≡ m)
took_whole zero log t m w z = w
took_whole (suc n) log t m w z = absurd (omega arith)

-- ---- trying

untried_keeps : (n : ℕ) (base copy tree report : List ℕ) (o : Trial) → o.number ≡ 0 → (n ≡ 0 → Good o.copy base)
    → ((or_untried n copy tree report o).number ≡ 0 → Good (or_untried n copy tree report o).copy base)
    × (((or_untried n copy tree report o).number ≡ 0 → ⊥)
    → ((or_untried n copy tree report o).copy ≡ copy) × ((or_untried n copy tree report o).tree ≡ tree) × ((or_untried n copy tree report o).report ≡ report))
untried_keeps zero base copy tree report o e g = (λ z. g refl, λ z. absurd (z e))
untried_keeps (suc n) base copy tree report o e g = (λ z. absurd (omega arith), λ z. (refl, refl, refl))

tried_took : (n m : ℕ) (log base copy tree report : List ℕ) (t : Tried) → (n ≡ 0 → m ≡ 0) → (or_untried n copy tree report (reported log base t)).number ≡ 0
    → ((took_row m log t).number ≡ 0)
    × ((or_untried n copy tree report (reported log base t)).copy ≡ (took_row m log t).log)
    × ((or_untried n copy tree report (reported log base t)).tree ≡ table_bytes (tree_of (took_row m log t).log base))
    × (get_or (or_untried n copy tree report (reported log base t)).report 0 0 ≡ (took_row m log t).taken)
    × (get_or (or_untried n copy tree report (reported log base t)).report 1 0 ≡ (took_row m log t).stopped)
unfolding reported report_bytes
tried_took zero zero log base copy tree report t h z = (refl, refl, refl, refl, refl)
tried_took zero (suc m) log base copy tree report t h z = absurd (omega (arith, h refl))
tried_took (suc n) m log base copy tree report t h z = absurd (omega arith)

-- ---- all of them

module _ (archive u : ℕ) (log base row : List ℕ) where
  -- the guard lets through
  abbrev guard : ℕ
  guard = guard_number u log base true (row_fits (length row))

  open_good : guard ≡ 0 → (u ≤ 7) × Good log base
  open_good z = let (_, b, _, g) = guard_good u log base true (row_fits (length row)) z in (b, g)

  taking : ((take_row_of archive u log base row).number ≡ 0 → Good (take_row_of archive u log base row).log base)
      × (((take_row_of archive u log base row).number ≡ 0 → ⊥) → (take_row_of archive u log base row).log ≡ log)
  unfolding take_row_of
  taking = took_keeps guard log base (try_all archive u log base row) (λ z. let (a, b) = open_good z in row_good archive u log base row a b)

  stops : Stop (take_row_of archive u log base row).stopped
  unfolding take_row_of
  stops = took_stops guard log (try_all archive u log base row) (λ z. let (a, b) = open_good z in stops_never archive u log base row a b)

  whole : (take_row_of archive u log base row).number ≡ 0 → ((take_row_of archive u log base row).stopped ≡ 0) ↔ ((take_row_of archive u log base row).taken ≡ blocks_in row)
  unfolding take_row_of
  whole z = took_whole guard log (try_all archive u log base row) (blocks_in row) (whole_row archive u log base row) z

  module _ (copy tree report : List ℕ) where
    trying : ((try_of archive u log base row copy tree report).number ≡ 0 → Good (try_of archive u log base row copy tree report).copy base)
        × (((try_of archive u log base row copy tree report).number ≡ 0 → ⊥)
        → ((try_of archive u log base row copy tree report).copy ≡ copy)
        × ((try_of archive u log base row copy tree report).tree ≡ tree)
        × ((try_of archive u log base row copy tree report).report ≡ report))
    unfolding try_of reported
    trying =
        untried_keeps (guard_number u log base (trial_lent copy tree report) (row_fits (length row))) base copy tree report (reported log base (try_all archive u log base row)) refl
        (λ z. let (_, a, _, g) = guard_good u log base (trial_lent copy tree report) (row_fits (length row)) z in row_good archive u log base row a g)

    tried_as_taken : (try_of archive u log base row copy tree report).number ≡ 0
        → ((take_row_of archive u log base row).number ≡ 0)
        × ((try_of archive u log base row copy tree report).copy ≡ (take_row_of archive u log base row).log)
        × ((try_of archive u log base row copy tree report).tree ≡ table_bytes (tree_of (take_row_of archive u log base row).log base))
        × (get_or (try_of archive u log base row copy tree report).report 0 0 ≡ (take_row_of archive u log base row).taken)
        × (get_or (try_of archive u log base row copy tree report).report 1 0 ≡ (take_row_of archive u log base row).stopped)
    unfolding try_of take_row_of
    tried_as_taken z =
        tried_took (guard_number u log base (trial_lent copy tree report) (row_fits (length row))) guard log base copy tree report
        (try_all archive u log base row)
        (lent_or_none u log base (trial_lent copy tree report) (row_fits (length row)))
        z

pub row_calls_keep : RowCallsKeep
row_calls_keep = record { taking = taking; trying = trying; tried_as_taken = tried_as_taken; handing_out = hand_row_keeps; stops = stops; whole = whole }
