-- A wish with the number and the vector that it is given, and what is asked of it before the replay.
-- Assumes nothing.
use Rattle.std.specs.Prelude.{ℕ, Bool, cond, ◌&&◌, List, ◌++◌, ltb, eqb, get_or, take, drop}
use Rattle.model.specs.Numbers.{malformed, full_log, stroke_in_label, unlisted, last_number, first_of}
use Rattle.model.specs.Lengths.{log_places}
use Rattle.model.specs.Bytes.{two, blank, part}
use Rattle.model.specs.Vector.{vector_bytes}
use Rattle.model.specs.Record.{Rec, label_of, label_fits, has_stroke}
use Rattle.base_model.specs.Base.{is_listed}
use Rattle.act_label.specs.Label.{body_fits}

-- the wish w with the number n and the vector v
unfoldable pub stamped_by : ℕ → List ℕ → List ℕ → Rec
stamped_by n v w = take 2 w ++ (two n ++ (vector_bytes v ++ drop 20 w))

-- a wish of the unit u, number and seen zero, whose record r fits, whatever its number
unfoldable pub fits_as : ℕ → List ℕ → Rec → Bool
fits_as u w r = eqb (get_or w 0 0) u && (blank (part w 2 18) && (body_fits r && label_fits r))

-- the checks of a wish of the unit u that becomes the record r, in their order: 7, 24; or 0
unfoldable pub number_as : ℕ → List ℕ → Rec → ℕ
number_as u w r = first_of (cond (fits_as u w r) 0 malformed) (cond (has_stroke (label_of r)) stroke_in_label 0)

-- 28 behind c own records, then 11 in a log of n; or 0
unfoldable pub room_as : ℕ → ℕ → ℕ
room_as c n = cond (ltb c 65535) (cond (ltb n log_places) 0 full_log) last_number

-- what comes before the replay, with the list m, the held vector h and a log of n records: 26, 7, 24, 28, 11; or 0
unfoldable pub early_as : ℕ → ℕ → List ℕ → ℕ → List ℕ → Rec → ℕ
early_as m u h n w r = first_of (cond (is_listed m u) 0 unlisted) (first_of (number_as u w r) (room_as (get_or h u 0) n))
