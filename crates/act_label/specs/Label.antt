-- The label of a wish by a table of its bytes, and what else its record is asked.
-- Document 02, K5.
-- Assumes nothing.
use Rattle.std.specs.Prelude.{ℕ, zero, suc, Bool, true, cond, ◌&&◌, ◌||◌, List, leb, eqb, get_or}
use Rattle.model.specs.Numbers.{malformed, stroke_in_label, first_of}
use Rattle.model.specs.Record.{Rec, op, label_of, is_label, object_fits, folder_fits, date_fits, label_fits, mark_fits, has_stroke}
use Rattle.act_bytes.specs.Table.{may_stand}

-- each of the first n bytes may stand
unfoldable pub stand_to : List ℕ → ℕ → Bool
stand_to t zero = true
stand_to t (suc n) = stand_to t n && may_stand (get_or t n 0)

-- each of the first n bytes may stand, or is a stroke
unfoldable pub plain_to : List ℕ → ℕ → Bool
plain_to t zero = true
plain_to t (suc n) = plain_to t n && (may_stand (get_or t n 0) || eqb (get_or t n 0) 47)

-- 7, 24 or 0 of the first n bytes
unfoldable pub text_number : List ℕ → ℕ → ℕ
text_number t n = cond (stand_to t n) 0 (cond (plain_to t n) stroke_in_label malformed)

-- of a text with the zeros behind it: 7 if it is no label, 24 if it has a stroke; or 0 [F106]
unfoldable pub label_number : List ℕ → ℕ
label_number t = first_of (cond (is_label t) 0 malformed) (cond (has_stroke t) stroke_in_label 0)

-- the same of the label field of a record
unfoldable pub field_number : Rec → ℕ
field_number r = first_of (cond (label_fits r) 0 malformed) (cond (has_stroke (label_of r)) stroke_in_label 0)

-- a known operation, and each field but the label fits; unit and number are not asked
unfoldable pub body_fits : Rec → Bool
body_fits r = leb 1 (op r) && (leb (op r) 7 && (object_fits r && (folder_fits r && (date_fits r && mark_fits r))))
