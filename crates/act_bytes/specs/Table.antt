-- The bytes that may stand in a new label, and a table of them.
-- Document 02, K5.
-- Assumes nothing.
use Rattle.std.specs.Prelude.{ℕ, ◌<◌, ◌≡◌, Bool, cond, not, ◌&&◌, List, leb, eqb, get_or, length}

-- a byte that may stand in the text of a new label: hexadecimal 20 to 7E but 2F [F105]
unfoldable pub may_stand : ℕ → Bool
may_stand x = leb 32 x && (leb x 126 && not (eqb x 47))

-- 256 numbers, 1 exactly for a byte that may stand in a new label, else 0 [F105]
pub record Right (table : List ℕ) : Type 0 where
  pub long : length table ≡ 256
  pub at : (x : ℕ) → x < 256 → get_or table x 0 ≡ cond (may_stand x) 1 0
