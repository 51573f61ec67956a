-- A well-formed record, in plain words: each condition by itself, and the fields of each operation.
-- Assumes nothing.
use Rattle.std.specs.Prelude.{ℕ, suc, ◌+◌, ◌≤◌, ◌<◌, ◌≡◌, ◌⊎◌, get_or, length}
use Rattle.model.specs.Bytes.{word, part}
use Rattle.model.specs.Record.{Rec, unit, op, num, seen}
use Rattle.record_date.specs.RealDate.{RealDate}
use Rattle.record_label.specs.Label.{Label}

-- n bytes from a place on are zero
abbrev pub Zero : Rec → ℕ → ℕ → Type 0
Zero r at n = (i : ℕ) → i < n → get_or r (at + i) 0 ≡ 0

-- the four bytes at a place name an identity: unit 0 to 7, a zero byte, a number of at least 1 and within seen
pub record Named (r : Rec) (at : ℕ) : Type 0 where
  pub unit_known : get_or r at 0 ≤ 7
  pub byte_zero : get_or r (at + 1) 0 ≡ 0
  pub number : 1 ≤ word r (at + 2)
  pub within : word r (at + 2) ≤ seen r (get_or r at 0)

-- the folder is the root 0.0, or is named
abbrev pub Folder : Rec → Type 0
Folder r = Zero r 24 4 ⊎ Named r 24

-- the object (20 to 23), the folder (24 to 27), the label (32 to 63) and the mark (64 to 79) of each operation
pub data Used (r : Rec) : Type 0 where
  make_folder : op r ≡ 1 → Zero r 20 4 → Folder r → Label (part r 32 32) → Zero r 64 16 → Used r
  make_trace : op r ≡ 2 → Zero r 20 4 → Folder r → Label (part r 32 32) → Used r
  store : op r ≡ 3 → Named r 20 → Zero r 24 4 → Zero r 32 32 → Used r
  remove : op r ≡ 4 → Named r 20 → Zero r 24 4 → Zero r 32 32 → Zero r 64 16 → Used r
  rename : op r ≡ 5 → Named r 20 → Zero r 24 4 → Label (part r 32 32) → Zero r 64 16 → Used r
  settle : op r ≡ 6 → Named r 20 → Zero r 24 4 → Zero r 32 32 → Zero r 64 16 → Used r
  move : op r ≡ 7 → Named r 20 → Folder r → Label (part r 32 32) → Zero r 64 16 → Used r

pub record WellFormed (r : Rec) : Type 0 where
  pub size : length r ≡ 80
  pub unit_known : unit r ≤ 7
  pub number : 1 ≤ num r
  pub own : num r ≡ suc (seen r (unit r))
  pub date : RealDate (word r 28) (get_or r 30 0) (get_or r 31 0)
  pub used : Used r
