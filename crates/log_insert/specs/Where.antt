-- Where records go by rank.
-- Assumes nothing.
use Rattle.std.specs.Prelude.{ℕ, zero, suc, ◌*◌, ◌<◌, ◌≡◌, true, cond, List, leb, drop}
use Rattle.model.specs.Bytes.{blank}
use Rattle.model.specs.Record.{Rec}
use Rattle.model.specs.Log.{rank, insert}
use Rattle.log_check.specs.declared.Layout.TheVariants.{Log}
use Rattle.log_check.specs.Places.{laid_at}

-- the place behind the last of the first n records that ranks no higher than k
unfoldable pub place_behind : (ℕ → Rec) → ℕ → ℕ → ℕ
place_behind at k zero = 0
place_behind at k (suc n) = cond (leb (rank (at n)) k) (suc n) (place_behind at k n)

-- the first n records rise in rank
pub record Rising (at : ℕ → Rec) (n : ℕ) : Type 0 where
  pub rises : (j : ℕ) → suc j < n → rank (at j) < rank (at (suc j))

-- the first n records of a log rise in rank, with zeros behind them: so those of a log that is sound behind any base vector
pub record Ordered (log : List ℕ) (n : ℕ) : Type 0 where
  pub rising : Rising (laid_at Log log) n
  pub clear : blank (drop (80 * n) log) ≡ true

-- the first n records put in by rank, one after another
unfoldable pub insert_to : List Rec → (ℕ → Rec) → ℕ → List Rec
insert_to l at zero = l
insert_to l at (suc n) = insert (at n) (insert_to l at n)
