-- Reading a file into a lent log and base.
-- Document 01, "Log, blocks and file"; document 02, K10.
-- Assumes nothing.
use Rattle.std.specs.Prelude.{ℕ, cond, ◌&&◌, List, [], ◌∷◌, eqb, length}
use Rattle.model.specs.Numbers.{bad_buffer}
use Rattle.model.specs.Lengths.{log_size, base_size}
use Rattle.model.specs.Log.{log_bytes}
use Rattle.model.specs.Block.{archive_in, sender_in, vector_in}
use Rattle.model.specs.File.{block_at, file_records, records_counted, checked_fault}
use Rattle.base_model.specs.Base.{empty_base}

-- what reading a file into a lent log and base answers and leaves; a refusal leaves both, and zeros for the rest
pub record ReadBack : Type 0 where
  pub number : ℕ
  pub place : ℕ
  pub archive : ℕ
  pub sender : ℕ
  pub records : ℕ
  pub vector : List ℕ
  pub log : List ℕ
  pub base : List ℕ

-- [F58]
unfoldable pub not_read : List ℕ → List ℕ → ℕ → ℕ → ReadBack
not_read log base n p =
    record {
      number = n;
      place = p;
      archive = 0;
      sender = 0;
      records = 0;
      vector = 0 ∷ 0 ∷ 0 ∷ 0 ∷ 0 ∷ 0 ∷ 0 ∷ 0 ∷ [];
      log = log;
      base = base;
    }

-- the file holds no list: all eight units are listed, and nothing is folded [F74] [F149]
unfoldable pub read_back : List ℕ → ReadBack
read_back f =
    record {
      number = 0;
      place = 0;
      archive = archive_in (block_at f 0);
      sender = sender_in (block_at f 0);
      records = records_counted f;
      vector = vector_in (block_at f 0);
      log = log_bytes (file_records f);
      base = empty_base;
    }

unfoldable pub read_of : List ℕ → List ℕ → List ℕ → ReadBack
read_of log base f =
    cond (eqb (length log) log_size && eqb (length base) base_size)
    (cond (eqb (checked_fault f).number 0) (read_back f) (not_read log base (checked_fault f).number (checked_fault f).place))
    (not_read log base bad_buffer 0)
