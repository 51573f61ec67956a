-- What the first block of a file and the blocks of its records are read as.
-- Assumes nothing.
use Rattle.std.specs.Prelude.{List, ℕ}
use Rattle.model.specs.Log.{log_bytes}
use Rattle.model.specs.Block.{archive_in, sender_in, vector_in}
use Rattle.model.specs.File.{records_counted, file_records}
use Rattle.call_model.specs.Read.{ReadBack}

-- archive, unit and vector of the first block, the records of the part, and a base
unfoldable pub read_from : List ℕ → List ℕ → List ℕ → ReadBack
read_from first part base =
    record {
      number = 0;
      place = 0;
      archive = archive_in first;
      sender = sender_in first;
      records = records_counted part;
      vector = vector_in first;
      log = log_bytes (file_records part);
      base = base;
    }
