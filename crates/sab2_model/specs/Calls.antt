-- What the calls of SAB2 files answer and leave: writing, reading either form, the two conversions, the listing of either form.
-- Document 02, K11.
-- Assumes nothing.
use Rattle.std.specs.Prelude.{ℕ, Bool, cond, ◌&&◌, List, [], ◌++◌, eqb, length, replicate}
use Rattle.model.specs.Numbers.{bad_buffer}
use Rattle.model.specs.Lengths.{log_size, file_size, tree_size, base_size}
use Rattle.model.specs.Bytes.{padded, put_at}
use Rattle.model.specs.Record.{Rec}
use Rattle.model.specs.Log.{records_of, log_bytes}
use Rattle.model.specs.Replay.{replay_from}
use Rattle.model.specs.Table.{table_bytes}
use Rattle.base_model.specs.Base.{empty_base, base_vector, base_tree}
use Rattle.model.specs.Block.{archive_in, sender_in, vector_in}
use Rattle.model.specs.File.{block_count, file_of, block_at, Fault, fault, or_else, file_records, checked_fault}
use Rattle.call_model.specs.Read.{ReadBack, not_read, read_back}
use Rattle.call_model.specs.Outcome.{Outcome, outcome, guarded, whole_number, show_of}
use Rattle.model.specs.Listing.{head_line, seen_line, tree_lines, refused_line, accepted_lines}
use Rattle.sab2_model.specs.Sab2.{sab2_of, sab2_blocks, sab2_base, sab2_counted, sab2_records, checked_sab2, is_sab2, either_fault}

-- an SAB2 file lent for writing: 186 blocks [F159]
abbrev pub sab2_size : ℕ
sab2_size = 95232

-- ---- writing

-- the file, zeros behind it, and how many blocks it has [F168]
unfoldable pub wrote_sab2 : ℕ → ℕ → List ℕ → List ℕ → List Rec → Outcome
wrote_sab2 archive u log base l = outcome 0 0 log (padded sab2_size (sab2_of archive u base l)) (sab2_blocks base l)

-- 1, 21, 19 [F168]
unfoldable pub write_sab2_of : ℕ → ℕ → List ℕ → List ℕ → List ℕ → Outcome
write_sab2_of archive u log base lent =
    guarded u log base lent (eqb (length lent) sab2_size) (wrote_sab2 archive u log base (records_of log))

-- ---- reading a file of either form

-- list, base and log of an SAB2 file; the count is that of the log [F158] [F169]
unfoldable pub read_sab2 : List ℕ → ReadBack
read_sab2 f =
    record {
      number = 0;
      place = 0;
      archive = archive_in (block_at f 0);
      sender = sender_in (block_at f 0);
      records = sab2_counted f;
      vector = vector_in (block_at f 0);
      log = log_bytes (sab2_records f);
      base = sab2_base f;
    }

-- of an SAB1 file all eight units are listed [F169]
unfoldable pub read_either : List ℕ → ReadBack
read_either f = cond (is_sab2 f) (read_sab2 f) (read_back f)

-- 1, then every check of the file; a refusal leaves log and base [F169]
unfoldable pub read_either_of : List ℕ → List ℕ → List ℕ → ReadBack
read_either_of log base f =
    cond (eqb (length log) log_size && eqb (length base) base_size)
    (cond (eqb (either_fault f).number 0) (read_either f) (not_read log base (either_fault f).number (either_fault f).place))
    (not_read log base bad_buffer 0)

-- ---- the conversions

-- the number and place answered, the count of blocks returned, and the file lent for writing as it is left
pub record Converted : Type 0 where
  pub number : ℕ
  pub place : ℕ
  pub blocks : ℕ
  pub lent : List ℕ

abbrev pub converted : ℕ → ℕ → ℕ → List ℕ → Converted
converted n p k lent = record { number = n; place = p; blocks = k; lent = lent }

-- 1 unless the lent file has n bytes, then the fault; or else the file of k blocks, zeros behind it [F172]
unfoldable pub or_converted : ℕ → Fault → ℕ → List ℕ → List ℕ → Converted
or_converted n e k g lent =
    cond (eqb (length lent) n)
    (cond (eqb e.number 0) (converted 0 0 k (padded n g)) (converted e.number e.place 0 lent))
    (converted bad_buffer 0 0 lent)

-- the records of an SAB1 file as SAB2: an empty base, all eight listed, the same archive and unit [F170]
unfoldable pub as_sab2 : List ℕ → List ℕ
as_sab2 f = sab2_of (archive_in (block_at f 0)) (sender_in (block_at f 0)) empty_base (file_records f)

-- it must be an SAB1 file without a fault [F170]
unfoldable pub to_sab2_of : List ℕ → List ℕ → Converted
to_sab2_of f lent = or_converted sab2_size (checked_fault f) (sab2_blocks empty_base (file_records f)) (as_sab2 f) lent

-- 29 unless the base vector v is all zero, after the fault of the file [F171]
unfoldable pub way_back : Fault → List ℕ → Fault
way_back e v = or_else e (fault (whole_number v) 0)

-- the records of an SAB2 file as SAB1: the same archive and unit; the list is lost [F171]
unfoldable pub as_sab1 : List ℕ → List ℕ
as_sab1 f = file_of (archive_in (block_at f 0)) (sender_in (block_at f 0)) (sab2_records f)

-- it must be an SAB2 file without a fault [F171]
unfoldable pub to_sab1_of : List ℕ → List ℕ → Converted
to_sab1_of f lent =
    or_converted file_size (way_back (checked_sab2 f) (base_vector (sab2_base f))) (block_count (length (sab2_records f))) (as_sab1 f) lent

-- ---- the listing of either form

-- the count of records not folded, the whole vector, the tree of both [F173]
unfoldable pub sab2_lines : List ℕ → List ℕ
sab2_lines f =
    head_line (archive_in (block_at f 0)) (sender_in (block_at f 0)) (sab2_counted f)
    ++ (seen_line (vector_in (block_at f 0)) ++ tree_lines (table_bytes (replay_from (base_tree (sab2_base f)) (sab2_records f))))

-- the lines of an accepted file, or the line of a refusal [F173]
unfoldable pub either_listing : List ℕ → List ℕ
either_listing f =
    cond (eqb (either_fault f).number 0)
    (cond (is_sab2 f) (sab2_lines f) (accepted_lines f))
    (refused_line (either_fault f).number (either_fault f).place)

-- what the reading program prints of the bytes that were read; nothing where the input could not be read to its end [F173]
unfoldable pub either_output : Bool → List ℕ → List ℕ
either_output failed f = cond failed [] (either_listing f)

-- a listing at the most, with room: 1,024 entries of 145 bytes, 512 asides of 46, and 91 [F174]
abbrev pub listing_size : ℕ
listing_size = 172544

-- the number and place of the file's check, the length of the listing; log, base, tree table and text as they are left
pub record Listed : Type 0 where
  pub number : ℕ
  pub place : ℕ
  pub size : ℕ
  pub log : List ℕ
  pub base : List ℕ
  pub tree : List ℕ
  pub text : List ℕ

abbrev pub listed : ℕ → ℕ → ℕ → List ℕ → List ℕ → List ℕ → List ℕ → Listed
listed n p k log base tree text =
    record { number = n; place = p; size = k; log = log; base = base; tree = tree; text = text }

-- log, base, tree table and text have their stated lengths
unfoldable pub listing_lent : List ℕ → List ℕ → List ℕ → List ℕ → Bool
listing_lent log base tree text =
    eqb (length log) log_size && (eqb (length base) base_size && (eqb (length tree) tree_size && eqb (length text) listing_size))

-- the state that is read and its tree; a refused file leaves log and base, and the tree is cleared [F174]
unfoldable pub listed_read : ReadBack → List ℕ → List ℕ → List ℕ → Listed
listed_read r tree text s =
    listed r.number r.place (length s) r.log r.base
    (cond (eqb r.number 0) (show_of r.log r.base tree).lent (replicate tree_size 0))
    (put_at text 0 s)

-- 1 leaves all; else the listing stands at the beginning of the text, for a refused file its line [F174]
unfoldable pub either_listed : List ℕ → List ℕ → List ℕ → List ℕ → List ℕ → Listed
either_listed f log base tree text =
    cond (listing_lent log base tree text)
    (listed_read (read_either_of log base f) tree text (either_listing f))
    (listed bad_buffer 0 0 log base tree text)
