-- A log that is sound behind a base vector rises, with zeros behind its records.
-- Assumes nothing.
use Prim.Native.Nat.{ℕ, ◌*◌}
use mathlib.Core.Path.{◌≡◌}
use mathlib.Core.Bool.{true}
use mathlib.Core.List.{List, []}
use lib.ListN.{length, drop}
use Rattle.model.specs.Bytes.{blank}
use Rattle.model.specs.Log.{sound_after, records_of, sound_log_on}
use Rattle.byte_slice.proofs.Numbers.{and_true}
use Rattle.encoding_laws.proofs.Logs.{sound_records_on}
use Rattle.log_check.specs.declared.Layout.TheVariants.{Log}
use Rattle.log_check.specs.Places.{laid_at}
use Rattle.log_check.proofs.Sound.{listed_records}
use Rattle.log_insert.specs.Where.{Ordered}
use Rattle.log_insert.proofs.Ranked.{sound_rising}

pub sound_ordered : (v log : List ℕ) (n : ℕ) → sound_log_on v log ≡ true → n ≡ length (records_of log) → Ordered log n
unfolding sound_log_on
sound_ordered v log n s e =
    record {
      rising = sound_rising (laid_at Log log) v n (rw (listed_records log n e) (sound_records_on v log s));
      clear = rw e (and_true (sound_after v [] (records_of log)) (blank (drop (80 * length (records_of log)) log)) s).1;
    }
