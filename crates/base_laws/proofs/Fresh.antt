-- The base after a start: its bytes, what they hold, and that it is sound with an empty log.
-- Assumes nothing.
use Prim.Native.Nat.{ℕ, ◌<◌}
use native.Mathlib.Omega.{arith}
use mathlib.Core.Path.{◌≡◌, refl, ap}
use mathlib.Core.Bool.{true}
use mathlib.Core.List.{[]}
use lib.ListN.{get_or, length, replicate}
use Rattle.model.specs.Bytes.{padded}
use Rattle.model.specs.Vector.{count_bytes, vector_bytes}
use Rattle.model.specs.Log.{no_counts, vector_on, records_of, log_bytes}
use Rattle.model.specs.Replay.{empty_tree}
use Rattle.model.specs.Table.{entry_rows, aside_rows}
use Rattle.log_laws.proofs.Counts.{count-nil, no_counts_lem}
use Rattle.log_laws.proofs.Tests.{vector_on_get_d}
use Rattle.encoding_laws.proofs.Logs.{records_back, log_sound_on, empty_log}
use Rattle.tree_laws.proofs.Trees.{sound_empty}
use Rattle.base_model.specs.Base.{Base, fresh_base, base_bytes, empty_base, base_vector, base_tree, base_in, sound_base, sound_state}
use Rattle.base_laws.specs.Laid.{Lays}
use Rattle.base_laws.proofs.LaidTree.{bytes_length, base_back, base_sound}
use Rattle.base_laws.proofs.Lists.{lists_all_lem}

-- nothing is laid in it
pub fresh_lays : Lays fresh_base
unfolding empty_tree
fresh_lays =
    record {
      eight = refl;
      few_entries = omega arith;
      few_asides = omega arith;
      sound = sound_empty no_counts;
      none-removed = λ e i. absurd i;
    }

pub empty_bytes : base_bytes fresh_base ≡ empty_base
unfolding base_bytes empty_base count_bytes vector_bytes padded entry_rows aside_rows empty_tree
empty_bytes = refl

pub empty_length : length empty_base ≡ 43032
empty_length = rw (← empty_bytes) (bytes_length fresh_base fresh_lays)

pub empty_back : base_in empty_base ≡ fresh_base
empty_back = rw (← empty_bytes) (base_back fresh_base fresh_lays)

pub empty_vector : base_vector empty_base ≡ no_counts
unfolding base_in
empty_vector = ap (λ (b : Base). b.vector) empty_back

pub empty_tree_lem : base_tree empty_base ≡ empty_tree
unfolding base_in
empty_tree_lem = ap (λ (b : Base). b.tree) empty_back

-- it is sound
pub empty_sound : sound_base empty_base ≡ true
empty_sound = rw (← empty_bytes) (base_sound fresh_base fresh_lays)

-- with the log that a start leaves
pub empty_state : sound_state (replicate 40960 0) empty_base ≡ true
unfolding sound_state
empty_state =
    let r : records_of (log_bytes []) ≡ [] = records_back [] (λ x i. absurd i) (omega arith) in
    let a : (u : ℕ) → u < 8 → get_or (vector_on no_counts []) u 0 ≡ 0 = λ u h. omega (arith, vector_on_get_d no_counts [] u h, no_counts_lem u, count-nil u) in
    rw (← empty_log, empty_sound, empty_vector, log_sound_on no_counts [] tt (omega arith), r)
    (lists_all_lem (get_or empty_base 0 0) (vector_on no_counts []) (λ u h z. absurd (z (a u h))))
