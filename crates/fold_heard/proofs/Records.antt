-- The records of a log that is sound behind a base vector, at their places.
-- Assumes nothing.
use Prim.Native.Nat.{ℕ, zero, suc, ◌+◌, ◌-◌, ◌*◌, ◌≤◌, ◌<◌}
use native.Mathlib.Omega.{arith}
use mathlib.Core.Path.{◌≡◌, refl, subst}
use mathlib.Core.Logic.{inl, inr}
use mathlib.Core.Bool.{true}
use mathlib.Core.List.{List, [], ◌∷◌}
use lib.ListN.{get_or, length, take, drop, replicate}
use Rattle.model.specs.Bytes.{part, padded, joined}
use Rattle.model.specs.Record.{Rec, unit}
use Rattle.model.specs.Log.{records_of, sound_log_on, log_bytes}
use Rattle.byte_slice.proofs.Parts.{part_is}
use Rattle.block_laws.proofs.Fields.{Sized, joined_at}
use Rattle.log_laws.specs.Members.{Has}
use Rattle.log_laws.proofs.Counts.{unit_of_on}
use Rattle.encoding_laws.proofs.Logs.{sound_proper_on, proper_sized, sound_records_on, sound_bytes_on, sound_few}

pub has_at : (l : List Rec) (i : ℕ) → i < length l → Has (get_or l i []) l
has_at [] i h = absurd (omega arith)
has_at (r ∷ l) zero h = inl refl
has_at (r ∷ l) (suc i) h = inr (has_at l i (omega arith))

module _ (v b : List ℕ) (long : length b ≡ 40960) (sound : sound_log_on v b ≡ true) where
  sized : Sized (records_of b)
  sized = proper_sized (records_of b) (sound_proper_on v (records_of b) (sound_records_on v b sound))

  -- the record at a place, as the code lends it
  pub record_at_lem : (i : ℕ) → i < length (records_of b) → take (80 * i + 80 - 80 * i) (drop (80 * i) b) ≡ get_or (records_of b) i []
  unfolding log_bytes padded part
  record_at_lem i h =
      let t : List ℕ = replicate (40960 - length (joined (records_of b))) 0 in
      rw (part_is b (80 * i) 80)
      (subst (λ (x : List ℕ). part x (80 * i) 80 ≡ get_or (records_of b) i []) (sound_bytes_on v b long sound) (joined_at (records_of b) i t sized h))

  pub units_below : (r : Rec) → Has r (records_of b) → unit r < 8
  units_below r i = unit_of_on v [] (records_of b) r (sound_records_on v b sound) i

  pub unit_lent : (i used : ℕ) → used ≡ length (records_of b) → i < used → unit (take (80 * i + 80 - 80 * i) (drop (80 * i) b)) < 8
  unit_lent i used e h = let k : i < length (records_of b) = omega arith in rw (record_at_lem i k) (units_below (get_or (records_of b) i []) (has_at (records_of b) i k))

pub few_used : (b : List ℕ) (used : ℕ) → used ≡ length (records_of b) → used ≤ 512
few_used b used e = omega (arith, sound_few b)
