-- The ways out of writing an SAB2 file, over plain values.
-- Assumes nothing.
use Prim.Native.Nat.{ℕ, ◌≤◌}
use native.Mathlib.Omega.{arith}
use mathlib.Core.Path.{◌≡◌, ◌∙◌}
use mathlib.Core.Bool.{true}
use mathlib.Core.List.{List}
use lib.Dec.{eqb}
use lib.ListN.{length}
use Rattle.model.specs.Bytes.{padded}
use Rattle.model.specs.Log.{records_of, sound_log_on}
use Rattle.call_model.specs.Outcome.{outcome}
use Rattle.encoding_laws.proofs.Logs.{sound_few}
use Rattle.base_laws.proofs.Trees.{sound_tells}
use Rattle.base_head.specs.Head.{headed}
use Rattle.call_guard.specs.Opened.{opened, open_of}
use Rattle.call_guard.proofs.Opening.{open_base, open_sound, open_folded, open_entries, open_asides, open_used, call_refused, call_passes}
use Rattle.sab2_model.specs.Sab2.{sab2_of, sab2_blocks}
use Rattle.sab2_model.specs.Calls.{wrote_sab2, write_sab2_of}

module _ (a u : ℕ) (log base lent : List ℕ) {n m k j : ℕ} {folded held : List ℕ} {used : ℕ} (e : opened n (headed m folded k j) held used ≡ open_of u log base (eqb (length lent) 95232) true) where
  pub write_refused : (n ≡ 0 → ⊥) → outcome n 0 log lent 0 ≡ write_sab2_of a u log base lent
  unfolding write_sab2_of
  write_refused h = call_refused u log base lent (eqb (length lent) 95232) e (wrote_sab2 a u log base (records_of log)) h

  pub all_written : n ≡ 0 → (i : ℕ) (o : List ℕ) → o ≡ padded 95232 (sab2_of a u base (records_of log)) → i ≡ sab2_blocks base (records_of log) → outcome 0 0 log o i ≡ write_sab2_of a u log base lent
  unfolding write_sab2_of wrote_sab2
  all_written z i o p q =
      let d : outcome 0 0 log o i ≡ wrote_sab2 a u log base (records_of log) = rw (p, q) in
      d ∙ call_passes u log base lent (eqb (length lent) 95232) e (wrote_sab2 a u log base (records_of log)) z

-- what the state is known to be, for the code
module _ (u : ℕ) (log base lent : List ℕ) {n m k j : ℕ} {folded held : List ℕ} {used : ℕ} (e : opened n (headed m folded k j) held used ≡ open_of u log base (eqb (length lent) 95232) true) (z : n ≡ 0) where
  pub state_sound : sound_log_on folded log ≡ true
  state_sound = rw (open_folded u log base (eqb (length lent) 95232) true e z) (open_sound u log base (eqb (length lent) 95232) true e z)

  pub few_entries : k ≤ 512
  few_entries =
      omega (arith, open_entries u log base (eqb (length lent) 95232) true e z, (sound_tells base (open_base u log base (eqb (length lent) 95232) true e z)).few_entries)

  pub few_asides : j ≤ 512
  few_asides =
      omega (arith, open_asides u log base (eqb (length lent) 95232) true e z, (sound_tells base (open_base u log base (eqb (length lent) 95232) true e z)).few_asides)

  pub used_few : used ≤ 512
  used_few = omega (arith, open_used u log base (eqb (length lent) 95232) true e z, sound_few log)
