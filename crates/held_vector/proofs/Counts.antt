-- What the call for the held vector answers and leaves, over plain values.
-- Assumes nothing.
use Prim.Native.Nat.{ℕ, ◌+◌, ◌≤◌, ◌<◌}
use native.Mathlib.Omega.{arith}
use mathlib.Core.Path.{◌≡◌, sym, ◌∙◌}
use mathlib.Core.Bool.{true}
use mathlib.Core.List.{List}
use lib.Dec.{eqb}
use lib.ListN.{length}
use Rattle.model.specs.Bytes.{put_at}
use Rattle.model.specs.Vector.{vector_bytes}
use Rattle.model.specs.Log.{records_of}
use Rattle.base_model.specs.Base.{held_on}
use Rattle.base_head.specs.Head.{headed}
use Rattle.call_model.specs.Outcome.{outcome}
use Rattle.byte_slice.proofs.PutAt.{put_whole}
use Rattle.vector.proofs.InBytes.{vector_bytes-length}
use Rattle.encoding_laws.proofs.Logs.{sound_few}
use Rattle.call_guard.specs.Opened.{opened, open_of}
use Rattle.call_guard.proofs.Opening.{open_used, open_held, open_buffer, call_passes}
use Rattle.held_vector.specs.Held.{held_of}

module _ (log base lent : List ℕ) {n m k j used : ℕ} {v held : List ℕ} (e : opened n (headed m v k j) held used ≡ open_of 0 log base (eqb (length lent) 16) true) (z : n ≡ 0) where
  long : length lent ≡ 16
  long = open_buffer 0 log base true lent 16 e z

  pub vector_fits : 0 + 16 ≤ length lent
  vector_fits = omega (arith, long)

  -- the records of a log are few
  pub few_used : used < 65536
  few_used = omega (arith, open_used 0 log base (eqb (length lent) 16) true e z, sound_few log)

  pub counted : {lent' : List ℕ} → lent' ≡ put_at lent 0 (vector_bytes held) → outcome 0 0 log lent' used ≡ held_of log base lent
  unfolding held_of
  counted {lent'} p =
      let w : lent' ≡ vector_bytes held = p ∙ put_whole lent (vector_bytes held) (vector_bytes-length held ∙ sym long) in
      (rw (w, open_held 0 log base (eqb (length lent) 16) true e z, open_used 0 log base (eqb (length lent) 16) true e z))
      ∙ call_passes 0 log base lent (eqb (length lent) 16) e (outcome 0 0 log (vector_bytes (held_on log base)) (length (records_of log))) z
