-- The block that is handed out, and the ways out of handing out, over plain values.
-- Assumes nothing.
use Prim.Native.Nat.{ℕ, ◌-◌}
use native.Mathlib.Omega.{arith}
use mathlib.Core.Path.{◌≡◌, refl, sym, ◌∙◌}
use mathlib.Core.Bool.{Bool, true, false, not}
use mathlib.Core.List.{List, [], ◌∷◌, ◌++◌, append-nil}
use lib.Dec.{eqb}
use lib.ListN.{length, take, replicate, length-append, length-replicate}
use borrow.Author.Tests.{not-true, not-false}
use Rattle.model.specs.Bytes.{padded, joined}
use Rattle.model.specs.Vector.{covers}
use Rattle.model.specs.Record.{Rec}
use Rattle.model.specs.Log.{records_of, sound_log_on, lacking}
use Rattle.model.specs.Block.{head_bytes, body_bytes, sealed, block_of}
use Rattle.model.specs.File.{header_of}
use Rattle.base_model.specs.Base.{base_vector}
use Rattle.call_model.specs.Outcome.{outcome, refusal, hand_block, handed, hand_of}
use Rattle.base_head.specs.Head.{headed}
use Rattle.call_guard.specs.Opened.{opened, open_of}
use Rattle.call_guard.proofs.Opening.{open_sound, open_held, open_folded, open_buffer, call_refused, call_passes}

no_records : (l : List Rec) → length l ≡ 0 → l ≡ []
no_records [] e = refl
no_records (r ∷ l) e = absurd (omega arith)

padded_twice : (n : ℕ) (s : List ℕ) → padded n (padded n s) ≡ padded n s
unfolding padded
padded_twice n s =
    let m = length-append s (replicate (n - length s) 0) in
    let k = length-replicate {A = ℕ} (n - length s) 0 in
    let e : n - length (s ++ replicate (n - length s) 0) ≡ 0 = omega arith in
    rw (e, append-nil)

module _ (a u : ℕ) (b v h : List ℕ) {n : ℕ} {o : List ℕ} (counted : n ≡ length (take 6 (lacking v (records_of b)))) where
  pub none-lacking : n ≡ 0 → o ≡ block_of (record { archive = a; sender = u; place = 0; vector = h }) [] → o ≡ hand_block a u h (records_of b) v
  unfolding hand_block header_of
  none-lacking e f = rw (no_records (take 6 (lacking v (records_of b))) (omega arith)) f

  pub some_lacking : (d : List ℕ) → d ≡ padded 480 (joined (take 6 (lacking v (records_of b)))) → o ≡ sealed (head_bytes (record { archive = a; sender = u; place = 0; vector = h }) n ++ padded 480 d)
      → o ≡ hand_block a u h (records_of b) v
  unfolding hand_block header_of block_of body_bytes
  some_lacking d e f =
      let l : List Rec = take 6 (lacking v (records_of b)) in
      f ∙ rw (e, padded_twice 480 (joined l), counted)

-- ---- the ways out

module _ (a u : ℕ) (log base v lent : List ℕ) {n m k j : ℕ} {folded held : List ℕ} {used : ℕ} (e : opened n (headed m folded k j) held used ≡ open_of u log base (eqb (length lent) 512) true) where
  pub hand_refused : (n ≡ 0 → ⊥) → refusal n log lent ≡ hand_of a u log base v lent
  unfolding hand_of
  hand_refused h = call_refused u log base lent (eqb (length lent) 512) e (handed a u log base v lent) h

  module _ (z : n ≡ 0) (t : Bool) (c : t ≡ covers v folded) where
    asks : covers v (base_vector base) ≡ t
    asks = sym (rw (open_folded u log base (eqb (length lent) 512) true e z) at c)

    -- what is lacked may be folded
    pub asked_below : not t ≡ true → refusal 27 log lent ≡ hand_of a u log base v lent
    unfolding hand_of handed
    asked_below h =
        let d : refusal 27 log lent ≡ handed a u log base v lent = rw (asks, not-true t h) in
        d ∙ call_passes u log base lent (eqb (length lent) 512) e (handed a u log base v lent) z

    module _ (g : not t ≡ false) (bytes : List ℕ) where
      pub handed_out : (o : List ℕ) → o ≡ bytes → bytes ≡ hand_block a u held (records_of log) v → outcome 0 0 log o 0 ≡ hand_of a u log base v lent
      unfolding hand_of handed
      handed_out o p q =
          let d : outcome 0 0 log o 0 ≡ handed a u log base v lent = rw (p, q, open_held u log base (eqb (length lent) 512) true e z, asks, not-false t g) in
          d ∙ call_passes u log base lent (eqb (length lent) 512) e (handed a u log base v lent) z

-- the log is sound behind the base vector that the call is told
pub told_sound : (u : ℕ) (log base : List ℕ) (ok row : Bool) {n m k j : ℕ} {folded held : List ℕ} {used : ℕ} → opened n (headed m folded k j) held used ≡ open_of u log base ok row → n ≡ 0
    → sound_log_on folded log ≡ true
told_sound u log base ok row e z = rw (open_folded u log base ok row e z) (open_sound u log base ok row e z)

pub block_fits : (u : ℕ) (log base lent bytes : List ℕ) {n m k j : ℕ} {folded held : List ℕ} {used : ℕ} → opened n (headed m folded k j) held used ≡ open_of u log base (eqb (length lent) 512) true → n ≡ 0
    → length bytes ≡ 512 → length lent ≡ length bytes
block_fits u log base lent bytes e z long = omega (arith, open_buffer u log base true lent 512 e z)
