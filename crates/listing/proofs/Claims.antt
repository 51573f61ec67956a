-- A listing fits the lent text.
-- Assumes nothing.
use Prim.Native.Nat.{ℕ, ◌+◌, ◌≤◌}
use native.Mathlib.Omega.{arith}
use mathlib.Core.Path.{◌≡◌, ap}
use mathlib.Core.List.{List, ◌++◌}
use lib.ListN.{length, take, drop, length-append}
use Rattle.model.specs.Numbers.{bad_buffer}
use Rattle.model.specs.Bytes.{put_at}
use Rattle.sab2_model.specs.Calls.{either_listing, Listed, listed, listing_lent, listed_read, read_either_of, either_listed}
use Rattle.tree_laws.proofs.Steps.{cond_elim}

-- what is put somewhere is not longer than what is left
pub put_fits : (d s : List ℕ) → length s ≤ length (put_at d 0 s)
unfolding put_at
put_fits d s = omega (arith, length-append (take 0 d) (s ++ drop (0 + length s) d), length-append s (drop (0 + length s) d))

-- the length that is answered is at most that of the text that is left
pub answered_length_fits : (f log base tree text log' base' tree' text' : List ℕ) (n p k : ℕ)
    → listed n p k log' base' tree' text' ≡ either_listed f log base tree text → k ≤ length text'
unfolding either_listed listed_read
answered_length_fits f log base tree text log' base' tree' text' n p k e =
    let size : k ≡ (either_listed f log base tree text).size = ap (λ (x : Listed). x.size) e in
    let left : text' ≡ (either_listed f log base tree text).text = ap (λ (x : Listed). x.text) e in
    let fits : (either_listed f log base tree text).size ≤ length (either_listed f log base tree text).text =
    cond_elim (λ (x : Listed). x.size ≤ length x.text) (listing_lent log base tree text)
    (listed_read (read_either_of log base f) tree text (either_listing f))
    (listed bad_buffer 0 0 log base tree text)
    (λ _. put_fits text (either_listing f))
    (λ _. omega arith) in
    rw (size, left) fits
