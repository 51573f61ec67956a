-- What is printed of the bytes that were read: their listing, and nothing where a read failed. It fits the lent text.
-- Assumes nothing.
use Prim.Native.Nat.{ℕ, ◌≤◌}
use native.Mathlib.Omega.{arith}
use mathlib.Core.Path.{◌≡◌, refl, sym, ap, ◌∙◌}
use mathlib.Core.Bool.{Bool, true, false}
use mathlib.Core.List.{List}
use lib.ListN.{length}
use borrow.Author.Tests.{eq-eqb}
use Rattle.sab2_model.specs.Calls.{either_listing, either_output, Listed, listed, listing_lent, listed_read, read_either_of, either_listed}
use Rattle.byte_slice.proofs.PutAt.{put-nil}
use Rattle.line_text.specs.Written.{Wrote}
use Rattle.listing.proofs.Claims.{put_fits}

-- nothing is printed where a read failed
pub failed_output : (failed : Bool) (f text : List ℕ) → failed ≡ true → Wrote text text 0 0 (either_output failed f)
unfolding either_output
failed_output failed f text e = rw e (record { bytes = sym (put-nil text 0); next = refl })

-- the listing is printed where none did
pub listed_output : (failed : Bool) (f log base tree text log' base' tree' text' : List ℕ) (n p k : ℕ) → failed ≡ false
    → listed n p k log' base' tree' text' ≡ either_listed f log base tree text → length log ≡ 40960 → length base ≡ 43032 → length tree ≡ 86020
    → length text ≡ 172544 → Wrote text text' 0 k (either_output failed f)
unfolding either_output either_listed listed_read listing_lent
listed_output failed f log base tree text log' base' tree' text' n p k h e a b c d =
    let is : either_listed f log base tree text ≡ listed_read (read_either_of log base f) tree text (either_listing f) =
    rw (eq-eqb (length log) 40960 a, eq-eqb (length base) 43032 b, eq-eqb (length tree) 86020 c, eq-eqb (length text) 172544 d) in
    rw h (record { bytes = ap (λ (x : Listed). x.text) (e ∙ is); next = omega (arith, ap (λ (x : Listed). x.size) (e ∙ is)) })

-- what is printed fits the lent text
pub output_fits : (text text' s : List ℕ) (r : ℕ) → Wrote text text' 0 r s → r ≤ length text'
output_fits text text' s r w = rw w.bytes (omega (arith, w.next, put_fits text s))
