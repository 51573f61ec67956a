-- What each way out of a call returns and leaves, over plain values.
-- Assumes nothing.
use Prim.Native.Nat.{ℕ}
use mathlib.Core.Path.{◌≡◌, sym}
use mathlib.Core.List.{List}
use lib.ListN.{length}
use borrow.Author.Tests.{eq-eqb, ne_eqb}
use Rattle.model.specs.Bytes.{four, put_at}
use Rattle.sab2_model.specs.Calls.{listed, either_listed}
use Rattle.byte_slice.proofs.PutAt.{put_whole}
use Rattle.sab_words.specs.Words.{packed}
use Rattle.sab_listing.specs.Printed.{printed, size_left, printed_listing, printed_of}

module _ {r : ℕ} (f log base tree text size : List ℕ) where
  pub size_wrong : (length size ≡ 4 → ⊥) → r ≡ packed 1 0 0 → printed r log base tree text size ≡ printed_of f log base tree text size
  unfolding printed_of
  size_wrong a w = rw (ne_eqb (length size) 4 a, w)

  module _ {n p k : ℕ} {log' base' tree' text' : List ℕ} (four_bytes : length size ≡ 4)
      (lists : listed n p k log' base' tree' text' ≡ either_listed f log base tree text) (w : r ≡ packed n p 0) where
    pub prints_not : n ≡ 1 → printed r log' base' tree' text' size ≡ printed_of f log base tree text size
    unfolding printed_of printed_listing size_left
    prints_not e = rw (eq-eqb (length size) 4 four_bytes, ← lists, eq-eqb n 1 e, w)

    pub prints : {size' : List ℕ} → (n ≡ 1 → ⊥) → size' ≡ put_at size 0 (four k) → printed r log' base' tree' text' size' ≡ printed_of f log base tree text size
    unfolding printed_of printed_listing size_left
    prints e h = rw (eq-eqb (length size) 4 four_bytes, ← lists, ne_eqb n 1 e, w, h, put_whole size (four k) (sym four_bytes))
