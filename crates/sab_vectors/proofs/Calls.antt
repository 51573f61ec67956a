-- What each way out of a call returns and leaves, over plain values.
-- Assumes nothing.
use Prim.Native.Nat.{ℕ}
use native.Mathlib.Omega.{arith}
use mathlib.Core.Path.{◌≡◌}
use mathlib.Core.List.{List, [], ◌++◌}
use lib.ListN.{length}
use borrow.Author.Tests.{eq-eqb, ne_eqb}
use Rattle.model.specs.Bytes.{four, put_at}
use Rattle.model.specs.Vector.{compared, comparison_of, vector_at}
use Rattle.byte_slice.proofs.PutAt.{put_more, put_whole}
use Rattle.sab_words.specs.Words.{packed}
use Rattle.sab_words.specs.Called.{called, wrong_buffer}
use Rattle.sab_vectors.specs.Compared.{lacks_size, told_compared, compared_of}

-- the two numbers written one behind the other, the answer in the word
pub tells_both : (d : List ℕ) (n f s : ℕ) {e g : List ℕ} {k r : ℕ} → length d ≡ lacks_size → e ≡ put_at d 0 (four f) → g ≡ put_at e 4 (four s)
    → k ≡ n → r ≡ packed 0 0 k → called r [] g ≡ told_compared (compared n f s)
unfolding told_compared
tells_both d n f s h p q i w =
    let t : put_at (put_at d 0 (four f)) 4 (four s) ≡ put_at d 0 (four f ++ four s) = put_more d 0 (four f) (four s) (omega arith) in
    rw (w, i, q, p, t, put_whole d (four f ++ four s) (omega arith))

module _ {r : ℕ} (a b d : List ℕ) where
  pub first_wrong : (length a ≡ 16 → ⊥) → r ≡ packed 1 0 0 → called r [] d ≡ compared_of a b d
  unfolding compared_of wrong_buffer
  first_wrong h w = rw (ne_eqb (length a) 16 h, w)

  pub second_wrong : length a ≡ 16 → (length b ≡ 16 → ⊥) → r ≡ packed 1 0 0 → called r [] d ≡ compared_of a b d
  unfolding compared_of wrong_buffer
  second_wrong h g w = rw (eq-eqb (length a) 16 h, ne_eqb (length b) 16 g, w)

  pub lent_wrong : length a ≡ 16 → length b ≡ 16 → (length d ≡ lacks_size → ⊥) → r ≡ packed 1 0 0 → called r [] d ≡ compared_of a b d
  unfolding compared_of wrong_buffer
  lent_wrong h g f w = rw (eq-eqb (length a) 16 h, eq-eqb (length b) 16 g, ne_eqb (length d) lacks_size f, w)

  pub compares : {x y e : List ℕ} {m f s : ℕ} → length a ≡ 16 → length b ≡ 16 → length d ≡ lacks_size → x ≡ vector_at a 0 → y ≡ vector_at b 0
      → compared m f s ≡ comparison_of x y → called r [] e ≡ told_compared (compared m f s) → called r [] e ≡ compared_of a b d
  unfolding compared_of
  compares h g n p q c t = rw (eq-eqb (length a) 16 h, eq-eqb (length b) 16 g, eq-eqb (length d) lacks_size n, t, c, p, q)
