-- What each way out of the call returns and leaves, over plain values.
-- Assumes nothing.
use Prim.Native.Nat.{ℕ}
use mathlib.Core.Path.{◌≡◌}
use mathlib.Core.List.{List}
use borrow.Author.Tests.{eq-eqb, ne_eqb}
use Rattle.model.specs.Merge.{Merged, merged}
use Rattle.sab_words.specs.Words.{packed}
use Rattle.sab_words.specs.Called.{called}
use Rattle.sab_merge.specs.Joined.{count_of, joined}

module _ {r n p w k j : ℕ} {log lent : List ℕ} (m : Merged) (e : merged n p w k log lent ≡ m) (h : r ≡ packed n p j) where
  pub tells_file : (n ≡ 0 → ⊥) → j ≡ w → called r log lent ≡ joined m
  unfolding joined count_of
  tells_file z q = rw (← e, ne_eqb n 0 z, h, q)

  pub tells_blocks : n ≡ 0 → j ≡ k → called r log lent ≡ joined m
  unfolding joined count_of
  tells_blocks z q = rw (← e, eq-eqb n 0 z, h, q)
