-- What checking an order returns in its one word, and what it leaves of the lent tables.
-- Assumes nothing.
use Rattle.std.specs.Prelude.{ℕ, List}
use Rattle.order_model.specs.Order.{Ordered}
use Rattle.sab_words.specs.Words.{packed}

-- the word returned, our table and that of the order as they are left
pub record OrderCall : Type 0 where
  pub word : ℕ
  pub ours : List ℕ
  pub theirs : List ℕ

abbrev pub order_call : ℕ → List ℕ → List ℕ → OrderCall
order_call w ours theirs = record { word = w; ours = ours; theirs = theirs }

-- the condition that failed is the count
unfoldable pub told_order : Ordered → OrderCall
told_order o = order_call (packed o.number o.place o.failed) o.ours o.theirs
