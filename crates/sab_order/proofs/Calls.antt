-- What checking an order returns and leaves, over plain values.
-- Assumes nothing.
use Prim.Native.Nat.{ℕ}
use mathlib.Core.Path.{◌≡◌}
use mathlib.Core.List.{List}
use Rattle.order_model.specs.Order.{ordered, order_of}
use Rattle.sab_words.specs.Words.{packed}
use Rattle.sab_order.specs.Ordered.{order_call, told_order}

pub checks : (log base list ours theirs : List ℕ) {n p c x r : ℕ} {ours' theirs' : List ℕ} → ordered n p c ours' theirs' ≡ order_of log base list ours theirs → x ≡ c → r ≡ packed n p x
    → order_call r ours' theirs' ≡ told_order (order_of log base list ours theirs)
unfolding told_order
checks log base list ours theirs e a w = rw (← e, w, a)
