-- A conversion in one word, over plain values.
-- Assumes nothing.
use Prim.Native.Nat.{ℕ}
use mathlib.Core.Path.{◌≡◌}
use mathlib.Core.List.{List}
use Rattle.sab2_model.specs.Calls.{Converted, converted}
use Rattle.sab_words.specs.Words.{packed}
use Rattle.sab_convert.specs.Turned.{turned, turned_of}

pub turns : {n p k j r : ℕ} {lent : List ℕ} {c : Converted} → converted n p k lent ≡ c → j ≡ k → r ≡ packed n p j → turned r lent ≡ turned_of c
unfolding turned_of
turns e h w = rw (← e, w, h)
