-- An outcome in one word: what a call returns and leaves, over plain values.
-- Assumes nothing.
use Prim.Native.Nat.{ℕ}
use mathlib.Core.Path.{◌≡◌}
use mathlib.Core.List.{List}
use Rattle.call_model.specs.Outcome.{Outcome, outcome}
use Rattle.sab_words.specs.Words.{packed}
use Rattle.sab_words.specs.Called.{called, told, called_both, told_work}

pub tells : {n p k r : ℕ} {log lent : List ℕ} {o : Outcome} → outcome n p log lent k ≡ o → r ≡ packed n p k → called r log lent ≡ told o
unfolding told
tells e w = rw (← e, w)

pub tells_blocks : {n p k j r : ℕ} {log lent : List ℕ} {o : Outcome} → outcome n p log lent k ≡ o → j ≡ k → r ≡ packed n p j → called r log lent ≡ told o
tells_blocks e h w = tells e (rw h at w)

pub tells_work : {n p k r : ℕ} {log lent work w : List ℕ} {o : Outcome} → outcome n p log lent k ≡ o → work ≡ w → r ≡ packed n p k → called_both r log lent work ≡ told_work o w
unfolding told_work
tells_work e h w = rw (← e, h, w)
