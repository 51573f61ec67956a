-- What a call of the static library returns in its one word, and what it leaves of the lent buffers.
-- Assumes nothing.
use Rattle.std.specs.Prelude.{ℕ, List}
use Rattle.model.specs.Numbers.{bad_buffer}
use Rattle.call_model.specs.Outcome.{Outcome}
use Rattle.sab_words.specs.Words.{packed}

-- the word returned, the log left, and the block, file, tree table or head lent for writing as it is left
pub record Called : Type 0 where
  pub word : ℕ
  pub log : List ℕ
  pub lent : List ℕ

abbrev pub called : ℕ → List ℕ → List ℕ → Called
called w log lent = record { word = w; log = log; lent = lent }

-- the same of a call that writes two buffers beside its log: the index or the base, and then the work memory or, of a start, the base
pub record CalledBoth : Type 0 where
  pub word : ℕ
  pub log : List ℕ
  pub lent : List ℕ
  pub second : List ℕ

abbrev pub called_both : ℕ → List ℕ → List ℕ → List ℕ → CalledBoth
called_both w log lent second = record { word = w; log = log; lent = lent; second = second }

-- a buffer that is not of its stated length: all is left as it was
unfoldable pub wrong_buffer : List ℕ → List ℕ → Called
wrong_buffer log lent = called (packed bad_buffer 0 0) log lent

-- an outcome in one word
unfoldable pub told : Outcome → Called
told o = called (packed o.number o.place o.blocks) o.log o.lent

-- an outcome in one word, and the work memory as it is left
unfoldable pub told_work : Outcome → List ℕ → CalledBoth
told_work o work = called_both (packed o.number o.place o.blocks) o.log o.lent work
