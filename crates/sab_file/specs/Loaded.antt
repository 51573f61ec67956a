-- What reading a file returns and leaves, with what the file says of itself in 24 lent bytes.
-- Assumes nothing.
use Rattle.std.specs.Prelude.{ℕ, cond, List, eqb, length}
use Rattle.model.specs.Numbers.{bad_buffer}
use Rattle.call_model.specs.Read.{ReadBack}
use Rattle.sab2_model.specs.Calls.{read_either_of}
use Rattle.sab_words.specs.Words.{packed, head_of}

-- the word returned by a reading; log, base and head as they are left
pub record Loaded : Type 0 where
  pub word : ℕ
  pub log : List ℕ
  pub base : List ℕ
  pub head : List ℕ

abbrev pub loaded : ℕ → List ℕ → List ℕ → List ℕ → Loaded
loaded w log base head = record { word = w; log = log; base = base; head = head }

-- the head of an accepted file; a refused one leaves the head
unfoldable pub head_left : ReadBack → List ℕ → List ℕ
head_left b head = cond (eqb b.number 0) (head_of b.archive b.sender b.records b.vector) head

-- reading a file of either form into a lent log and base, with its head
unfoldable pub loaded_of : List ℕ → List ℕ → List ℕ → List ℕ → Loaded
loaded_of log base f head =
    cond (eqb (length head) 24)
    (loaded
    (packed (read_either_of log base f).number (read_either_of log base f).place (read_either_of log base f).records)
    (read_either_of log base f).log
    (read_either_of log base f).base
    (head_left (read_either_of log base f) head))
    (loaded (packed bad_buffer 0 0) log base head)
