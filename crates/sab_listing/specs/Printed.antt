-- What listing a file returns and leaves, with the length of the listing in four lent bytes.
-- Assumes nothing.
use Rattle.std.specs.Prelude.{ℕ, cond, List, eqb, length}
use Rattle.model.specs.Numbers.{bad_buffer}
use Rattle.model.specs.Bytes.{four}
use Rattle.sab2_model.specs.Calls.{Listed, either_listed}
use Rattle.sab_words.specs.Words.{packed}

-- the word returned by a listing; log, base, tree table, text and the four bytes of its length as they are left
pub record Printed : Type 0 where
  pub word : ℕ
  pub log : List ℕ
  pub base : List ℕ
  pub tree : List ℕ
  pub text : List ℕ
  pub size : List ℕ

abbrev pub printed : ℕ → List ℕ → List ℕ → List ℕ → List ℕ → List ℕ → Printed
printed w log base tree text size = record { word = w; log = log; base = base; tree = tree; text = text; size = size }

-- the length of a listing; number 1 leaves the bytes lent for it
unfoldable pub size_left : Listed → List ℕ → List ℕ
size_left l size = cond (eqb l.number bad_buffer) size (four l.size)

-- a listing in one word, with its length
unfoldable pub printed_listing : Listed → List ℕ → Printed
printed_listing l size =
    printed (packed l.number l.place 0) l.log l.base l.tree l.text (size_left l size)

-- the listing of a file, with its length
unfoldable pub printed_of : List ℕ → List ℕ → List ℕ → List ℕ → List ℕ → List ℕ → Printed
printed_of f log base tree text size =
    cond (eqb (length size) 4)
    (printed_listing (either_listed f log base tree text) size)
    (printed (packed bad_buffer 0 0) log base tree text size)
