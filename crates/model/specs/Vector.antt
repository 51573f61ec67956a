-- Vectors: eight 16-bit counts, one for each unit. Of unit u the records 1 to the count are held.
-- Document 01, "Units, identities, vectors"; how far behind: document 02, K2.
-- Assumes nothing.
use Rattle.std.specs.Prelude.{ℕ, zero, suc, ◌+◌, ◌-◌, ◌*◌, ◌/◌, min, Bool, true, false, cond, ◌&&◌, List, [], ◌∷◌, ◌++◌, leb, get_or}
use Rattle.model.specs.Bytes.{word, two}

-- each of the first n counts of a is at least that of b
unfoldable pub covers_to : List ℕ → List ℕ → ℕ → Bool
covers_to a b zero = true
covers_to a b (suc n) = covers_to a b n && leb (get_or b n 0) (get_or a n 0)

-- every count of a is at least that of b [F77]
unfoldable pub covers : List ℕ → List ℕ → Bool
covers a b = covers_to a b 8

-- 0 identical, 1 the first dominates, 2 the second dominates, 3 both ahead [F64]
unfoldable pub compare_of : List ℕ → List ℕ → ℕ
compare_of a b = cond (covers a b) (cond (covers b a) 0 1) (cond (covers b a) 2 3)

-- what the first n counts of b have more than those of a
unfoldable pub lacks_to : List ℕ → List ℕ → ℕ → ℕ
lacks_to a b zero = 0
lacks_to a b (suc n) = lacks_to a b n + (get_or b n 0 - get_or a n 0)

-- how many records a lacks against b: the sum, over the units, of what b has more [F91]
unfoldable pub lacks_of : List ℕ → List ℕ → ℕ
lacks_of a b = lacks_to a b 8

-- what a comparison says: 0 to 3, how many records the first lacks, and how many the second
pub record Compared : Type 0 where
  pub answer : ℕ
  pub first : ℕ
  pub second : ℕ

abbrev pub compared : ℕ → ℕ → ℕ → Compared
compared n a b = record { answer = n; first = a; second = b }

-- beside 0 to 3, how many records the first lacks and how many the second lacks [F92]
unfoldable pub comparison_of : List ℕ → List ℕ → Compared
comparison_of a b = compared (compare_of a b) (lacks_of a b) (lacks_of b a)

-- how many records a block handed out has: the lesser of 6 and what the asked vector lacks against the held one [F93]
unfoldable pub handed_count : List ℕ → List ℕ → ℕ
handed_count asked held = min 6 (lacks_of asked held)

-- how many blocks bring so many records: a sixth of them, rounded up [F93]
unfoldable pub blocks_for : ℕ → ℕ
blocks_for n = (n + 5) / 6

-- the first n counts of the vector that stands at a place
unfoldable pub counts_at : List ℕ → ℕ → ℕ → List ℕ
counts_at b at zero = []
counts_at b at (suc n) = counts_at b at n ++ (word b (at + 2 * n) ∷ [])

-- the vector that stands at a place
unfoldable pub vector_at : List ℕ → ℕ → List ℕ
vector_at b at = counts_at b at 8

-- the bytes of the first n counts
unfoldable pub count_bytes : List ℕ → ℕ → List ℕ
count_bytes v zero = []
count_bytes v (suc n) = count_bytes v n ++ two (get_or v n 0)

-- the 16 bytes of a vector
unfoldable pub vector_bytes : List ℕ → List ℕ
vector_bytes v = count_bytes v 8
