-- A base while it is written.
-- Assumes nothing.
use Rattle.std.specs.Prelude.{ℕ, List, [], ◌∷◌}
use Rattle.model.specs.Bytes.{two, put_at}
use Rattle.model.specs.Vector.{vector_bytes}
use Rattle.model.specs.Replay.{Tree}
use Rattle.base_model.specs.Base.{Base}

abbrev pub base_of : ℕ → List ℕ → Tree → Base
base_of m v t = record { list = m; vector = v; tree = t }

-- the head over zeros: a list, how many entries and asides, a vector
unfoldable pub headed : List ℕ → ℕ → ℕ → ℕ → List ℕ → List ℕ
headed d m entries asides v = put_at (put_at (put_at (put_at d 0 (m ∷ 0 ∷ [])) 2 (two entries)) 4 (two asides)) 8 (vector_bytes v)
