-- The way of an entry to the root, and what every record keeps of it.
-- Assumes nothing.
use Rattle.std.specs.Prelude.{ℕ, zero, suc, ◌<◌, ◌≡◌, ◌⊎◌, List, length}
use Rattle.std.proofs.Math.Option.{some}
use Rattle.model.specs.Record.{root}
use Rattle.model.specs.Replay.{Entry, entry_of, present_ones}
use Rattle.tree_laws.specs.Replayed.{Has, Distinct, makers}

-- s steps lead from the identity f to the identity k, each from an entry to the folder in which it lies
abbrev pub Way : ℕ → ℕ → ℕ → List Entry → Type 0
Way zero k f es = f ≡ k
Way (suc s) k f es = (e : Entry) × (entry_of f es ≡ some e) × Way s k e.inside es

-- s steps lead from the identity k to the root
abbrev pub Up : ℕ → ℕ → List Entry → Type 0
Up zero k es = k ≡ root
Up (suc s) k es = (e : Entry) × (entry_of k es ≡ some e) × Up s e.inside es

-- each entry reaches the root in fewer steps than there are entries, the root included [F122]
abbrev pub Reaches : List Entry → Type 0
Reaches es = (k : ℕ) (e : Entry) → entry_of k es ≡ some e → (s : ℕ) × Up s k es × (s < suc (length (present_ones es)))

-- f is the root, or a folder that is there
abbrev pub Stands : ℕ → List Entry → Type 0
Stands f es = (f ≡ root) ⊎ ((g : Entry) × (entry_of f es ≡ some g) × (g.kind ≡ 1))

-- no identity twice and none the root's, each entry in the root or in a folder that is there, and on a way to the root
pub record Rooted (es : List Entry) : Type 0 where
  pub alone : Distinct (makers es)
  pub rootless : Has root (makers es) → ⊥
  pub stands : (k : ℕ) (e : Entry) → entry_of k es ≡ some e → Stands e.inside es
  pub up : (k : ℕ) (e : Entry) → entry_of k es ≡ some e → (s : ℕ) × Up s k es
