-- What a listing of a folder has to be.
-- Assumes nothing.
use Rattle.std.specs.Prelude.{ℕ, ◌≡◌, true, ◌↔◌, List, [], ◌∷◌}
use Rattle.model.specs.Replay.{Entry, label_key, is_in}
use Rattle.tree_laws.specs.Replayed.{Has, Distinct, makers}
use Rattle.index_model.specs.Index.{comes_before}

-- each label comes before all behind it
abbrev pub Rising : List Entry → Type 0
Rising [] = Unit {0}
Rising (e ∷ l) = ((x : Entry) → Has x l → comes_before (label_key e.label) (label_key x.label) ≡ true) × Rising l

-- the identities m are those of the entries of folder f among es: all of them and no other, each once, in label order
pub record Listed (f : ℕ) (es : List Entry) (m : List ℕ) : Type 0 where
  pub rows : List Entry
  pub are : m ≡ makers rows
  pub each : (e : Entry) → Has e rows ↔ (Has e es × (is_in f e ≡ true))
  pub once : Distinct m
  pub rising : Rising rows
