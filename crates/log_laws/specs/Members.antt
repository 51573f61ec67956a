-- Which records a list holds.
-- Assumes nothing.
use Rattle.std.specs.Prelude.{◌≡◌, ◌⊎◌, List, [], ◌∷◌}
use Rattle.model.specs.Record.{Rec, unit, num}

-- the record s is one of the list
abbrev pub Has : Rec → List Rec → Type 0
Has s [] = ⊥
Has s (r ∷ l) = (s ≡ r) ⊎ Has s l

-- every record of a is one of b
abbrev pub Sub : List Rec → List Rec → Type 0
Sub a b = (r : Rec) → Has r a → Has r b

-- where the two lists share an identity, they share the record
abbrev pub Agree : List Rec → List Rec → Type 0
Agree a b = (r s : Rec) → Has r a → Has s b → unit r ≡ unit s → num r ≡ num s → r ≡ s
