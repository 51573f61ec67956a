-- The number of each operation.
-- Assumes nothing.
use Rattle.std.specs.Prelude.{ℕ}
use Rattle.record_uses.specs.declared.Operation.{Operation}
use Rattle.record_uses.specs.declared.Operation.TheVariants.{MakeFolder, MakeTrace, Store, Remove, Rename, Settle, Move}

-- the number in a record
abbrev pub number_of : Operation → ℕ
number_of MakeFolder = 1
number_of MakeTrace = 2
number_of Store = 3
number_of Remove = 4
number_of Rename = 5
number_of Settle = 6
number_of Move = 7
