-- What a judgement in numbers means, and what is asked of a record that is judged.
-- Assumes nothing.
use Rattle.std.specs.Prelude.{ℕ, ◌+◌, ◌≤◌, ◌<◌, ◌≡◌, ◌⊎◌, Bool, true, cond, not, ◌&&◌, List, eqb, get_or, length}
use Rattle.model.specs.Record.{Rec, op, object_of, folder_of, uses_folder}
use Rattle.model.specs.Replay.{Entry, Verdict, fits, aside}
use Rattle.tree_table.specs.Rows.{InRange}

-- a reason and the entry that it marks, as a verdict: 0 and 0 fits, and no other two numbers do
unfoldable pub verdict_of : ℕ → ℕ → Verdict
verdict_of n k = cond (eqb n 0 && eqb k 0) fits (aside n k)

-- the entry that a verdict marks; 0 for none
unfoldable pub marked_of : Verdict → ℕ
marked_of fits = 0
marked_of (aside n k) = k

-- the entry in a row is a folder that has entries, by the number that a register has for the row
unfoldable pub full_by : List ℕ → ℕ → Entry → Bool
full_by l row e = eqb e.kind 1 && not (eqb (get_or l (8194 + (row + 1)) 0) 0)

-- a record of 80 bytes of a known operation that names identities in range: a make or a move the root or a folder, all but a make an object
pub record Asks (r : Rec) : Type 0 where
  pub long : length r ≡ 80
  pub known : 1 ≤ op r
  pub to : op r ≤ 7
  pub folder : uses_folder (op r) ≡ true → (folder_of r ≡ 0) ⊎ InRange (folder_of r)
  pub object : 2 < op r → InRange (object_of r)
