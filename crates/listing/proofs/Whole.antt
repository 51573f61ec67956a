-- The parts of the lines of an accepted file.
-- Assumes nothing.
use Prim.Native.Nat.{ℕ}
use mathlib.Core.Path.{refl}
use mathlib.Core.List.{List, ◌++◌}
use Rattle.model.specs.Listing.{head_line, seen_line, tree_lines}
use Rattle.line_text.proofs.Chains.{InThree}

pub whole_is : (archive u n : ℕ) (v t : List ℕ) → InThree (head_line archive u n ++ (seen_line v ++ tree_lines t)) (head_line archive u n) (seen_line v) (tree_lines t)
whole_is archive u n v t = record { parts = refl }
