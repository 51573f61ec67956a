-- What showing the tree is asked, over plain values.
-- Assumes nothing.
use Prim.Native.Nat.{ℕ}
use mathlib.Core.Path.{◌≡◌, ap, ◌∙◌}
use mathlib.Core.Bool.{true}
use mathlib.Core.List.{List}
use lib.Dec.{eqb}
use lib.ListN.{length, replicate}
use Rattle.model.specs.Replay.{Tree}
use Rattle.model.specs.Table.{table_bytes}
use Rattle.base_model.specs.Base.{tree_of}
use Rattle.base_head.specs.Head.{headed}
use Rattle.call_model.specs.Outcome.{outcome, show_of}
use Rattle.tree_table.specs.Rows.{tree_in}
use Rattle.tree_lookup.specs.Roles.{Works}
use Rattle.tree_lookup.proofs.Working.{works_tree}
use Rattle.call_guard.specs.Opened.{opened, open_of}
use Rattle.call_guard.proofs.Opening.{call_passes}

-- ---- a table laid

pub laid : (b register : List ℕ) (n m : ℕ) (t : Tree) (f : List ℕ) → Works b register n m t → f ≡ table_bytes (tree_in b n m) → f ≡ table_bytes t
laid b register n m t f w e = e ∙ ap table_bytes (works_tree b register n m t w)

pub zeroed : (b₀ b : List ℕ) → length b₀ ≡ 86020 → b ≡ replicate (length b₀) 0 → b ≡ replicate 86020 0
zeroed b₀ b h e = rw h at e

-- ---- success

pub shown : (log base tree : List ℕ) {n m k j used : ℕ} {v held : List ℕ} → opened n (headed m v k j) held used ≡ open_of 0 log base (eqb (length tree) 86020) true → n ≡ 0
    → (x : List ℕ) → x ≡ table_bytes (tree_of log base) → outcome 0 0 log x 0 ≡ show_of log base tree
unfolding show_of
shown log base tree e z x q = rw q (call_passes 0 log base tree (eqb (length tree) 86020) e (outcome 0 0 log (table_bytes (tree_of log base)) 0) z)
