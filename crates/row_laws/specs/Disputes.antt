-- Which entries become disputed.
-- Assumes nothing.
use Rattle.std.specs.Prelude.{◌≡◌, ◌⊎◌, true, List, [], ◌∷◌}
use Rattle.model.specs.Replay.{Entry, Tree, is_disputed, present_ones}

-- the entry e is one of the list
abbrev pub HasEntry : Entry → List Entry → Type 0
HasEntry e [] = ⊥
HasEntry e (x ∷ l) = (e ≡ x) ⊎ HasEntry e l

-- an entry of the tree, and disputed
pub record DisputedIn (t : Tree) (e : Entry) : Type 0 where
  pub there : HasEntry e (present_ones t.entries)
  pub disputed : is_disputed e.made t.asides ≡ true

-- an entry of the tree t' that is disputed there, where the tree t has no disputed entry of its identity
pub record BecameDisputed (t t' : Tree) (e : Entry) : Type 0 where
  pub then : DisputedIn t' e
  pub before : (x : Entry) → DisputedIn t x → x.made ≡ e.made → ⊥

-- the entries of the list a stand in the list b in the same order
pub data InOrder : List Entry → List Entry → Type 0 where
  ends : InOrder [] []
  passes : (e : Entry) (a b : List Entry) → InOrder a b → InOrder a (e ∷ b)
  keeps : (e : Entry) (a b : List Entry) → InOrder a b → InOrder (e ∷ a) (e ∷ b)
