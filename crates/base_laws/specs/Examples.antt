-- Bases in bytes, and what the test says of each.
-- Assumes nothing.
use Rattle.std.specs.Prelude.{ℕ, Bool, not, ◌&&◌, List, [], ◌∷◌, ◌++◌, length, replicate}
use Rattle.model.specs.Bytes.{two, padded, joined}
use Rattle.model.specs.Log.{all_to}
use Rattle.base_model.specs.Base.{empty_base, name_new, ids_fit, sound_base}

-- unit, zero, number
unfoldable pub name : ℕ → ℕ → List ℕ
name u n = u ∷ 0 ∷ two n

unfoldable pub none : List ℕ
none = 0 ∷ 0 ∷ 0 ∷ 0 ∷ []

-- the row of the entry u.n of a kind in a folder, with a label of one letter, made on 29 February 2024
unfoldable pub entry : ℕ → List ℕ → List ℕ → ℕ → List ℕ
entry kind who folder letter =
    (kind ∷ 0 ∷ 0 ∷ 0 ∷ []) ++ (who ++ (folder ++ (who ++ (who ++ (two 2024 ++ (2 ∷ 29 ∷ padded 32 (letter ∷ []) ++ replicate 16 0))))))

-- the row of an aside under a reason, open, that marks nothing
unfoldable pub aside : List ℕ → ℕ → List ℕ
aside who reason = who ++ (reason ∷ 1 ∷ 0 ∷ 0 ∷ 0 ∷ 0 ∷ 0 ∷ 0 ∷ [])

-- a base with the list of all units and the vector 9, 9, 0 ..
unfoldable pub base_of : List (List ℕ) → List (List ℕ) → List ℕ
base_of es as' =
    (255 ∷ 0 ∷ []) ++ (two (length es) ++ (two (length as') ++ (0 ∷ 0 ∷ 9 ∷ 0 ∷ 9 ∷ 0 ∷ replicate 12 0)
    ++ (padded 36864 (joined es) ++ padded 6144 (joined as'))))

-- a folder A in the root, and in it a folder B and a trace C; two asides
unfoldable pub house : List ℕ
house =
    base_of
    (entry 2 (name 0 3) (name 0 1) 67 ∷ entry 1 (name 0 1) none 65 ∷ entry 1 (name 1 9) (name 0 1) 66 ∷ [])
    (aside (name 0 2) 15 ∷ aside (name 1 1) 25 ∷ [])

-- the tests of the tree alone, on entries with nothing behind them
unfoldable pub tree_fits : List (List ℕ) → Bool
tree_fits es = ids_fit (replicate 24 0 ++ joined es) (length es) 0 && all_to (length es) (name_new (replicate 24 0 ++ joined es))

-- the empty base and the house are sound, and not one with an identity twice; of trees: a label in two folders, a label twice in one,
-- once in small letters, a ring, a trace that holds an entry, a folder that is not there
unfoldable pub right : Bool
right =
    sound_base empty_base
    && (sound_base house
    && (not (sound_base (base_of (entry 1 (name 0 1) none 65 ∷ []) (aside (name 0 1) 12 ∷ [])))
    && (tree_fits (entry 1 (name 0 1) none 65 ∷ entry 2 (name 0 2) (name 0 1) 65 ∷ [])
    && (not (tree_fits (entry 1 (name 0 1) none 65 ∷ entry 2 (name 0 2) none 65 ∷ []))
    && (not (tree_fits (entry 1 (name 0 1) none 65 ∷ entry 2 (name 0 2) none 97 ∷ []))
    && (not (tree_fits (entry 1 (name 0 1) (name 0 2) 65 ∷ entry 1 (name 0 2) (name 0 1) 65 ∷ []))
    && (not (tree_fits (entry 2 (name 0 1) none 65 ∷ entry 2 (name 0 2) (name 0 1) 65 ∷ []))
    && not (tree_fits (entry 1 (name 0 1) (name 0 2) 65 ∷ [])))))))))
