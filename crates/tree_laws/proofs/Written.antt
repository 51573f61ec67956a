-- The label of an entry is that of its last place record, byte for byte.
-- Assumes nothing.
use Prim.Native.Nat.{ℕ}
use mathlib.Core.Path.{◌≡◌, refl}
use mathlib.Core.Bool.{Bool, ◌&&◌}
use mathlib.Core.Logic.{inl, inr}
use mathlib.Core.List.{List, [], ◌∷◌, ◌++◌}
use lib.Dec.{eqb}
use Rattle.model.specs.Record.{Rec, self_of, object_of, label_of}
use Rattle.model.specs.Replay.{Entry, Tree, is_present, new_entry, stored, renamed, moved, removed, changed, step, empty_tree, replay_from, replay}
use Rattle.tree_laws.specs.Replayed.{Has}
use Rattle.tree_laws.proofs.Steps.{cond_elim, effect_elim, step_elim}

-- a record of the list ls is the entry's last place record, and has its label as it was written
abbrev pub WrittenBy : List Rec → Entry → Type 0
WrittenBy ls e = (s : Rec) × Has s ls × (self_of s ≡ e.placing) × (label_of s ≡ e.label)

abbrev AllWritten : List Rec → List Entry → Type 0
AllWritten ls [] = Unit {0}
AllWritten ls (e ∷ es) = WrittenBy ls e × AllWritten ls es

written-append : (ls : List Rec) (es : List Entry) (n : Entry) → AllWritten ls es → WrittenBy ls n → AllWritten ls (es ++ (n ∷ []))
written-append ls [] n a p = (p, tt)
written-append ls (e ∷ es) n a p = (a.0, written-append ls es n a.1 p)

written-changed : (ls : List Rec) (g : Entry → Entry) → ((e : Entry) → WrittenBy ls e → WrittenBy ls (g e)) → (k : ℕ) (es : List Entry) → AllWritten ls es → AllWritten ls (changed g k es)
unfolding changed
written-changed ls g h k [] a = tt
written-changed ls g h k (e ∷ es) a =
    cond_elim (AllWritten ls) (eqb e.made k && is_present e) (g e ∷ es) (e ∷ changed g k es)
    (λ _. (h e a.0, a.1))
    (λ _. (a.0, written-changed ls g h k es a.1))

written_step : (ls : List Rec) (t : Tree) (r : Rec) → Has r ls → AllWritten ls t.entries → AllWritten ls (step t r).entries
unfolding new_entry stored renamed moved removed
written_step ls t r i a =
    let P : Tree → Type 0 = λ (x : Tree). AllWritten ls x.entries in
    step_elim P t r
    (λ _. effect_elim P r t
    (λ _. written-append ls t.entries (new_entry r) a (r, i, refl, refl))
    (λ _. written-changed ls (stored r) (λ e b. b) (object_of r) t.entries a)
    (λ _. written-changed ls removed (λ e b. b) (object_of r) t.entries a)
    (λ _. written-changed ls (renamed r) (λ e b. (r, i, refl, refl)) (object_of r) t.entries a)
    (λ _. a)
    (λ _. written-changed ls (moved r) (λ e b. (r, i, refl, refl)) (object_of r) t.entries a))
    (λ n k _. a)

written-replay : (ls : List Rec) (t : Tree) (l : List Rec) → ((r : Rec) → Has r l → Has r ls) → AllWritten ls t.entries → AllWritten ls (replay_from t l).entries
unfolding replay_from
written-replay ls t [] h a = a
written-replay ls t (r ∷ l) h a = written-replay ls (step t r) l (λ s i. h s (inr i)) (written_step ls t r (h r (inl refl)) a)

written_one : (ls : List Rec) (es : List Entry) → AllWritten ls es → (e : Entry) → Has e es → WrittenBy ls e
written_one ls [] a e i = absurd i
written_one ls (x ∷ es) a e (inl q) = rw q a.0
written_one ls (x ∷ es) a e (inr j) = written_one ls es a.1 e j

pub label_written : (l : List Rec) (e : Entry) → Has e (replay l).entries → WrittenBy l e
unfolding replay empty_tree
label_written l e i = written_one l (replay_from empty_tree l).entries (written-replay l empty_tree l (λ r j. j) tt) e i
