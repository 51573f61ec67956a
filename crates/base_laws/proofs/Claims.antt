-- Request K10: what a sound base means. Its tree is sound; it is the bytes of what it holds; and what can be laid in a base makes a sound one.
-- Assumes nothing.
use Prim.Native.Nat.{ℕ, ◌+◌, ◌*◌, ◌<◌}
use native.Mathlib.Omega.{arith}
use mathlib.Core.Path.{◌≡◌, sym, ap, ◌∙◌, subst}
use mathlib.Core.Logic.{◌↔◌}
use mathlib.Core.Bool.{true, ◌&&◌}
use mathlib.Core.List.{List}
use lib.ListN.{get_or, length, replicate}
use Rattle.model.specs.Bytes.{word}
use Rattle.model.specs.Log.{all_to}
use Rattle.model.specs.Replay.{Entry, is_present}
use Rattle.model.specs.Table.{table_bytes}
use Rattle.call_model.specs.Fold.{fold_of}
use Rattle.base_model.specs.Base.{Base, base_bytes, base_in, base_entry, base_tree, base_vector, entry_row_fits, name_new, ids_fit, sound_base, empty_base, held_on, sound_state, tree_of}
use Rattle.byte_slice.proofs.Numbers.{and_true, true_and}
use Rattle.vector.proofs.InBytes.{vector_at-length}
use Rattle.base_laws.specs.Plain.{Plain}
use Rattle.tree_laws.specs.Trees.{SoundTree}
use Rattle.base_laws.specs.Laid.{Lays}
use Rattle.base_laws.proofs.Numbered.{has_at, entries_listed, entries_count, asides_count}
use Rattle.base_laws.proofs.Plain.{all_at, plain_of, ids_of, names_of}
use Rattle.base_laws.proofs.Rows.{row_present}
use Rattle.base_laws.proofs.Trees as T
use Rattle.base_laws.proofs.LaidTree as L
use Rattle.base_laws.proofs.Again as A
use Rattle.base_laws.proofs.Fresh.{empty_sound, empty_state}
use Rattle.base_laws.proofs.Folds.{state_tree, fold_accepted, fold_same}

-- the tests of the tree hold exactly where no identity stands twice, no label twice in a folder, and each entry reaches the root through
-- folders
pub tests_exactly : (b : List ℕ) (n m : ℕ) → ((ids_fit b n m && all_to n (name_new b)) ≡ true) ↔ Plain b n m
tests_exactly b n m = (
  λ e. let (p, q) = and_true (ids_fit b n m) (all_to n (name_new b)) e in plain_of b n m p q,
  λ w. true_and (ids_fit b n m) (all_to n (name_new b)) (ids_of b n m w) (names_of b n m w),
)

-- the tree of a sound base is a sound tree on the base vector
pub sound_tree : (b : List ℕ) → length b ≡ 43032 → sound_base b ≡ true → SoundTree (base_vector b) (base_tree b)
sound_tree b h e = T.sound_tree b h e

row_there : (b : List ℕ) (i : ℕ) → entry_row_fits b i ≡ true → is_present (base_entry b i) ≡ true
unfolding entry_row_fits base_entry
row_there b i e = row_present (base_vector b) b (24 + 72 * i) e

-- what a sound base holds can be laid in a base
pub sound_lays : (b : List ℕ) → length b ≡ 43032 → sound_base b ≡ true → Lays (base_in b)
unfolding base_in base_tree base_vector
sound_lays b h e =
    let s = T.sound_tells b e in
    record {
      eight = vector_at-length b 8;
      few_entries = rw (entries_count b 0 (word b 2)) s.few_entries;
      few_asides = rw (asides_count b 0 (word b 4)) s.few_asides;
      sound = sound_tree b h e;
      none-removed = λ x p.
          let r = has_at (base_entry b) x 0 (word b 2) (rw (entries_listed b 0 (word b 2)) at p) in
          subst
          (λ (y : Entry). is_present y ≡ true)
          (sym r.holds)
          (row_there b r.at (all_at (word b 2) (entry_row_fits b) s.entries_pass r.at (omega (arith, r.below))));
    }

-- what was laid in a base is read from it
pub laid_back : (x : Base) → Lays x → base_in (base_bytes x) ≡ x
laid_back x w = L.base_back x w

-- and it makes a sound base
pub laid_sound : (x : Base) → Lays x → sound_base (base_bytes x) ≡ true
laid_sound x w = L.base_sound x w

-- a sound base is the bytes of what it holds
pub base_again : (b : List ℕ) → length b ≡ 43032 → ((j : ℕ) → get_or b j 0 < 256) → sound_base b ≡ true → base_bytes (base_in b) ≡ b
base_again b h bytes e = A.base_again b h bytes e

-- two sound bases that hold the same are the same bytes
pub one_writing : (a b : List ℕ) → length a ≡ 43032 → length b ≡ 43032 → ((j : ℕ) → get_or a j 0 < 256) → ((j : ℕ) → get_or b j 0 < 256)
    → sound_base a ≡ true → sound_base b ≡ true → base_in a ≡ base_in b → a ≡ b
one_writing a b h g x y e f p = sym (base_again a h x e) ∙ (ap base_bytes p ∙ base_again b g y f)

-- ---- what starting and folding leave

-- the base after a start is sound, and so it is with the log
pub start_leaves_sound : (sound_base empty_base ≡ true) × (sound_state (replicate 40960 0) empty_base ≡ true)
start_leaves_sound = (empty_sound, empty_state)

-- an accepted fold leaves a sound state
pub fold_leaves_sound : (u m : ℕ) (log base work : List ℕ) → (fold_of u log base m work).number ≡ 0
    → (length (fold_of u log base m work).log ≡ 40960) × (length (fold_of u log base m work).lent ≡ 43032) × (sound_state (fold_of u log base m work).log (fold_of u log base m work).lent ≡ true)
fold_leaves_sound u m log base work z = fold_accepted u m log base work z

-- with the same held vector, which shows the same tree table
pub fold_shows_the_same : (u m : ℕ) (log base work : List ℕ) → (fold_of u log base m work).number ≡ 0
    → (held_on (fold_of u log base m work).log (fold_of u log base m work).lent ≡ held_on log base) × (table_bytes (tree_of (fold_of u log base m work).log (fold_of u log base m work).lent) ≡ table_bytes (tree_of log base))
fold_shows_the_same u m log base work z = fold_same u m log base work z

-- the tree of a sound state is a sound tree on its held vector
pub state_tree_sound : (log base : List ℕ) → length base ≡ 43032 → sound_state log base ≡ true → SoundTree (held_on log base) (tree_of log base)
state_tree_sound log base h s = state_tree log base s h
