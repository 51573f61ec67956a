-- Claim A1: acts.
-- Assumes nothing.
use Prim.Native.Nat.{ℕ, ◌≤◌, ◌<◌}
use mathlib.Core.Path.{◌≡◌}
use mathlib.Core.Logic.{◌↔◌}
use mathlib.Core.Bool.{true, false}
use mathlib.Core.List.{List, []}
use lib.ListN.{get_or, length}
use Rattle.model.specs.Record.{Rec, label_of, uses_label, has_stroke}
use Rattle.model.specs.Log.{count_on, sound_after}
use Rattle.model.specs.Replay.{Tree, fits, judge, replay_from}
use Rattle.base_model.specs.Base.{is_listed}
use Rattle.call_model.specs.Outcome.{stamped, wish_fits, act_number}
use Rattle.log_laws.proofs.Tests.{sound_means_on}
use Rattle.tree_laws.specs.Trees.{SoundTree}
use Rattle.act_laws.proofs.Acting as Acting
use Rattle.act_laws.proofs.Strokes as Strokes

-- ---- A1: acting

-- an act is accepted exactly when its unit is listed, its wish is well formed, its label has no stroke, a number and a place are
-- free, and its record fits behind the tree of all that is held
pub accepted_exactly : (m u : ℕ) (v : List ℕ) (t : Tree) (l : List Rec) (w : List ℕ)
    → (act_number m u v t l w ≡ 0)
    ↔ ((is_listed m u ≡ true) × (wish_fits u v l w ≡ true) × (has_stroke (label_of w) ≡ false) × (count_on v u l < 65535) × (length l < 512) × (judge (stamped u v l w) (replay_from t l) ≡ fits))
accepted_exactly = Acting.act_accepted

-- it is refused by 26 exactly when its unit is not listed
pub unlisted_exactly : (m u : ℕ) (v : List ℕ) (t : Tree) (l : List Rec) (w : List ℕ) → (act_number m u v t l w ≡ 26) ↔ (is_listed m u ≡ false)
unlisted_exactly = Strokes.act-unlisted

-- by 7 exactly when else its wish is not well formed
pub malformed_exactly : (m u : ℕ) (v : List ℕ) (t : Tree) (l : List Rec) (w : List ℕ)
    → (act_number m u v t l w ≡ 7) ↔ ((is_listed m u ≡ true) × (wish_fits u v l w ≡ false))
malformed_exactly = Strokes.act-malformed

-- by 24 exactly when else its label has a stroke
pub stroke_exactly : (m u : ℕ) (v : List ℕ) (t : Tree) (l : List Rec) (w : List ℕ)
    → (act_number m u v t l w ≡ 24) ↔ ((is_listed m u ≡ true) × (wish_fits u v l w ≡ true) × (has_stroke (label_of w) ≡ true))
stroke_exactly = Strokes.act_stroke

-- by 28 exactly when else the unit has used the number 65,535
pub last_number_exactly : (m u : ℕ) (v : List ℕ) (t : Tree) (l : List Rec) (w : List ℕ)
    → (act_number m u v t l w ≡ 28) ↔ ((is_listed m u ≡ true) × (wish_fits u v l w ≡ true) × (has_stroke (label_of w) ≡ false) × (65535 ≤ count_on v u l))
last_number_exactly = Strokes.act_last_number

-- by 11 exactly when else no place is free
pub full_exactly : (m u : ℕ) (v : List ℕ) (t : Tree) (l : List Rec) (w : List ℕ)
    → (act_number m u v t l w ≡ 11)
    ↔ ((is_listed m u ≡ true) × (wish_fits u v l w ≡ true) × (has_stroke (label_of w) ≡ false) × (count_on v u l < 65535) × (512 ≤ length l))
full_exactly = Strokes.act_full

-- a text has a stroke exactly when one of its bytes is hexadecimal 2F
pub stroke_in_a_text : (t : List ℕ) → (has_stroke t ≡ true) ↔ ((i : ℕ) × (i < length t) × (get_or t i 0 ≡ 47))
stroke_in_a_text = Strokes.stroke_exact

-- 24 is answered to makes, renames and moves alone
pub stroke_of_a_label : (m u : ℕ) (v : List ℕ) (t : Tree) (l : List Rec) (w : List ℕ) → length w ≡ 80 → act_number m u v t l w ≡ 24 → uses_label (get_or w 1 0) ≡ true
stroke_of_a_label = Strokes.stroke_of_a_label

-- its refusal is never 17
pub never_17 : (m u : ℕ) (v : List ℕ) (t : Tree) (l : List Rec) (w : List ℕ) → length w ≡ 80 → sound_after v [] l ≡ true → SoundTree v t → act_number m u v t l w ≡ 17 → ⊥
never_17 m u v t l w n s = Acting.act_answers_never_17 m u v t l w n (sound_means_on v l s)
