-- The longest run that counts, one record after another.
-- Assumes nothing.
use Prim.Native.Nat.{ℕ, zero, suc, ◌+◌, ◌≤◌, ◌<◌}
use native.Mathlib.Numerals.{add-one}
use native.Mathlib.Omega.{arith}
use mathlib.Core.Path.{◌≡◌, refl, sym, ◌∙◌}
use mathlib.Core.Logic.{◌⊎◌, ⊎_elim}
use mathlib.Core.Bool.{true, false, cond}
use mathlib.Core.List.{List, [], ◌∷◌}
use lib.Dec.{ltb, leb}
use lib.ListN.{length, get_or, take}
use lib.Seq.{take-suc}
use borrow.Author.Tests.{leb-true}
use Rattle.model.specs.Lengths.{base_places}
use Rattle.model.specs.Record.{Rec, op}
use Rattle.model.specs.Replay.{Tree, step, replay_from}
use Rattle.call_model.specs.Fold.{counts_as_base, longest}
use Rattle.byte_slice.proofs.Numbers.{bool_cases, and_true}
use Rattle.tree_laws.proofs.Settling.{replay-append}
use Rattle.fold_count_laws.specs.Counted.{present_count, count_after, room_in}
use Rattle.fold_count_laws.proofs.Present.{present_step}

-- ---- one record more

pub replay-next : (t : Tree) (l : List Rec) (i : ℕ) → i < length l → replay_from t (take (i + 1) l) ≡ step (replay_from t (take i l)) (get_or l i [])
unfolding replay_from
replay-next t l i h = rw (add-one i, take-suc l i [] h, replay-append t (take i l) (get_or l i [] ∷ []))

-- how many entries are present goes on by the operation and by whether there are more asides
pub present_next : (t : Tree) (l : List Rec) (i : ℕ) → i < length l → 1 ≤ op (get_or l i [])
    → present_count (replay_from t (take (i + 1) l))
    ≡ count_after (op (get_or l i [])) (ltb (length (replay_from t (take i l)).asides) (length (replay_from t (take (i + 1) l)).asides)) (present_count (replay_from t (take i l)))
present_next t l i h o = rw (replay-next t l i h) (present_step (replay_from t (take i l)) (get_or l i []) o)

-- ---- the longest run

pub counts_exact : (t : Tree) (l : List Rec) (n : ℕ) → counts_as_base t l n ≡ room_in (present_count (replay_from t (take n l))) (length (replay_from t (take n l)).asides)
unfolding counts_as_base present_count room_in
counts_exact t l n = refl

pub longest-none : (t : Tree) (l : List Rec) → longest t l 0 ≡ 0
unfolding longest
longest-none t l = refl

pub longest-next : (t : Tree) (l : List Rec) (n : ℕ)
    → longest t l (n + 1) ≡ cond (room_in (present_count (replay_from t (take (n + 1) l))) (length (replay_from t (take (n + 1) l)).asides)) (n + 1) (longest t l n)
unfolding longest
longest-next t l n = rw (add-one n, counts_exact t l (suc n))

pub longest_most : (t : Tree) (l : List Rec) (n : ℕ) → longest t l n ≤ n
unfolding longest
longest_most t l zero = omega arith
longest_most t l (suc n) =
    ⊎_elim
    (λ (q : counts_as_base t l (suc n) ≡ true). rw q (omega arith))
    (λ (q : counts_as_base t l (suc n) ≡ false). rw q (omega (arith, longest_most t l n)))
    (bool_cases (counts_as_base t l (suc n)))

-- behind a base that counts, the longest run counts
pub longest-counts : (t : Tree) (l : List Rec) (n : ℕ) → counts_as_base t l 0 ≡ true → counts_as_base t l (longest t l n) ≡ true
unfolding longest
longest-counts t l zero e = e
longest-counts t l (suc n) e =
    ⊎_elim
    (λ (q : counts_as_base t l (suc n) ≡ true). rw q q)
    (λ (q : counts_as_base t l (suc n) ≡ false). rw q (longest-counts t l n e))
    (bool_cases (counts_as_base t l (suc n)))

pub room_present : (p a : ℕ) → room_in p a ≡ true → p ≤ 512
unfolding room_in
room_present p a e = leb-true p 512 (and_true (leb p base_places) (leb a base_places) e).0

pub room_asides : (p a : ℕ) → room_in p a ≡ true → a ≤ 512
unfolding room_in
room_asides p a e = leb-true a 512 (and_true (leb p base_places) (leb a base_places) e).1

-- so the base that is left has at most 512 of each
module _ (t : Tree) (l : List Rec) (n : ℕ) (from : counts_as_base t l 0 ≡ true) where
  left : room_in (present_count (replay_from t (take (longest t l n) l))) (length (replay_from t (take (longest t l n) l)).asides) ≡ true
  left = sym (counts_exact t l (longest t l n)) ∙ longest-counts t l n from

  pub left_present : present_count (replay_from t (take (longest t l n) l)) ≤ 512
  left_present = room_present (present_count (replay_from t (take (longest t l n) l))) (length (replay_from t (take (longest t l n) l)).asides) left

  pub left_asides : length (replay_from t (take (longest t l n) l)).asides ≤ 512
  left_asides = room_asides (present_count (replay_from t (take (longest t l n) l))) (length (replay_from t (take (longest t l n) l)).asides) left
