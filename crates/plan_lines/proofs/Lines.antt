-- The parts of the lines of a plan, and how two vectors compare.
-- Assumes nothing.
use Prim.Native.Nat.{ℕ}
use mathlib.Core.Path.{◌≡◌, refl, ap}
use mathlib.Core.List.{List, [], ◌∷◌}
use Rattle.model.specs.Vector.{Compared, compared, compare_of, comparison_of}
use Rattle.model.specs.Listing.{decimal, seen_line}
use Rattle.line_text.proofs.Chains.{InTwo, InThree}
use Rattle.plan_model.specs.Plan.{round, true_vector, unit_start, pair_start, answer_word, skipped_start, unit_line, pair_line, skipped_line, unit_lines, pair_lines, round_text}
use Rattle.plan_lines.specs.Parts.{pair_answer, pair_other, pairs_skipped}

-- ---- a line

pub unit_seen_is : (v : List ℕ) → InTwo (32 ∷ seen_line v) (32 ∷ []) (seen_line v)
unit_seen_is v = record { parts = refl }

pub unit_is : (u : ℕ) (v : List ℕ) → InThree (unit_line u v) unit_start (decimal u) (32 ∷ seen_line v)
unfolding unit_line
unit_is u v = record { parts = refl }

pub answer_is : (n : ℕ) → InThree (pair_answer n) answer_word (decimal n) (10 ∷ [])
unfolding pair_answer
answer_is n = record { parts = refl }

pub other_is : (b n : ℕ) → InThree (pair_other b n) (32 ∷ []) (decimal b) (pair_answer n)
unfolding pair_other
other_is b n = record { parts = refl }

pub pair_parts : (a b n : ℕ) → InThree (pair_line a b n) pair_start (decimal a) (pair_other b n)
unfolding pair_line pair_other pair_answer
pair_parts a b n = record { parts = refl }

pub skipped_is : (n : ℕ) → InThree (skipped_line n) skipped_start (decimal n) (10 ∷ [])
unfolding skipped_line
skipped_is n = record { parts = refl }

-- ---- the whole text

pub pairs_skipped_is : (s : List ℕ) (k : ℕ) → InTwo (pairs_skipped s k) (pair_lines s 8) (skipped_line k)
unfolding pairs_skipped
pairs_skipped_is s k = record { parts = refl }

pub round_is : (s : List ℕ) (k : ℕ) → InTwo (round_text (round s 0 k)) (unit_lines s 8) (pairs_skipped s k)
unfolding round_text pairs_skipped
round_is s k = record { parts = refl }

-- ---- how two vectors compare

pub pair_answers : (s : List ℕ) (a b : ℕ) {v w : List ℕ} {n x y : ℕ} → v ≡ true_vector s a → w ≡ true_vector s b → compared n x y ≡ comparison_of v w
    → n ≡ compare_of (true_vector s a) (true_vector s b)
unfolding comparison_of
pair_answers s a b {v} {w} {n} ev ew e = let k : n ≡ compare_of v w = ap (λ (c : Compared). c.answer) e in rw (ev, ew) at k
