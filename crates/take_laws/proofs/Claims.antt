-- Claim P3: arrival decides nothing.
-- Assumes nothing.
use Prim.Native.Nat.{ℕ}
use native.Mathlib.Omega.{arith}
use mathlib.Core.Path.{◌≡◌, sym, ap, ◌∙◌}
use mathlib.Core.Logic.{◌⊎◌, ⊎_elim, ◌↔◌}
use mathlib.Core.Bool.{true, false, false≢true}
use mathlib.Core.List.{List, [], ◌++◌}
use Rattle.model.specs.Record.{Rec}
use Rattle.model.specs.Log.{no_counts, sound_after}
use Rattle.model.specs.Replay.{replay_from, replay, trim}
use Rattle.model.specs.Table.{table_bytes}
use Rattle.call_model.specs.Outcome.{taken, is_folded, takes_all}
use Rattle.log_laws.specs.Members.{Has, Agree}
use Rattle.log_laws.proofs.Same.{unique_on, same_on, counts_sub_on}
use Rattle.log_laws.proofs.Tests.{sound_means, means_sound, sound_means_on}
use Rattle.log_laws.proofs.Claims.{order_fixed}
use Rattle.tree_laws.proofs.Trimming.{shown_from_base}
use Rattle.take_laws.specs.Held.{Counts}
use Rattle.take_laws.proofs.Take.{above_base, beyond_folded, Grown, all_from}
use Rattle.take_laws.proofs.Held.{take_adds}
use Rattle.take_laws.proofs.Arrival.{take_all-append}

-- blocks taken one after another are their records taken one after another
pub blocks_end_to_end : (m : ℕ) (v : List ℕ) (l rs qs k : List Rec) → takes_all m v l rs ≡ taken k → takes_all m v l (rs ++ qs) ≡ takes_all m v k qs
blocks_end_to_end = take_all-append

-- two logs behind one base vector that took in the same records, but for folded ones, in whatever order and blocks and by whatever
-- lists, are the same, and so show the same
pub arrival_decides_nothing : (m n : ℕ) (v : List ℕ) (b c rs qs k p : List Rec) → sound_after v [] b ≡ true → sound_after v [] c ≡ true
    → takes_all m v b rs ≡ taken k → takes_all n v c qs ≡ taken p
    → ((s : Rec) → is_folded v s ≡ false → (Has s b ⊎ Has s rs) ↔ (Has s c ⊎ Has s qs)) → k ≡ p
arrival_decides_nothing m n v b c rs qs k p x y e f h =
    let g = all_from m v rs b k (sound_means_on v b x) e in
    let d = all_from n v qs c p (sound_means_on v c y) f in
    let fore : (s : Rec) → Has s k → Has s p = λ s i.
    let new = beyond_folded v s (above_base v [] k s g.sound i) in
    has_all n c qs p d s new ((h s new).0 (g.from s i)) in
    let back : (s : Rec) → Has s p → Has s k = λ s i.
    let new = beyond_folded v s (above_base v [] p s d.sound i) in
    has_all m b rs k g s new ((h s new).1 (d.from s i)) in
    same_on v k p g.sound d.sound
    (λ r s i j. unique_on v [] p d.sound r s (fore r i) j)
    (λ u _. omega (arith, counts_sub_on v k p g.sound d.sound fore u, counts_sub_on v p k d.sound g.sound back u))
  where
    -- what is not folded is there
    has_all : (m : ℕ) (l rs k : List Rec) → Grown m v l rs k → (s : Rec) → is_folded v s ≡ false → Has s l ⊎ Has s rs → Has s k
    has_all m l rs k g s new i =
        ⊎_elim (λ j. g.kept s j) (λ j. ⊎_elim (λ a. a) (λ a. absurd (false≢true (sym new ∙ a))) (g.got s j)) i

-- whatever the bases: p and q are the folded records, with which those taken agree
module _ (m n : ℕ) (v w : List ℕ) (p q b c rs qs k j : List Rec) (cv : Counts v p) (cw : Counts w q) (sb : sound_after no_counts [] (p ++ b) ≡ true)
    (sc : sound_after no_counts [] (q ++ c) ≡ true) (agree : Agree p rs) (agree' : Agree q qs) (e : takes_all m v b rs ≡ taken k) (f : takes_all n w c qs ≡ taken j)
    (same : (s : Rec) → (Has s (p ++ b) ⊎ Has s rs) ↔ (Has s (q ++ c) ⊎ Has s qs)) where
  -- all records held are the same
  pub arrival_over_bases : p ++ k ≡ q ++ j
  arrival_over_bases =
      let g = take_adds v p cv m rs b k (sound_means (p ++ b) sb) e in
      let d = take_adds w q cw n qs c j (sound_means (q ++ c) sc) f in
      order_fixed (p ++ k) (q ++ j) (means_sound (p ++ k) g.sound) (means_sound (q ++ j) d.sound)
      (λ s. (
        λ i. ⊎_elim (λ x. d.kept s x) (λ x. d.got agree' s x) ((same s).0 (g.from s i)),
        λ i. ⊎_elim (λ x. g.kept s x) (λ x. g.got agree s x) ((same s).1 (d.from s i)),
      ))

  -- and so both show the same
  pub arrival_shows_the_same : table_bytes (replay_from (trim (replay p)) k) ≡ table_bytes (replay_from (trim (replay q)) j)
  arrival_shows_the_same = shown_from_base p k ∙ ap (λ (l : List Rec). table_bytes (replay l)) arrival_over_bases ∙ sym (shown_from_base q j)
