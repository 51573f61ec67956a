-- What the loop over the records of a block is asked, over plain values.
-- Assumes nothing.
use Prim.Native.Nat.{ℕ, suc, ◌+◌, ◌-◌, ◌*◌, ◌≤◌, ◌<◌}
use native.Mathlib.Nat.{sub-zero}
use native.Mathlib.Numerals.{add-one}
use native.Mathlib.Omega.{arith}
use mathlib.Core.Path.{◌≡◌, refl, sym, ◌∙◌}
use mathlib.Core.List.{List, [], ◌∷◌}
use lib.ListN.{length, take, drop}
use lib.Seq.{take-take}
use Rattle.model.specs.Bytes.{put_at}
use Rattle.model.specs.Record.{Rec}
use Rattle.model.specs.Block.{count_in, record_at, records_from, block_records}
use Rattle.call_model.specs.Outcome.{refused, take_one, takes_all}
use Rattle.byte_slice.proofs.Parts.{part_is, part_length}
use Rattle.byte_slice.proofs.PutAt.{take_put}
use Rattle.take_laws.proofs.Take.{take_all-nil, take_all_goes, take_all_stops}
use Rattle.log_closure.specs.Tables.{Placed}
use Rattle.log_check.specs.declared.Layout.TheVariants.{Log}
use Rattle.log_check.specs.Places.{laid_at}
use Rattle.take_beside.specs.Judging.{Counted, Step, step, take_by}
use Rattle.take_row_store.specs.Grown.{held_in}
use Rattle.take_row_judge.specs.Kept.{Kept, JudgedInto}
use Rattle.take_row_judge.proofs.Laid.{kept-placed, kept_counted, kept_few, laid_refused, laid_taken}

-- the first j records of a block passed: all records are held, and the rest is still to come; work₀ and i stand for before
pub record Running (m : ℕ) (v : List ℕ) (l : List Rec) (start : ℕ) (block : List ℕ) (n j : ℕ) (work₀ : List ℕ) (i : ℕ) (work : List ℕ) (used : ℕ) (held places seens : List ℕ) : Type 0 where
  pub kept : Kept m v l start work used held places seens
  pub rest : takes_all m v (held_in l start work used) (records_from block j (n - j)) ≡ takes_all m v (held_in l start work₀ i) (block_records block)
  pub front : take (80 * i) work ≡ take (80 * i) work₀
  pub grows : i ≤ used

pub running_starts : (m : ℕ) (v : List ℕ) (l : List Rec) (start : ℕ) (block : List ℕ) (n : ℕ) (work : List ℕ) (i : ℕ) (held places seens : List ℕ) → n ≡ count_in block → Kept m v l start work i held places seens
    → Running m v l start block n 0 work i work i held places seens
unfolding block_records
running_starts m v l start block n work i held places seens e k = record { kept = k; rest = rw (sub-zero n, e); front = refl; grows = omega arith }

module _ (m : ℕ) (v : List ℕ) (l : List Rec) (start : ℕ) (block : List ℕ) (n j : ℕ) (work₀ : List ℕ) (i : ℕ) (work : List ℕ) (used : ℕ) (held places seens : List ℕ) (g : Running m v l start block n j work₀ i work used held places seens) where
  pub running_placed : Placed v held places
  running_placed = kept-placed m v l start work used held places seens g.kept

  pub running_counted : Counted v held used
  running_counted = kept_counted m v l start work used held places seens g.kept

  pub running_few : used ≤ 512
  running_few = kept_few m v l start work used held places seens g.kept

  pub running_ends : j ≤ n → n ≤ j → JudgedInto m v l start block work₀ i 0 work used held places seens
  unfolding records_from
  running_ends h k =
      let e : n - j ≡ 0 = omega arith in
      let r : takes_all m v (held_in l start work used) [] ≡ takes_all m v (held_in l start work₀ i) (block_records block) = rw e at g.rest in
      record { refuses = λ z. absurd (z refl); accepts = λ z. sym r ∙ take_all-nil m v (held_in l start work used); kept = λ z. g.kept; front = g.front }

  module _ (h : j < n) (few : n ≤ 6) (long : length work ≡ 41440) (size : length block ≡ 512) (work' : List ℕ) (w : work' ≡ put_at work (80 * used) (take (28 + 80 * j + 80 - (28 + 80 * j)) (drop (28 + 80 * j) block)))
      (number : ℕ) (held' : List ℕ) (used' : ℕ) (places' seens' : List ℕ)
      (e : step number held' used' places' seens' ≡ take_by m v (laid_at Log work') (take (28 + 80 * j + 80 - (28 + 80 * j)) (drop (28 + 80 * j) block)) used held used places seens) where
    o : Step
    o = step number held' used' places' seens'

    judged : o ≡ take_by m v (laid_at Log work') (record_at block j) used held used places seens
    unfolding record_at o
    judged = rw (part_is block (28 + 80 * j) 80) at e

    laid : work' ≡ put_at work (80 * used) (record_at block j)
    unfolding record_at
    laid = rw (part_is block (28 + 80 * j) 80) at w

    long_record : length (record_at block j) ≡ 80
    unfolding record_at
    long_record = part_length block (28 + 80 * j) 80 (omega arith)

    next_rest : takes_all m v (held_in l start work used) (record_at block j ∷ records_from block (suc j) (n - (j + 1))) ≡ takes_all m v (held_in l start work₀ i) (block_records block)
    unfolding records_from
    next_rest = let f : n - j ≡ suc (n - (j + 1)) = omega arith in rw f at g.rest

    next_front : take (80 * i) work' ≡ take (80 * i) work₀
    next_front =
        let k = g.grows in
        sym (take-take (80 * i) (80 * used) work' (omega arith))
        ∙ rw (laid, take_put work (80 * used) (record_at block j) (omega (arith, running_few)), take-take (80 * i) (80 * used) work (omega arith)) g.front

    pub running_stops : (number ≡ 0 → ⊥) → JudgedInto m v l start block work₀ i number work' used' held' places' seens'
    unfolding o
    running_stops z =
        let t : take_one m v (held_in l start work used) (record_at block j) ≡ refused number = laid_refused m v l start work used held places seens g.kept (record_at block j) long_record long work' laid o judged z in
        record {
          refuses = λ y. sym next_rest ∙ take_all_stops m v (held_in l start work used) (record_at block j) (records_from block (suc j) (n - (j + 1))) number t;
          accepts = λ y. absurd (z y);
          kept = λ y. absurd (z y);
          front = next_front;
        }

    pub running_next : number ≡ 0 → Running m v l start block n (j + 1) work₀ i work' used' held' places' seens'
    unfolding o
    running_next z =
        let p = laid_taken m v l start work used held places seens g.kept (record_at block j) long_record long work' laid o judged z in
        record {
          kept = p.kept;
          rest = rw (add-one j) (sym (take_all_goes m v (held_in l start work used) (record_at block j) (records_from block (suc j) (n - suc j)) (held_in l start work' used') p.takes) ∙ (rw (add-one j) at next_rest));
          front = next_front;
          grows = omega (arith, p.grows, g.grows);
        }

    pub running_room : number ≡ 0 → used' ≤ 512
    running_room z = kept_few m v l start work' used' held' places' seens' (running_next z).kept
