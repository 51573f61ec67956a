-- A row taken is the takes of its blocks played, up to the first refusal.
-- Assumes nothing.
use Prim.Native.Nat.{ℕ, zero, suc, ◌+◌, ◌-◌, ◌≤◌, ◌<◌}
use native.Mathlib.Nat.{sub_self, sub-zero}
use native.Mathlib.Omega.{arith}
use mathlib.Core.Path.{◌≡◌, refl, sym, ap, subst, ◌∙◌}
use mathlib.Core.Logic.{⊎_elim}
use mathlib.Core.Bool.{true}
use mathlib.Core.List.{List, append-nil}
use lib.ListN.{length}
use borrow.Author.Tests.{eq-eqb, ne_eqb}
use Rattle.model.specs.File.{blocks_in, block_at}
use Rattle.call_model.specs.Outcome.{guard_number, take_of}
use Rattle.row_model.specs.Row.{Tried, tried, row_fits, try_from, try_all, took_row, take_row_of}
use Rattle.byte_slice.proofs.Numbers.{lt_or_ge, eq_or_ne}
use Rattle.machine.specs.Machine.{takes, Bench, Block, block_given, done, gives, unit_of, base_left, put, after, next, play}
use Rattle.machine_rows.specs.RowPlay.{takes_from, EveryRowPlays}

taken_least : (archive u : ℕ) (base row log : List ℕ) (k n : ℕ) → k ≤ (try_from archive u base row log k n).taken
unfolding try_from
taken_least archive u base row log k zero = omega arith
taken_least archive u base row log k (suc n) =
    ⊎_elim
    (λ (z : (take_of archive u log base (block_at row k)).number ≡ 0). rw (eq-eqb (take_of archive u log base (block_at row k)).number 0 z) (omega (arith, taken_least archive u base row (take_of archive u log base (block_at row k)).log (suc k) n)))
    (λ (z : (take_of archive u log base (block_at row k)).number ≡ 0 → ⊥). rw (ne_eqb (take_of archive u log base (block_at row k)).number 0 z) (omega arith))
    (eq_or_ne (take_of archive u log base (block_at row k)).number 0)

module _ (archive u : ℕ) (row : List ℕ) (at : ℕ → ℕ) where
  -- a take gives no block
  same_given : (s : Bench) (m j : ℕ) → block_given (next archive s (takes u m)) j ≡ block_given s j
  unfolding block_given next after gives
  same_given s m j = rw (append-nil s.given)

  next_log : (s : Bench) (k : ℕ) → block_at row k ≡ (block_given s (at k)).bytes → (next archive s (takes u (at k))).logs u ≡ (take_of archive u (s.logs u) (s.bases u) (block_at row k)).log
  unfolding next after put unit_of done
  next_log s k e = rw (eq-eqb u u refl, e)

  -- nor does it write the base
  next_base : (s : Bench) (k : ℕ) → (next archive s (takes u k)).bases u ≡ s.bases u
  unfolding next after put unit_of base_left
  next_base s k = rw (eq-eqb u u refl)

  take-answers : (s : Bench) (k : ℕ) → block_at row k ≡ (block_given s (at k)).bytes → (done archive s (takes u (at k))).number ≡ (take_of archive u (s.logs u) (s.bases u) (block_at row k)).number
  unfolding done
  take-answers s k e = rw e

  -- what was tried from block k on, played from the bench s on
  record Played (k : ℕ) (s : Bench) (t : Tried) : Type 0 where
    pub log : t.log ≡ (play archive s (takes_from u at k (t.taken - k))).logs u
    pub zeros : (j : ℕ) → k ≤ j → j < t.taken → (done archive (play archive s (takes_from u at k (j - k))) (takes u (at j))).number ≡ 0
    pub stop : (t.stopped ≡ 0 → ⊥) → (done archive (play archive s (takes_from u at k (t.taken - k))) (takes u (at t.taken))).number ≡ t.stopped

  played_none : (k : ℕ) (s : Bench) (n : ℕ) → ((n ≡ 0 → ⊥) → (done archive s (takes u (at k))).number ≡ n) → Played k s (tried k n (s.logs u))
  unfolding takes_from play
  played_none k s n h = record { log = rw (sub_self k); zeros = λ j a b. absurd (omega arith); stop = λ z. rw (sub_self k) (h z) }

  played_more : (k : ℕ) (s : Bench) (t : Tried) → (done archive s (takes u (at k))).number ≡ 0 → suc k ≤ t.taken → Played (suc k) (next archive s (takes u (at k))) t → Played k s t
  unfolding takes_from play
  played_more k s t z m p =
      let q : t.taken - k ≡ suc (t.taken - suc k) = omega arith in
      record {
        log = rw q p.log;
        zeros = λ j a b.
            ⊎_elim
            (λ (e : j ≡ k). rw (e, sub_self k) z)
            (λ (e : j ≡ k → ⊥).
            let g : suc k ≤ j = omega (arith, ne_le j k a e) in
            let f : j - k ≡ suc (j - suc k) = omega arith in
            rw f (p.zeros j g b))
            (eq_or_ne j k);
        stop = λ y. rw q (p.stop y);
      }
    where
      ne_le : (j k : ℕ) → k ≤ j → (j ≡ k → ⊥) → suc k ≤ j
      ne_le j k a e = ⊎_elim (λ (x : k < j). omega arith) (λ (x : j ≤ k). absurd (e (omega arith))) (lt_or_ge k j)

  plays : (n k : ℕ) (s : Bench) → ((j : ℕ) → k ≤ j → j < k + n → block_at row j ≡ (block_given s (at j)).bytes) → Played k s (try_from archive u (s.bases u) row (s.logs u) k n)
  unfolding try_from
  plays zero k s h = played_none k s 0 (λ z. absurd (z refl))
  plays (suc n) k s h =
      let e : block_at row k ≡ (block_given s (at k)).bytes = h k (omega arith) (omega arith) in
      ⊎_elim
      (λ (z : (take_of archive u (s.logs u) (s.bases u) (block_at row k)).number ≡ 0).
      let s' = next archive s (takes u (at k)) in
      let p : Played k s (try_from archive u (s'.bases u) row (s'.logs u) (suc k) n) =
      played_more k s (try_from archive u (s'.bases u) row (s'.logs u) (suc k) n) (take-answers s k e ∙ z) (taken_least archive u (s'.bases u) row (s'.logs u) (suc k) n)
      (plays n (suc k) s' (λ j a b. h j (omega arith) (omega arith) ∙ ap (λ (x : Block). x.bytes) (sym (same_given s (at k) (at j)))))
      in
      let q : Played k s (try_from archive u (s.bases u) row (s'.logs u) (suc k) n) =
      subst (λ (b : List ℕ). Played k s (try_from archive u b row (s'.logs u) (suc k) n)) (next_base s (at k)) p
      in
      rw (eq-eqb (take_of archive u (s.logs u) (s.bases u) (block_at row k)).number 0 z)
      (subst (λ (l : List ℕ). Played k s (try_from archive u (s.bases u) row l (suc k) n)) (next_log s k e) q))
      (λ (z : (take_of archive u (s.logs u) (s.bases u) (block_at row k)).number ≡ 0 → ⊥).
      rw (ne_eqb (take_of archive u (s.logs u) (s.bases u) (block_at row k)).number 0 z) (played_none k s (take_of archive u (s.logs u) (s.bases u) (block_at row k)).number (λ y. take-answers s k e)))
      (eq_or_ne (take_of archive u (s.logs u) (s.bases u) (block_at row k)).number 0)

  -- a row that is turned away is no take
  turned : (s : Bench) (n : ℕ) (t : Tried) → Played 0 s t
      → ((took_row n (s.logs u) t).log ≡ (play archive s (takes_from u at 0 (took_row n (s.logs u) t).taken)).logs u)
      × ((k : ℕ) → k < (took_row n (s.logs u) t).taken → (done archive (play archive s (takes_from u at 0 k)) (takes u (at k))).number ≡ 0)
      × (((took_row n (s.logs u) t).stopped ≡ 0 → ⊥)
      → (done archive (play archive s (takes_from u at 0 (took_row n (s.logs u) t).taken)) (takes u (at (took_row n (s.logs u) t).taken))).number ≡ (took_row n (s.logs u) t).stopped)
  unfolding takes_from play
  turned s zero t p = (
    rw (sub-zero t.taken) at p.log,
    λ k h. rw (sub-zero k) at (p.zeros k (omega arith) h),
    λ z. rw (sub-zero t.taken) at (p.stop z),
  )
  turned s (suc n) t p = (refl, λ k h. absurd (omega arith), λ z. absurd (z refl))

pub every_row_plays : EveryRowPlays
unfolding take_row_of try_all
every_row_plays archive s u row at h =
    let (a, b, c) = turned archive u row at s (guard_number u (s.logs u) (s.bases u) true (row_fits (length row))) (try_from archive u (s.bases u) row (s.logs u) 0 (blocks_in row))
    (plays archive u row at (blocks_in row) 0 s (λ j x y. h j (omega arith))) in
    record { log = a; zeros = b; stop = c }
