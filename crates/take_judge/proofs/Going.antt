-- What the loop over the records of a block is asked, over plain values.
-- Assumes nothing.
use Prim.Native.Nat.{ℕ, suc, ◌+◌, ◌-◌, ◌*◌, ◌≤◌, ◌<◌}
use native.Mathlib.Nat.{sub_self, sub-zero}
use native.Mathlib.Numerals.{add-one}
use native.Mathlib.Omega.{arith}
use mathlib.Core.Path.{◌≡◌, refl, sym, ap, ◌∙◌}
use mathlib.Core.Bool.{cond}
use mathlib.Core.List.{List, [], ◌∷◌}
use lib.Dec.{eqb}
use lib.ListN.{length, take, drop}
use borrow.Author.Tests.{eq-eqb, ne_eqb, lt-ltb, le-ltb}
use Rattle.model.specs.Bytes.{part}
use Rattle.model.specs.Log.{records_of}
use Rattle.model.specs.Block.{count_in, record_at, records_from, block_records}
use Rattle.call_model.specs.Outcome.{refused, take_one, takes_all}
use Rattle.byte_slice.proofs.Parts.{part_is}
use Rattle.log_closure.specs.Tables.{Indexed, Placed}
use Rattle.log_admit.proofs.Tables.{indexed_placed, indexed_where}
use Rattle.log_check.specs.declared.Layout.TheVariants.{Log}
use Rattle.log_check.specs.Places.{laid_at}
use Rattle.take_beside.specs.Judging.{Counted, held_at, Step, step, take_by, judge_from, judgement, judge_of, after, after_to, JudgeGives}
use Rattle.take_laws.proofs.Take.{take_all-nil, take_all_goes, take_all_stops}
use Rattle.take_judge.proofs.Beside.{counted, beside_refused, beside_taken}

-- the first j records of a block are taken: the tables have all records held, and the rest is still to come
pub record Going (list : ℕ) (base log block : List ℕ) (n j : ℕ) (held : List ℕ) (used : ℕ) (places seens : List ℕ) : Type 0 where
  pub indexed : Indexed base (held_at log block) (512 + j) (after_to list base (records_of log) (record_at block) j) held places seens
  pub counts : used ≡ length (after_to list base (records_of log) (record_at block) j)
  pub rest : takes_all list base (after_to list base (records_of log) (record_at block) j) (records_from block j (n - j)) ≡ takes_all list base (records_of log) (block_records block)

pub going_starts : (list : ℕ) (base log block : List ℕ) (n : ℕ) (held : List ℕ) (used : ℕ) (places seens : List ℕ) → n ≡ count_in block → used ≡ length (records_of log)
    → Indexed base (laid_at Log log) used (records_of log) held places seens → Going list base log block n 0 held used places seens
unfolding after_to block_records held_at
going_starts list base log block n held used places seens e f h =
    record {
      indexed = indexed_where base (laid_at Log log) used (records_of log) held places seens h (held_at log block) 512 (omega (arith, h.few)) (omega arith) (λ p k. rw (lt-ltb p 512 (omega (arith, h.few))));
      counts = f;
      rest = rw (e, sub-zero (count_in block));
    }

module _ (list : ℕ) (base log block : List ℕ) (n j : ℕ) (held : List ℕ) (used : ℕ) (places seens : List ℕ) (g : Going list base log block n j held used places seens) where
  pub going_placed : Placed base held places
  going_placed = indexed_placed base (held_at log block) (512 + j) (after_to list base (records_of log) (record_at block) j) held places seens g.indexed

  pub going_counted : Counted base held used
  going_counted = counted base (held_at log block) (512 + j) (after_to list base (records_of log) (record_at block) j) held places seens g.indexed used g.counts

  pub going_few : used ≤ 512
  going_few = omega (arith, g.counts, g.indexed.few)

  pub going_ends : j ≤ n → n ≤ j → JudgeGives list base (records_of log) block n 0
  unfolding records_from
  going_ends h k =
      let e : j ≡ n = omega arith in
      let r : takes_all list base (after_to list base (records_of log) (record_at block) n) [] ≡ takes_all list base (records_of log) (block_records block) = rw (e, sub_self n) at g.rest in
      record { refuses = λ z. absurd (z refl); accepts = λ z. sym r ∙ take_all-nil list base (after_to list base (records_of log) (record_at block) n) }

  module _ (h : j < n) (few : n ≤ 6) (number : ℕ) (held' : List ℕ) (used' : ℕ) (places' seens' : List ℕ)
      (e : step number held' used' places' seens' ≡ take_by list base (held_at log block) (take (28 + 80 * j + 80 - (28 + 80 * j)) (drop (28 + 80 * j) block)) (512 + j) held used places seens) where
    o : Step
    o = step number held' used' places' seens'

    judged : o ≡ take_by list base (held_at log block) (record_at block j) (512 + j) held used places seens
    unfolding record_at o
    judged = rw (part_is block (28 + 80 * j) 80) at e

    stands_here : held_at log block (512 + j) ≡ record_at block j
    unfolding held_at
    stands_here = let f : 512 + j - 512 ≡ j = omega arith in rw (le-ltb (512 + j) 512 (omega arith), f)

    next_rest : takes_all list base (after_to list base (records_of log) (record_at block) j) (record_at block j ∷ records_from block (suc j) (n - (j + 1))) ≡ takes_all list base (records_of log) (block_records block)
    unfolding records_from
    next_rest = let f : n - j ≡ suc (n - (j + 1)) = omega arith in rw f at g.rest

    pub going_stops : (number ≡ 0 → ⊥) → JudgeGives list base (records_of log) block n number
    unfolding o
    going_stops z =
        let l = after_to list base (records_of log) (record_at block) j in
        let t : take_one list base l (record_at block j) ≡ refused number = beside_refused base (held_at log block) (512 + j) l held places seens g.indexed used g.counts list (record_at block j) (512 + j) (omega arith) (omega arith) stands_here o judged z in
        record { refuses = λ y. sym next_rest ∙ take_all_stops list base l (record_at block j) (records_from block (suc j) (n - (j + 1))) number t; accepts = λ y. absurd (z y) }

    pub going_next : number ≡ 0 → Going list base log block n (j + 1) held' used' places' seens'
    unfolding o after_to
    going_next z =
        let l = after_to list base (records_of log) (record_at block) j in
        let a = beside_taken base (held_at log block) (512 + j) l held places seens g.indexed used g.counts list (record_at block j) (512 + j) (omega arith) (omega arith) stands_here o judged z in
        let f : 512 + (j + 1) ≡ suc (512 + j) = omega arith in
        record {
          indexed = rw (f, add-one j) a.indexed;
          counts = rw (add-one j) a.counts;
          rest = rw (add-one j) (sym (take_all_goes list base l (record_at block j) (records_from block (suc j) (n - suc j)) (after list base l (record_at block j)) a.takes) ∙ (rw (add-one j) at next_rest));
        }

-- ---- what judging leaves

pub left_starts : (list : ℕ) (base log block : List ℕ) (n : ℕ) (v : List ℕ) (m : ℕ) (places seens : List ℕ) → judge_from list base log block 0 (n - 0) v m places seens ≡ judge_from list base log block 0 n v m places seens
left_starts list base log block n v m places seens = rw sub-zero

module _ (list : ℕ) (base log block : List ℕ) (n j : ℕ) (held : List ℕ) (used : ℕ) (places seens v : List ℕ) (m : ℕ) (places₀ seens₀ : List ℕ)
    (f : judge_from list base log block j (n - j) held used places seens ≡ judge_from list base log block 0 n v m places₀ seens₀) where
  told : (s : Step) → s ≡ judge_from list base log block 0 n v m places₀ seens₀ → judgement s.number s.places s.seens ≡ judge_of list base log block n v m places₀ seens₀
  unfolding judge_of
  told s e = ap (λ (x : Step). judgement x.number x.places x.seens) e

  pub left_ends : j ≤ n → n ≤ j → judgement 0 places seens ≡ judge_of list base log block n v m places₀ seens₀
  unfolding judge_from
  left_ends h k = let e : n - j ≡ 0 = omega arith in told (step 0 held used places seens) (rw e at f)

  module _ (h : j < n) (number : ℕ) (held' : List ℕ) (used' : ℕ) (places' seens' : List ℕ)
      (e : step number held' used' places' seens' ≡ take_by list base (held_at log block) (take (28 + 80 * j + 80 - (28 + 80 * j)) (drop (28 + 80 * j) block)) (512 + j) held used places seens) where
    more : cond (eqb number 0) (judge_from list base log block (j + 1) (n - (j + 1)) held' used' places' seens') (step number held' used' places' seens') ≡ judge_from list base log block 0 n v m places₀ seens₀
    unfolding judge_from record_at part
    more =
        let q : n - j ≡ suc (n - (j + 1)) = omega arith in
        let w : 28 + 80 * j + 80 - (28 + 80 * j) ≡ 80 = omega arith in
        rw (q, ← (rw w at e), ← add-one j) at f

    pub left_stops : (number ≡ 0 → ⊥) → judgement number places' seens' ≡ judge_of list base log block n v m places₀ seens₀
    left_stops z = told (step number held' used' places' seens') (rw (ne_eqb number 0 z) at more)

    pub left-next : number ≡ 0 → judge_from list base log block (j + 1) (n - (j + 1)) held' used' places' seens' ≡ judge_from list base log block 0 n v m places₀ seens₀
    left-next z = rw (eq-eqb number 0 z) at more
