-- What the pass over records in order is asked, over plain values.
-- Assumes nothing.
use Prim.Native.Nat.{ℕ, suc, ◌+◌, ◌-◌, ◌≤◌, ◌<◌}
use native.Mathlib.Nat.{sub-zero, sub_self, zero-add}
use native.Mathlib.Numerals.{add-one}
use native.Mathlib.Omega.{arith}
use mathlib.Core.Path.{◌≡◌, refl, sym, ap, ◌∙◌}
use mathlib.Core.Bool.{cond}
use mathlib.Core.Option.{none}
use mathlib.Core.List.{List, [], ◌∷◌, ◌++◌, append-nil}
use lib.Dec.{eqb}
use lib.ListN.{length, take, drop, replicate}
use borrow.Author.Tests.{eq-eqb, ne_eqb}
use Rattle.model.specs.Bytes.{part}
use Rattle.model.specs.Record.{Rec, unit, num}
use Rattle.model.specs.Log.{by_id, record_fault}
use Rattle.byte_slice.proofs.Parts.{part_is}
use Rattle.log_closure.specs.Tables.{Indexed, Placed, Spare, floor_of, noted, admit_of}
use Rattle.log_admit.proofs.Counts.{Alike, alike-cons, alike_trans, alike_inside}
use Rattle.log_admit.proofs.Tables.{indexed_placed, indexed_alike, indexed_none}
use Rattle.log_admit.proofs.Admits.{indexed_spare, admit_fault, admit_indexed, admit_floor, admit_next}
use Rattle.log_check.specs.declared.Layout.{Layout}
use Rattle.log_check.specs.Places.{offset_of, laid_at, Laid}
use Rattle.log_check.specs.InOrder.{listed, before, found, first_fault, Scan, scanned, scan_from, scan_of, ScanGives}
use Rattle.log_check.proofs.Lists.{before-length, listed-length, listed_more}

-- the first i records have no fault: they are in the tables, the next must rank above the last, and in order they are alike
pub record Passed (base : List ℕ) (at : ℕ → Rec) (i : ℕ) (held : List ℕ) (floor : ℕ) (places seens : List ℕ) : Type 0 where
  pub indexed : Indexed base at i (before at i) held places seens
  pub above : floor ≡ floor_of (before at i)
  pub alike : Alike (before at i) (listed at 0 i)

pub passed_none : (base : List ℕ) (at : ℕ → Rec) (held places seens : List ℕ) → length base ≡ 8 → held ≡ base → length places ≡ 4096 → length seens ≡ 4144 → Passed base at 0 held 0 places seens
unfolding before listed floor_of
passed_none base at held places seens n e p s =
    record { indexed = indexed_none base at held places seens n e p s; above = refl; alike = record { counts = λ u. refl; records = λ u c. refl } }

module _ (base : List ℕ) (at : ℕ → Rec) (i : ℕ) (held : List ℕ) (floor : ℕ) (places seens : List ℕ) (p : Passed base at i held floor places seens) where
  pub passed_placed : Placed base held places
  passed_placed = indexed_placed base at i (before at i) held places seens p.indexed

  module _ (n : ℕ) (h : i < n) (few : n ≤ 512) where
    pub passed_spare : Spare base held
    passed_spare = indexed_spare base at i (before at i) held places seens p.indexed (omega (arith, before-length at i))

    module _ (number : ℕ) (held' : List ℕ) (floor' : ℕ) (places' seens' : List ℕ) (e : noted number held' floor' places' seens' ≡ admit_of base (at i) i held floor places seens) where
      fault : number ≡ record_fault base (before at i) (at i)
      fault = admit_fault base at i (before at i) held places seens p.indexed floor p.above (at i) i (noted number held' floor' places' seens') e

      step : first_fault base at i (n - i) ≡ cond (eqb number 0) (first_fault base at (i + 1) (n - (i + 1))) (found number i)
      unfolding first_fault
      step = let q : n - i ≡ suc (n - (i + 1)) = omega arith in rw (q, fault, add-one)

      pub stops : (number ≡ 0 → ⊥) → first_fault base at i (n - i) ≡ first_fault base at 0 n → (v : List ℕ) → ScanGives base at n number i v places' seens'
      stops z f v = record { first = sym (rw (ne_eqb number 0 z) at step) ∙ f; holds = λ y. absurd (z y) }

      module _ (z : number ≡ 0) where
        pub goes_on_lem : first_fault base at i (n - i) ≡ first_fault base at 0 n → first_fault base at (i + 1) (n - (i + 1)) ≡ first_fault base at 0 n
        goes_on_lem f = sym (rw (eq-eqb number 0 z) at step) ∙ f

        -- no record before has the identity of this one
        absent : by_id (unit (at i)) (num (at i)) (listed at 0 i) ≡ none
        absent = sym (p.alike.records (unit (at i)) (num (at i))) ∙ p.indexed.beyond (unit (at i)) (num (at i)) (omega (arith, admit_next base at i (before at i) held places seens p.indexed floor p.above (at i) i (noted number held' floor' places' seens') e z))

        alike_more : Alike (before at (i + 1)) (listed at 0 (i + 1))
        unfolding before
        alike_more =
            let a : Alike (at i ∷ (listed at 0 i ++ [])) (listed at 0 i ++ at i ∷ []) = alike_inside (at i) [] (listed at 0 i) (rw append-nil absent) in
            let b : Alike (at i ∷ listed at 0 i) (listed at 0 i ++ at i ∷ []) = rw append-nil at a in
            rw (listed_more at 0 i, zero-add, add-one i) (alike_trans (alike-cons (at i) p.alike) b)

        pub passed_next : Passed base at (i + 1) held' floor' places' seens'
        unfolding before
        passed_next =
            let o = noted number held' floor' places' seens' in
            record {
              indexed = rw (add-one i) (admit_indexed base at i (before at i) held places seens p.indexed floor p.above (at i) i o e (omega (arith, before-length at i)) (omega arith) (omega arith) refl z);
              above = rw (add-one i) (admit_floor base at i (before at i) held places seens p.indexed floor p.above (at i) i o e (omega (arith, before-length at i)) (omega arith) (omega arith) refl z);
              alike = alike_more;
            }

-- ---- what the pass leaves

pub left-none : (base : List ℕ) (at : ℕ → Rec) (n : ℕ) (held places seens : List ℕ) → held ≡ base → scan_from base at 0 (n - 0) held 0 places seens ≡ scan_of base at n places seens
unfolding scan_of
left-none base at n held places seens e = rw (e, sub-zero n)

module _ (base : List ℕ) (at : ℕ → Rec) (i n : ℕ) (held : List ℕ) (floor : ℕ) (places seens : List ℕ) (s : Scan) (f : scan_from base at i (n - i) held floor places seens ≡ s) where
  pub left_ends : i ≤ n → n ≤ i → scanned 0 0 held places seens ≡ s
  unfolding scan_from
  left_ends h g = let e : n - i ≡ 0 = omega arith in rw e at f

  module _ (h : i < n) (number : ℕ) (held' : List ℕ) (floor' : ℕ) (places' seens' : List ℕ) (e : noted number held' floor' places' seens' ≡ admit_of base (at i) i held floor places seens) where
    more : cond (eqb number 0) (scan_from base at (i + 1) (n - (i + 1)) held' floor' places' seens') (scanned number i (replicate 8 0) places' seens') ≡ s
    unfolding scan_from
    more = let q : n - i ≡ suc (n - (i + 1)) = omega arith in rw (q, ← e, ← add-one i) at f

    left_stops : (number ≡ 0 → ⊥) → (v : List ℕ) → v ≡ replicate 8 0 → scanned number i v places' seens' ≡ s
    left_stops z v w = rw w (rw (ne_eqb number 0 z) at more)

    left_more : number ≡ 0 → scan_from base at (i + 1) (n - (i + 1)) held' floor' places' seens' ≡ s
    left_more z = rw (eq-eqb number 0 z) at more

-- ---- as the code has it

module _ (k : Layout) (b : List ℕ) where
  pub laid_inside : (n i at : ℕ) → Laid k b n → i < n → at ≡ offset_of k i → at + 80 ≤ length b
  laid_inside n i at l h e = rw e (l.inside i h)

  lent_is : (i at : ℕ) → at ≡ offset_of k i → take (at + 80 - at) (drop at b) ≡ laid_at k b i
  unfolding laid_at
  lent_is i at e = part_is b at 80 ∙ ap (λ (a : ℕ). part b a 80) e

  module _ (base : List ℕ) (n i : ℕ) (held : List ℕ) (floor : ℕ) (places seens : List ℕ) (s : Scan) (f : scan_from base (laid_at k b) i (n - i) held floor places seens ≡ s) (h : i < n) (at : ℕ) (q : at ≡ offset_of k i) (number : ℕ)
      (held' : List ℕ) (floor' : ℕ) (places' seens' : List ℕ) (e : noted number held' floor' places' seens' ≡ admit_of base (take (at + 80 - at) (drop at b)) i held floor places seens) where
    pub scan_left : (number ≡ 0 → ⊥) → (v : List ℕ) → v ≡ replicate 8 0 → scanned number i v places' seens' ≡ s
    scan_left z v w = left_stops base (laid_at k b) i n held floor places seens s f h number held' floor' places' seens' (rw (lent_is i at q) at e) z v w

    pub scan_more : number ≡ 0 → scan_from base (laid_at k b) (i + 1) (n - (i + 1)) held' floor' places' seens' ≡ s
    scan_more z = left_more base (laid_at k b) i n held floor places seens s f h number held' floor' places' seens' (rw (lent_is i at q) at e) z

  module _ (base : List ℕ) (n i : ℕ) (held : List ℕ) (floor : ℕ) (places seens : List ℕ) (p : Passed base (laid_at k b) i held floor places seens) where
    pub scan_ends : i ≤ n → n ≤ i → first_fault base (laid_at k b) i (n - i) ≡ first_fault base (laid_at k b) 0 n → n ≤ 512 → ScanGives base (laid_at k b) n 0 0 held places seens
    unfolding first_fault
    scan_ends h g f few =
        let e : i ≡ n = omega arith in
        record {
          first = rw (e, sub_self) at f;
          holds = λ z. indexed_alike base (laid_at k b) n (before (laid_at k b) n) held places seens (rw e at p.indexed) (listed (laid_at k b) 0 n) (rw e at p.alike) (omega (arith, listed-length (laid_at k b) 0 n));
        }

    module _ (h : i < n) (few : n ≤ 512) (at : ℕ) (q : at ≡ offset_of k i) (number : ℕ) (held' : List ℕ) (floor' : ℕ) (places' seens' : List ℕ)
        (e : noted number held' floor' places' seens' ≡ admit_of base (take (at + 80 - at) (drop at b)) i held floor places seens) where
      admitted : noted number held' floor' places' seens' ≡ admit_of base (laid_at k b i) i held floor places seens
      admitted = rw (lent_is i at q) at e

      pub scan_stops : first_fault base (laid_at k b) i (n - i) ≡ first_fault base (laid_at k b) 0 n → (number ≡ 0 → ⊥) → (v : List ℕ) → ScanGives base (laid_at k b) n number i v places' seens'
      scan_stops f z v = stops base (laid_at k b) i held floor places seens p n h few number held' floor' places' seens' admitted z f v

      pub scan_first : first_fault base (laid_at k b) i (n - i) ≡ first_fault base (laid_at k b) 0 n → number ≡ 0 → first_fault base (laid_at k b) (i + 1) (n - (i + 1)) ≡ first_fault base (laid_at k b) 0 n
      scan_first f z = goes_on_lem base (laid_at k b) i held floor places seens p n h few number held' floor' places' seens' admitted z f

      pub scan_passed : number ≡ 0 → Passed base (laid_at k b) (i + 1) held' floor' places' seens'
      scan_passed z = passed_next base (laid_at k b) i held floor places seens p n h few number held' floor' places' seens' admitted z
