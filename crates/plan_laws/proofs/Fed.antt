-- A plan fed block by block comes to what it is as a whole.
-- Assumes nothing.
use Prim.Native.Nat.{ℕ, zero, suc, ◌+◌, ◌-◌, ◌*◌, ◌/◌, ◌≤◌, ◌<◌}
use native.Mathlib.Omega.{arith}
use mathlib.Core.Path.{◌≡◌, refl, sym, ap, subst, ◌∙◌}
use mathlib.Core.Logic.{◌⊎◌, inl, inr, ⊎_elim}
use mathlib.Core.Bool.{Bool, true, false, cond}
use mathlib.Core.List.{List, []}
use lib.Dec.{leb, eqb}
use lib.ListN.{length, take, drop, length-take}
use lib.Seq.{take_all}
use borrow.Author.Tests.{eq-eqb, ne_eqb, eqb-true, eqb-false, le-leb, lt-leb}
use Rattle.model.specs.Bytes.{part}
use Rattle.model.specs.Block.{archive_in}
use Rattle.model.specs.File.{Fault, fault, block_at}
use Rattle.model.specs.Listing.{refused_line}
use Rattle.byte_slice.proofs.Numbers.{lt_or_ge, eq_or_ne, cond_cases}
use Rattle.plan_model.specs.Plan.{piece_fault, piece_fault_at, pieces, plan_archive, plan_fault_from, plan_fault, Round, new_round, block_done, blocks_done, round_of, round_text, plan_text}
use Rattle.plan_model.specs.Feed.{Fed, begun, archive_of, passes, stops_at, judged_fed, feed_of, fed_to, fed_text, FedAsWhole}

-- ---- the archive

pub first_archive : (f : List ℕ) → plan_archive (block_at f 0) ≡ plan_archive f
unfolding plan_archive block_at part
first_archive f =
    let n = length-take 512 f in
    let again : take 512 (take 512 f) ≡ take 512 f = take_all 512 (take 512 f) (omega arith) in
    ⊎_elim
    (λ (h : 512 ≤ length f). rw (le-leb 512 (length f) h, le-leb 512 (length (take 512 f)) (omega arith), again))
    (λ (h : length f < 512). rw (lt-leb 512 (length f) h, lt-leb 512 (length (take 512 f)) (omega arith)))
    (⊎_elim (λ l. inr l) (λ l. inl l) (lt_or_ge (length f) 512))

-- ---- one block more at the end

module _ (f : List ℕ) where
  fault_at : ℕ → ℕ
  fault_at k = piece_fault (plan_archive f) k (block_at f k)

  -- a fault among the first blocks is that of one block more
  fault_stays : (n k : ℕ) → ((plan_fault_from f k n).number ≡ 0 → ⊥) → plan_fault_from f k (suc n) ≡ plan_fault_from f k n
  unfolding plan_fault_from fault
  fault_stays zero k h = absurd (h refl)
  fault_stays (suc n) k h =
      ⊎_elim
      (λ c. rw c.0 (fault_stays n (suc k) (λ z. h (ap (λ (x : Fault). x.number) c.1 ∙ z))))
      (λ c. rw c.0)
      (cond_cases (eqb (piece_fault (plan_archive f) k (block_at f k)) 0) (plan_fault_from f (suc k) n) (piece_fault_at (piece_fault (plan_archive f) k (block_at f k)) k))

  -- behind blocks without a fault the next decides
  fault-next : (n k : ℕ) → (plan_fault_from f k n).number ≡ 0 → plan_fault_from f k (suc n) ≡ cond (eqb (fault_at (k + n)) 0) (fault 0 0) (piece_fault_at (fault_at (k + n)) (k + n))
  unfolding plan_fault_from fault_at fault
  fault-next zero k h = let e : k + 0 ≡ k = omega arith in rw e
  fault-next (suc n) k h =
      let e : k + suc n ≡ suc k + n = omega arith in
      ⊎_elim
      (λ c. rw (c.0, e) (fault-next n (suc k) (ap (λ (x : Fault). x.number) (sym c.1) ∙ h)))
      (λ c. absurd (eqb-false (piece_fault (plan_archive f) k (block_at f k)) 0 c.0 (ap (λ (x : Fault). x.number) (sym c.1) ∙ h)))
      (cond_cases (eqb (piece_fault (plan_archive f) k (block_at f k)) 0) (plan_fault_from f (suc k) n) (piece_fault_at (piece_fault (plan_archive f) k (block_at f k)) k))

  blocks_next : (n k : ℕ) (s : Round) → blocks_done (plan_archive f) s f k (suc n) ≡ block_done (plan_archive f) (blocks_done (plan_archive f) s f k n) (block_at f (k + n))
  unfolding blocks_done
  blocks_next zero k s = let e : k + 0 ≡ k = omega arith in rw e
  blocks_next (suc n) k s = let e : k + suc n ≡ suc k + n = omega arith in rw e (blocks_next n (suc k) (block_done (plan_archive f) s (block_at f k)))

  fault_last : (n : ℕ) → (plan_fault_from f 0 n).number ≡ 0 → plan_fault_from f 0 (suc n) ≡ cond (eqb (fault_at n) 0) (fault 0 0) (piece_fault_at (fault_at n) n)
  fault_last n h =
      let e : 0 + n ≡ n = omega arith in
      subst (λ (j : ℕ). plan_fault_from f 0 (suc n) ≡ cond (eqb (fault_at j) 0) (fault 0 0) (piece_fault_at (fault_at j) j)) e (fault-next n 0 h)

  blocks_last : (n : ℕ) → blocks_done (plan_archive f) new_round f 0 (suc n) ≡ block_done (plan_archive f) (blocks_done (plan_archive f) new_round f 0 n) (block_at f n)
  blocks_last n =
      let e : 0 + n ≡ n = omega arith in
      subst (λ (j : ℕ). blocks_done (plan_archive f) new_round f 0 (suc n) ≡ block_done (plan_archive f) (blocks_done (plan_archive f) new_round f 0 n) (block_at f j)) e
      (blocks_next n 0 new_round)

  -- ---- the first n blocks

  -- they passed
  record Passed (n : ℕ) (x : Fed) : Type 0 where
    none : plan_fault_from f 0 n ≡ fault 0 0
    number : x.refusal ≡ fault 0 0
    blocks : x.blocks ≡ n
    archive : (n ≡ 0 → ⊥) → x.archive ≡ plan_archive f
    state : x.state ≡ blocks_done (plan_archive f) new_round f 0 n

  -- one of them did not
  record Stopped (n : ℕ) (x : Fed) : Type 0 where
    some : (plan_fault_from f 0 n).number ≡ 0 → ⊥
    refusal : x.refusal ≡ plan_fault_from f 0 n

  judged_by : (n : ℕ) (x : Fed) → Passed n x → archive_of x (block_at f n) ≡ plan_archive f
  unfolding archive_of
  judged_by zero x p = rw (eq-eqb x.blocks 0 p.blocks) (first_archive f)
  judged_by (suc n) x p = let z : x.blocks ≡ 0 → ⊥ = λ e. omega (arith, p.blocks) in rw (ne_eqb x.blocks 0 z) (p.archive (λ e. omega arith))

  feed_stopped : (n : ℕ) (x : Fed) → Stopped n x → Stopped (suc n) (feed_of x (block_at f n))
  unfolding feed_of
  feed_stopped n x p =
      let e = fault_stays n 0 p.some in
      let z : x.refusal.number ≡ 0 → ⊥ = λ q. p.some (ap (λ (y : Fault). y.number) (sym p.refusal) ∙ q) in
      record {
        some = λ q. p.some (ap (λ (y : Fault). y.number) (sym e) ∙ q);
        refusal = rw (ne_eqb x.refusal.number 0 z) (p.refusal ∙ sym e);
      }

  judged : (n : ℕ) (x : Fed) → Passed n x → feed_of x (block_at f n) ≡ judged_fed x (block_at f n) (fault_at n)
  unfolding feed_of fault_at fault
  judged n x p =
      let b : List ℕ = block_at f n in
      let z : x.refusal.number ≡ 0 = ap (λ (w : Fault). w.number) p.number in
      let y : piece_fault (archive_of x b) x.blocks b ≡ piece_fault (plan_archive f) n b =
      ap (λ (a : ℕ). piece_fault a x.blocks b) (judged_by n x p) ∙ ap (λ (k : ℕ). piece_fault (plan_archive f) k b) p.blocks in
      rw (eq-eqb x.refusal.number 0 z) (ap (judged_fed x b) y)

  fed_on : (n : ℕ) (x : Fed) → Passed n x → fault_at n ≡ 0 → feed_of x (block_at f n) ≡ passes x (archive_of x (block_at f n)) (block_at f n)
  unfolding judged_fed
  fed_on n x p z = judged n x p ∙ rw (eq-eqb (fault_at n) 0 z)

  fed_stops : (n : ℕ) (x : Fed) → Passed n x → (fault_at n ≡ 0 → ⊥) → feed_of x (block_at f n) ≡ stops_at x (fault_at n)
  unfolding judged_fed
  fed_stops n x p z = judged n x p ∙ rw (ne_eqb (fault_at n) 0 z)

  feed_passed : (n : ℕ) (x : Fed) → Passed n x → Passed (suc n) (feed_of x (block_at f n)) ⊎ Stopped (suc n) (feed_of x (block_at f n))
  unfolding passes stops_at fault
  feed_passed n x p =
      let b : List ℕ = block_at f n in
      let a : archive_of x b ≡ plan_archive f = judged_by n x p in
      let next = fault_last n (ap (λ (w : Fault). w.number) p.none) in
      ⊎_elim
      (λ (z : fault_at n ≡ 0).
      inl
      (subst (Passed (suc n)) (sym (fed_on n x p z))
      (record {
        none = rw (eq-eqb (fault_at n) 0 z) at next;
        number = refl;
        blocks = ap suc p.blocks;
        archive = λ _. a;
        state =
            ap (λ (y : ℕ). block_done y x.state b) a
            ∙ ap (λ (y : Round). block_done (plan_archive f) y b) p.state
            ∙ sym (blocks_last n);
      })))
      (λ (z : fault_at n ≡ 0 → ⊥).
      let found : plan_fault_from f 0 (suc n) ≡ piece_fault_at (fault_at n) n = rw (ne_eqb (fault_at n) 0 z) at next in
      inr
      (subst (Stopped (suc n)) (sym (fed_stops n x p z))
      (record {
        some = λ q. z (sym (ap (λ (w : Fault). w.number) found) ∙ q);
        refusal = ap (piece_fault_at (fault_at n)) p.blocks ∙ sym found;
      })))
      (eq_or_ne (fault_at n) 0)

  fed_cases : (n : ℕ) → Passed n (fed_to f n) ⊎ Stopped n (fed_to f n)
  unfolding fed_to plan_fault_from blocks_done fault
  fed_cases zero = inl (record { none = refl; number = refl; blocks = refl; archive = λ z. absurd (z refl); state = refl })
  fed_cases (suc n) = ⊎_elim (λ p. feed_passed n (fed_to f n) p) (λ p. inr (feed_stopped n (fed_to f n) p)) (fed_cases n)

-- ---- the whole plan

pub fed_as_whole : (f : List ℕ) → FedAsWhole f
unfolding fed_text plan_text plan_fault round_of fault
fed_as_whole f =
    let n : ℕ = pieces f in
    let x : Fed = fed_to f n in
    ⊎_elim
    (λ (p : Passed f n x).
    record {
      text = rw (p.number, p.none) (ap round_text p.state);
      refused = p.number ∙ sym p.none;
      units = λ _. p.state;
    })
    (λ (p : Stopped f n x).
    let z : x.refusal.number ≡ 0 → ⊥ = λ q. p.some (ap (λ (y : Fault). y.number) (sym p.refusal) ∙ q) in
    record {
      text = rw (ne_eqb x.refusal.number 0 z, ne_eqb (plan_fault_from f 0 n).number 0 p.some) (ap (λ (y : Fault). refused_line y.number y.place) p.refusal);
      refused = p.refusal;
      units = λ q. absurd (p.some q);
    })
    (fed_cases f n)
