-- The ways out of the checks of a plan block, over plain values.
-- Assumes nothing.
use Prim.Native.Nat.{ℕ, ◌+◌, ◌-◌, ◌*◌, ◌≤◌, ◌<◌}
use native.Mathlib.Omega.{arith}
use mathlib.Core.Path.{◌≡◌, sym, ◌∙◌}
use mathlib.Core.Bool.{Bool, true, false, not}
use mathlib.Core.List.{List}
use lib.Dec.{leb}
use lib.ListN.{length, take, drop}
use borrow.Author.Tests.{eq-eqb, ne_eqb, le-leb, lt-leb, lt-ltb, le-ltb, leb-true, not-true, not-false}
use Rattle.model.specs.Bytes.{same_bytes, blank, part}
use Rattle.model.specs.Block.{sums_hold, archive_in, sender_in, count_in}
use Rattle.byte_slice.proofs.Numbers.{and_true}
use Rattle.plan_model.specs.Plan.{events_hold, plan_letters, plan_header_holds, plan_body_fault, plan_block_fault, piece_fault}

-- ---- the header

module _ (b : List ℕ) {n : ℕ} (en : n ≡ count_in b) where
  pub many_events : 5 < n → false ≡ plan_header_holds b
  unfolding plan_header_holds
  many_events h = rw (← en, lt-leb n 5 h)

  module _ {u : ℕ} (few : n ≤ 5) (eu : u ≡ sender_in b) where
    pub has_unit : (u ≡ 0 → ⊥) → false ≡ plan_header_holds b
    unfolding plan_header_holds
    has_unit h = rw (← en, le-leb n 5 few, ← eu, ne_eqb u 0 h)

    module _ {t : Bool} (z : u ≡ 0) (et : t ≡ blank (take (28 - 10) (drop 10 b))) where
      pub head_set : not t ≡ true → false ≡ plan_header_holds b
      unfolding plan_header_holds part
      head_set h = rw (← en, le-leb n 5 few, ← eu, eq-eqb u 0 z, ← et, not-true t h)

      pub rest_decides : {s : Bool} → not t ≡ false → s ≡ blank (take (508 - (28 + 84 * n)) (drop (28 + 84 * n) b)) → s ≡ plan_header_holds b
      unfolding plan_header_holds part
      rest_decides h es =
          let m : 480 - 84 * n ≡ 508 - (28 + 84 * n) = omega arith in
          es ∙ rw (← en, le-leb n 5 few, ← eu, eq-eqb u 0 z, ← et, not-false t h, m)

-- an accepted header counts at most five events
pub few_events : (b : List ℕ) {n : ℕ} {t : Bool} → n ≡ count_in b → t ≡ plan_header_holds b → not t ≡ false → n ≤ 5
unfolding plan_header_holds
few_events b {n} {t} en et h =
    let e : leb n 5 ≡ true = (and_true (leb n 5) _ (rw (← en) at (sym et ∙ not-false t h))).0 in
    leb-true n 5 e

-- ---- 5, 6, 30

module _ (archive : ℕ) (b : List ℕ) {t : Bool} (et : t ≡ plan_header_holds b) where
  pub bad_header_lem : not t ≡ true → 5 ≡ plan_body_fault archive b
  unfolding plan_body_fault
  bad_header_lem h = rw (← et, not-true t h)

  module _ {a : ℕ} (h : not t ≡ false) (ea : a ≡ archive_in b) where
    pub other_archive_lem : (a ≡ archive → ⊥) → 6 ≡ plan_body_fault archive b
    unfolding plan_body_fault
    other_archive_lem d = rw (← et, not-false t h, ← ea, ne_eqb a archive d)

    module _ {n : ℕ} {s : Bool} (d : a ≡ archive) (en : n ≡ count_in b) (es : s ≡ events_hold b 0 n) where
      pub bad_event_lem : not s ≡ true → 30 ≡ plan_body_fault archive b
      unfolding plan_body_fault
      bad_event_lem q = rw (← et, not-false t h, ← ea, eq-eqb a archive d, ← en, ← es, not-true s q)

      pub no_fault : not s ≡ false → 0 ≡ plan_body_fault archive b
      unfolding plan_body_fault
      no_fault q = rw (← et, not-false t h, ← ea, eq-eqb a archive d, ← en, ← es, not-false s q)

-- ---- 3 and 4 before them

module _ (archive : ℕ) (b : List ℕ) {t : Bool} (et : t ≡ same_bytes (take 4 b) plan_letters) where
  pub bad_letters_lem : not t ≡ true → 3 ≡ plan_block_fault archive b
  unfolding plan_block_fault
  bad_letters_lem h = rw (← et, not-true t h)

  module _ {s : Bool} (h : not t ≡ false) (es : s ≡ sums_hold b) where
    pub bad_sum_lem : not s ≡ true → 4 ≡ plan_block_fault archive b
    unfolding plan_block_fault
    bad_sum_lem q = rw (← et, not-false t h, ← es, not-true s q)

    pub body_decides : {x : ℕ} → not s ≡ false → x ≡ plan_body_fault archive b → x ≡ plan_block_fault archive b
    unfolding plan_block_fault
    body_decides q ex = ex ∙ rw (← et, not-false t h, ← es, not-false s q)

-- ---- 2 before all

module _ (archive k : ℕ) (b : List ℕ) where
  pub too_many : 4096 ≤ k → 2 ≡ piece_fault archive k b
  unfolding piece_fault
  too_many h = rw (le-ltb k 4096 h)

  module _ (h : k < 4096) where
    pub part_block : (length b ≡ 512 → ⊥) → 2 ≡ piece_fault archive k b
    unfolding piece_fault
    part_block d = rw (lt-ltb k 4096 h, ne_eqb (length b) 512 d)

    pub block_decides : {x : ℕ} → length b ≡ 512 → x ≡ plan_block_fault archive b → x ≡ piece_fault archive k b
    unfolding piece_fault
    block_decides d ex = ex ∙ rw (lt-ltb k 4096 h, eq-eqb (length b) 512 d)
