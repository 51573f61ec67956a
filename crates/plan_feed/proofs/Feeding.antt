-- The ways out of feeding a block, and of the end, over plain values.
-- Assumes nothing.
use Prim.Native.Nat.{ℕ, suc, ◌+◌, ◌*◌, ◌≤◌, ◌<◌}
use native.Mathlib.Omega.{arith}
use mathlib.Core.Path.{◌≡◌, refl, sym, ap, ◌∙◌}
use mathlib.Core.Bool.{cond}
use mathlib.Core.List.{List}
use lib.Dec.{eqb}
use lib.ListN.{length, replicate}
use borrow.Author.Tests.{eq-eqb, ne_eqb}
use Rattle.model.specs.File.{Fault, fault}
use Rattle.model.specs.Listing.{refused_line}
use Rattle.line_text.specs.Written.{Wrote}
use Rattle.plan_model.specs.Plan.{plan_archive, piece_fault, piece_fault_at, plan_block_fault, Round, round, block_done, round_text}
use Rattle.plan_model.specs.Feed.{Fed, begun, archive_of, passes, stops_at, judged_fed, feed_of, fed_text}
use Rattle.plan_units.specs.Units.{Units}
use Rattle.plan_units.proofs.Holding.{accepted_piece}
use Rattle.plan_feed.specs.Going.{fed, Going}

-- ---- the archive

pub own_archive : (k a : ℕ) (b : List ℕ) {x : ℕ} → k ≡ 0 → x ≡ plan_archive b → x ≡ cond (eqb k 0) (plan_archive b) a
own_archive k a b h e = e ∙ rw (eq-eqb k 0 h)

pub first_archive : (k a : ℕ) (b : List ℕ) → (k ≡ 0 → ⊥) → a ≡ cond (eqb k 0) (plan_archive b) a
first_archive k a b h = rw (ne_eqb k 0 h)

-- ---- what is asked of a plan on its way

module _ (n p k a m s : ℕ) (logs : List ℕ) (g : Going (fed n p k a (round logs m s))) where
  pub units_are : Units logs
  units_are = g.units

  pub place_low : k < 65536
  place_low = omega (arith, g.few)

  pub few_skipped : s + 5 < 65536
  few_skipped = omega (arith, g.few, g.skipped)

pub block_long : (archive k : ℕ) (b : List ℕ) {x : ℕ} → x ≡ piece_fault archive k b → x ≡ 0 → length b ≡ 512
block_long archive k b e z = (accepted_piece archive k b (sym e ∙ z)).1

pub block_passes : (archive k : ℕ) (b : List ℕ) {x : ℕ} → x ≡ piece_fault archive k b → x ≡ 0 → plan_block_fault archive b ≡ 0
block_passes archive k b e z = (accepted_piece archive k b (sym e ∙ z)).2

-- ---- the ways out

module _ (n p k a : ℕ) (st : Round) (b : List ℕ) where
  pub refused_before : (n ≡ 0 → ⊥) → fed n p k a st ≡ feed_of (fed n p k a st) b
  unfolding feed_of fault
  refused_before z = rw (ne_eqb n 0 z)

  module _ {x archive : ℕ} (z : n ≡ 0) (by : archive ≡ cond (eqb k 0) (plan_archive b) a) (ex : x ≡ piece_fault archive k b) where
    judged : feed_of (fed n p k a st) b ≡ judged_fed (fed n p k a st) b x
    unfolding feed_of fault archive_of
    judged = rw (eq-eqb n 0 z, ← by, ← ex)

    pub stops : (q r : ℕ) → (x ≡ 0 → ⊥) → fault q r ≡ piece_fault_at x k → fed q r k a st ≡ feed_of (fed n p k a st) b
    unfolding judged_fed stops_at
    stops q r h e = ap (λ (y : Fault). record { refusal = y; blocks = k; archive = a; state = st }) e ∙ sym (judged ∙ rw (ne_eqb x 0 h))

    pub goes_on_lem : (t : Round) → x ≡ 0 → t ≡ block_done archive st b → fed 0 0 (k + 1) archive t ≡ feed_of (fed n p k a st) b
    unfolding judged_fed passes archive_of
    goes_on_lem t h e =
        let i : k + 1 ≡ suc k = omega arith in
        rw (e, i) (sym (judged ∙ rw (eq-eqb x 0 h, ← by)))

-- ---- the end

module _ (n p k a : ℕ) {text after : List ℕ} {r : ℕ} where
  pub prints_refusal : (st : Round) {m : ℕ} → m ≡ n → (n ≡ 0 → ⊥) → Wrote text after 0 r (refused_line m p) → Wrote text after 0 r (fed_text (fed n p k a st))
  unfolding fed_text fault
  prints_refusal st e z w = rw (ne_eqb n 0 z, ← e) w

  pub prints_round : (logs : List ℕ) (m s : ℕ) → n ≡ 0 → Wrote text after 0 r (round_text (round logs 0 s)) → Wrote text after 0 r (fed_text (fed n p k a (round logs m s)))
  unfolding fed_text fault round_text
  prints_round logs m s z w = rw (eq-eqb n 0 z) w
