-- What an accepted event is, and which events an accepted block has.
-- Assumes nothing.
use Prim.Native.Nat.{ℕ, zero, suc, ◌+◌, ◌≤◌, ◌<◌}
use native.Mathlib.Omega.{arith}
use mathlib.Core.Path.{◌≡◌, refl, sym, ap, ◌∙◌}
use mathlib.Core.Logic.{◌⊎◌, inl, inr, ⊎_elim}
use mathlib.Core.Bool.{Bool, true, false, cond, not, ◌&&◌}
use mathlib.Core.List.{List}
use lib.Dec.{ltb, leb, eqb}
use lib.ListN.{get_or, length, take}
use borrow.Author.Tests.{eqb-true, eqb-false, leb-true, ltb-true}
use Rattle.model.specs.Bytes.{same_bytes, blank, part}
use Rattle.model.specs.Block.{sums_hold, archive_in, sender_in, count_in}
use Rattle.byte_slice.proofs.Numbers.{and_true, bool_cases, cond_cases}
use Rattle.plan_model.specs.Plan.{event_at, event_kind, event_unit, event_other, act_holds, pass_holds, event_holds, events_hold, plan_letters, plan_header_holds, plan_body_fault, plan_block_fault, piece_fault}

-- ---- an event

pub record IsAct (e : List ℕ) : Type 0 where
  pub kind : get_or e 0 0 ≡ 1
  pub unit : get_or e 1 0 < 8

pub record IsPass (e : List ℕ) : Type 0 where
  pub kind : get_or e 0 0 ≡ 1 → ⊥
  pub unit : get_or e 1 0 < 8
  pub other : get_or e 2 0 < 8

act-unit : (e : List ℕ) → act_holds e ≡ true → get_or e 1 0 < 8
unfolding act_holds event_unit
act-unit e h = let k = leb-true (get_or e 1 0) 7 (and_true (leb (get_or e 1 0) 7) _ h).0 in omega arith

pass_units : (e : List ℕ) → pass_holds e ≡ true → (get_or e 1 0 < 8) × (get_or e 2 0 < 8)
unfolding pass_holds event_unit event_other
pass_units e h =
    let (a, r) = and_true (leb (get_or e 1 0) 7) _ h in
    let (b, q) = and_true (leb (get_or e 2 0) 7) _ r in
    let k = leb-true (get_or e 1 0) 7 a in
    let l = leb-true (get_or e 2 0) 7 b in
    (omega arith, omega arith)

pub event_cases : (e : List ℕ) → event_holds e ≡ true → IsAct e ⊎ IsPass e
unfolding event_holds event_kind
event_cases e h =
    ⊎_elim
    (λ c. inl (record { kind = eqb-true (get_or e 0 0) 1 c.0; unit = act-unit e (sym c.1 ∙ h) }))
    (λ c.
    let (a, b) = pass_units e (and_true (eqb (get_or e 0 0) 2) (pass_holds e) (sym c.1 ∙ h)).1 in
    inr (record { kind = eqb-false (get_or e 0 0) 1 c.0; unit = a; other = b }))
    (cond_cases (eqb (get_or e 0 0) 1) (act_holds e) (eqb (get_or e 0 0) 2 && pass_holds e))

-- ---- the events of a block

pub event_holds_lem : (b : List ℕ) (n i j : ℕ) → events_hold b i n ≡ true → j < n → event_holds (event_at b (i + j)) ≡ true
unfolding events_hold
event_holds_lem b zero i j h k = absurd (omega arith)
event_holds_lem b (suc n) i zero h k = let e : i + 0 ≡ i = omega arith in rw e (and_true (event_holds (event_at b i)) (events_hold b (suc i) n) h).0
event_holds_lem b (suc n) i (suc j) h k =
    let e : i + suc j ≡ suc i + j = omega arith in
    rw e (event_holds_lem b n (suc i) j (and_true (event_holds (event_at b i)) (events_hold b (suc i) n) h).1 (omega arith))

-- ---- a block

pub record Accepted (archive : ℕ) (b : List ℕ) : Type 0 where
  pub few : count_in b ≤ 5
  pub archive_is : archive_in b ≡ archive
  pub events : events_hold b 0 (count_in b) ≡ true

-- the first of two numbered tests
passed : (t : Bool) (x y : ℕ) → (y ≡ 0 → ⊥) → cond t x y ≡ 0 → (t ≡ true) × (x ≡ 0)
passed true x y d h = (refl, h)
passed false x y d h = absurd (d h)

few_of : (b : List ℕ) → plan_header_holds b ≡ true → count_in b ≤ 5
unfolding plan_header_holds
few_of b h = leb-true (count_in b) 5 (and_true (leb (count_in b) 5) _ h).0

pub accepted_block : (archive : ℕ) (b : List ℕ) → plan_block_fault archive b ≡ 0 → Accepted archive b
unfolding plan_block_fault plan_body_fault
accepted_block archive b h =
    let (_, p) = passed (same_bytes (take 4 b) plan_letters) _ 3 (λ z. omega arith) h in
    let (_, q) = passed (sums_hold b) (plan_body_fault archive b) 4 (λ z. omega arith) p in
    let (header, r) = passed (plan_header_holds b) _ 5 (λ z. omega arith) q in
    let (own, s) = passed (eqb (archive_in b) archive) _ 6 (λ z. omega arith) r in
    let (events, _) = passed (events_hold b 0 (count_in b)) 0 30 (λ z. omega arith) s in
    record { few = few_of b header; archive_is = eqb-true (archive_in b) archive own; events = events }

pub accepted_piece : (archive k : ℕ) (b : List ℕ) → piece_fault archive k b ≡ 0 → (k < 4096) × (length b ≡ 512) × (plan_block_fault archive b ≡ 0)
unfolding piece_fault
accepted_piece archive k b h =
    let (t, p) = passed (ltb k 4096 && eqb (length b) 512) (plan_block_fault archive b) 2 (λ z. omega arith) h in
    let (x, y) = and_true (ltb k 4096) (eqb (length b) 512) t in
    (ltb-true k 4096 x, eqb-true (length b) 512 y, p)
