-- An event, and event after event of a block, over plain values.
-- Assumes nothing.
use Prim.Native.Nat.{ℕ, zero, suc, ◌+◌, ◌-◌, ◌*◌, ◌≤◌, ◌<◌}
use native.Mathlib.Numerals.{add-one}
use native.Mathlib.Omega.{arith}
use mathlib.Core.Path.{◌≡◌, refl, sym, ap, subst, ◌∙◌}
use mathlib.Core.Logic.{⊎_elim}
use mathlib.Core.Bool.{true}
use mathlib.Core.List.{List}
use lib.ListN.{get_or, length, take, drop}
use Rattle.model.specs.Bytes.{part}
use Rattle.model.specs.Block.{count_in}
use Rattle.byte_slice.proofs.Numbers.{and_true}
use Rattle.byte_slice.proofs.Parts.{part_is}
use Rattle.plan_model.specs.Plan.{Round, round, with_log, act_done, act_tried, pass_taken, pass_done, event_at, event_wish, event_holds, event_done, events_hold, events_done, plan_block_fault, block_done}
use Rattle.plan_units.specs.Units.{Units}
use Rattle.plan_units.proofs.Holding.{IsAct, IsPass, event_cases, event_holds_lem, accepted_block}
use Rattle.plan_units.proofs.Events.{Goes, act-done, pass-done, event_goes}

-- ---- an event

pub unit_low : (e : List ℕ) → event_holds e ≡ true → get_or e 1 0 < 8
unit_low e h = ⊎_elim (λ (a : IsAct e). a.unit) (λ (p : IsPass e). p.unit) (event_cases e h)

pub other_low : (e : List ℕ) → event_holds e ≡ true → (get_or e 0 0 ≡ 1 → ⊥) → get_or e 2 0 < 8
other_low e h d = ⊎_elim (λ (a : IsAct e). absurd (d a.kind)) (λ (p : IsPass e). p.other) (event_cases e h)

module _ (archive : ℕ) (s e : List ℕ) (m k : ℕ) where
  pub acted : (t : Round) → get_or e 0 0 ≡ 1 → t ≡ act_done (round s m k) (get_or e 1 0) (act_tried s (get_or e 1 0) (take (84 - 4) (drop 4 e)))
      → t ≡ event_done archive (round s m k) e
  unfolding event_wish part
  acted t h q = q ∙ sym (act-done archive (round s m k) e h)

  pub passed : (l : List ℕ) → (get_or e 0 0 ≡ 1 → ⊥) → l ≡ with_log s (get_or e 2 0) (pass_taken archive s (get_or e 1 0) (get_or e 2 0)).log
      → round l m k ≡ event_done archive (round s m k) e
  unfolding pass_done
  passed l h q = ap (λ (x : List ℕ). round x m k) q ∙ sym (pass-done archive (round s m k) e h)

-- ---- event after event

-- how many events an accepted block has
pub few_events : (archive : ℕ) (b : List ℕ) {n : ℕ} → plan_block_fault archive b ≡ 0 → n ≡ count_in b → n ≤ 5
few_events archive b h e = rw e (accepted_block archive b h).few

-- each of them is one
pub event_at_lem : (archive : ℕ) (b : List ℕ) {n : ℕ} (i : ℕ) → plan_block_fault archive b ≡ 0 → n ≡ count_in b → i < n
    → event_holds (take (28 + 84 * i + 84 - (28 + 84 * i)) (drop (28 + 84 * i) b)) ≡ true
unfolding event_at
event_at_lem archive b {n} i h e k =
    let z : 0 + i ≡ i = omega arith in
    let p = event_holds_lem b (count_in b) 0 i (accepted_block archive b h).events (omega arith) in
    rw (part_is b (28 + 84 * i) 84) (subst (λ (j : ℕ). event_holds (event_at b j) ≡ true) z p)

one_more : (archive : ℕ) (b : List ℕ) (s : Round) (i n : ℕ) → events_done archive s b i (suc n) ≡ events_done archive (event_done archive s (event_at b i)) b (suc i) n
unfolding events_done
one_more archive b s i n = refl

module _ (archive : ℕ) (b : List ℕ) (n i : ℕ) (s l l' : List ℕ) (m k m' k' m'' k'' : ℕ) (units : Units l) (lt : i < n)
    (holds : event_holds (take (28 + 84 * i + 84 - (28 + 84 * i)) (drop (28 + 84 * i) b)) ≡ true)
    (happened : round l' m'' k'' ≡ event_done archive (round l m' k') (take (28 + 84 * i + 84 - (28 + 84 * i)) (drop (28 + 84 * i) b))) where
  goes : Goes (round l m' k') (round l' m'' k'')
  goes = subst (Goes (round l m' k')) (sym happened) (event_goes archive (round l m' k') _ units holds)

  pub units_on : Units l'
  units_on = goes.units

  pub skipped_on : k' ≤ k + i → k'' ≤ k + (i + 1)
  skipped_on h = omega (arith, goes.skipped)

  pub goes_on_lem : events_done archive (round l m' k') b i (n - i) ≡ events_done archive (round s m k) b 0 n
      → events_done archive (round l' m'' k'') b (i + 1) (n - (i + 1)) ≡ events_done archive (round s m k) b 0 n
  unfolding event_at
  goes_on_lem inv =
      let t : Round = event_done archive (round l m' k') (event_at b i) in
      let e : n - i ≡ suc (n - (i + 1)) = omega arith in
      let h : round l' m'' k'' ≡ t = rw (part_is b (28 + 84 * i) 84) at happened in
      ap (λ (x : Round). events_done archive x b (i + 1) (n - (i + 1))) h
      ∙ ap (λ (j : ℕ). events_done archive t b j (n - (i + 1))) (add-one i)
      ∙ sym (one_more archive b (round l m' k') i (n - (i + 1)))
      ∙ ap (events_done archive (round l m' k') b i) (sym e)
      ∙ inv

pub ends : (archive : ℕ) (b : List ℕ) (n i : ℕ) (t s : Round) → i ≤ n → n ≤ i → n ≡ count_in b → events_done archive t b i (n - i) ≡ events_done archive s b 0 n
    → t ≡ block_done archive s b
unfolding events_done block_done
ends archive b n i t s l g c inv = let e : n - i ≡ 0 = omega arith in (rw e at inv) ∙ ap (events_done archive s b 0) c

-- ---- what a block leaves

events_go : (archive : ℕ) (b : List ℕ) (n i : ℕ) (s : Round) → events_hold b i n ≡ true → Units s.logs
    → Units (events_done archive s b i n).logs × ((events_done archive s b i n).skipped ≤ s.skipped + n)
unfolding events_done events_hold
events_go archive b zero i s h w = (w, omega arith)
events_go archive b (suc n) i s h w =
    let (a, r) = and_true (event_holds (event_at b i)) (events_hold b (suc i) n) h in
    let g = event_goes archive s (event_at b i) w a in
    let (x, y) = events_go archive b n (suc i) (event_done archive s (event_at b i)) r g.units in
    (x, omega (arith, g.skipped))

pub block_goes : (archive : ℕ) (s : Round) (b : List ℕ) → Units s.logs → plan_block_fault archive b ≡ 0
    → Units (block_done archive s b).logs × ((block_done archive s b).skipped ≤ s.skipped + 5)
unfolding block_done
block_goes archive s b w h =
    let k = accepted_block archive b h in
    let (x, y) = events_go archive b (count_in b) 0 s k.events w in
    (x, omega (arith, k.few))
